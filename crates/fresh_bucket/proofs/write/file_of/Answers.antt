use Rattle.fresh_bucket.proofs.Encoded.{meta_encoded}
use Rattle.fresh_bucket.proofs.write.file_of.Goals as goal

pub write_meta-requires : goal.write_meta-requires
write_meta-requires c = meta_encoded c.args.version c.ranges.version.fits
