use Rattle.bucket_core.proofs.Containing.{one_more, stands_in}
use Rattle.bucket_core.proofs.index.insert_all.Goals as goal

pub stored_at-requires : goal.stored_at-requires
stored_at-requires c =
    stands_in c.args.file.now c.args.offsets.now c.loop-offset.offset-index c.loop-offset-test.true c.requires.exist

pub loop-offset-preserved : goal.loop-offset-preserved
loop-offset-preserved c =
    one_more c.args.file.now c.args.offsets.now c.loop-offset.words c.insert.new.words c.key.result.now
    c.loop-offset.offset-index c.stored_at.result c.fingerprint-fingerprint.result c.loop-offset-test.true
    c.stored_at.ensures
    c.key.ensures c.fingerprint-fingerprint.ensures c.loop-offset.invariant c.insert.ensures.noted c.insert.ensures.kept
    c.insert.ensures.len
