use Rattle.bucket_core.proofs.Prelude.{sym, ap, subst, ◌∙◌, contents_of, IsFile}
use Rattle.bucket_core.proofs.Files.{nothing_in_no_bytes, no_bytes_are_file}
use Rattle.bucket_core.proofs.bucket.Bucket.empty.Goals as goal

pub bucket_of-requires : goal.bucket_of-requires
bucket_of-requires c = subst IsFile (sym c.new.ensures.items) no_bytes_are_file

pub returns : goal.returns
returns c = c.in_ok-bucket.ensures ∙ c.in_ok-bucket_of.ensures ∙ ap contents_of c.new.ensures.items
    ∙ nothing_in_no_bytes
