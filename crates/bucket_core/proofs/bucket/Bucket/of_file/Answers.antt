use Rattle.bucket_core.proofs.Prelude.{◌∙◌}
use Rattle.bucket_core.proofs.Files.{contents_known, bytes_known}
use Rattle.bucket_core.proofs.bucket.Bucket.of_file.Goals as goal

pub bucket_of-requires : goal.bucket_of-requires
bucket_of-requires c = bytes_known c.args.file.items c.requires.0 c.requires.1 c.requires.2

pub returns : goal.returns
returns c = λ contents h e. c.in_ok-bucket.ensures ∙ c.in_ok-bucket_of.ensures
    ∙ contents_known c.args.file.items contents h e
