use Rattle.bucket_core.proofs.Prelude.{◌∙◌}
use Rattle.bucket_core.proofs.Files.{contents_known, bytes_known}
use Rattle.bucket_core.proofs.bucket.Bucket.of_file_to_merge.Goals as goal

pub unhashed-requires : goal.unhashed-requires
unhashed-requires c = bytes_known c.args.file.items c.requires.0 c.requires.1 c.requires.2

pub returns : goal.returns
returns c = λ contents h e. c.in_ok-bucket.ensures ∙ c.in_ok-unhashed.ensures
    ∙ contents_known c.args.file.items contents h e
