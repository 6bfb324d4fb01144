use Rattle.bucket_core.proofs.Bounds.{long_unencoded}
use Rattle.bucket_core.proofs.key_encoding.encoded_key.Goals as goal

pub returns-in-Some : goal.returns-in-Some
returns-in-Some c = long_unencoded _ _ _ c.in-Some.ensures
