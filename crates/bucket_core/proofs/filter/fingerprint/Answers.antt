use Rattle.std.proofs.Common.{rules}
use Rattle.bucket_core.specs.Filter.{fingerprint}
use Rattle.bucket_core.proofs.filter.fingerprint.Goals as goal

pub returns : goal.returns
unfolding fingerprint
returns c = search rules
