use Rattle.std.proofs.Common.{rules}
use Rattle.xdr_entries.specs.Basic.{account_id}
use Rattle.xdr_core.specs.Leaves.{fixed}
use Rattle.xdr_core.specs.Combinators.{constant}
use Rattle.bucket_core.proofs.key_encoding.account_fits.Goals as goal

pub returns : goal.returns
unfolding account_id fixed constant
returns c = search (rules, c.bytes_fit.ensures)
