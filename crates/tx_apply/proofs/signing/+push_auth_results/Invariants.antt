use Rattle.tx_apply.proofs.Prelude.{length}
use Rattle.tx_apply.proofs.signing.+push_auth_results.Given as goal

abbrev pub decreases-push_auth_results : goal.decreases-push_auth_results
decreases-push_auth_results l = length l.passes.now
