use Rattle.sponsor_rules.proofs.Prelude.{length}
use Rattle.sponsor_rules.proofs.signer_index.+index_for.Given as goal

abbrev pub decreases-index_for : goal.decreases-index_for
decreases-index_for l = length l.signers.now
