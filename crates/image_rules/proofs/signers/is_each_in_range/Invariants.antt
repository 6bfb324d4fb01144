use Rattle.image_rules.proofs.Prelude.{All, take, IsSignerInRange}
use Rattle.image_rules.proofs.signers.is_each_in_range.Given as goal

abbrev pub invariant-loop-signer : goal.invariant-loop-signer
invariant-loop-signer l = All (λ s. IsSignerInRange l.account_id s) (take l.signer-index l.signers)
