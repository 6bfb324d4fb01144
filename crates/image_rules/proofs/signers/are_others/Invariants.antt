use Rattle.image_rules.proofs.Prelude.{◌≢◌, All, Some, take}
use Rattle.image_rules.proofs.signers.are_others.Given as goal

abbrev pub invariant-loop-sponsor : goal.invariant-loop-sponsor
invariant-loop-sponsor l = All (λ s. s ≢ Some l.account_id) (take l.sponsor-index l.sponsors)
