use Rattle.image_rules.proofs.Prelude.{◌≢◌, take, AllPairs}
use Rattle.image_rules.proofs.claimables.are_apart.Given as goal

abbrev pub invariant-loop-index : goal.invariant-loop-index
invariant-loop-index l = AllPairs (λ x y. x.destination ≢ y.destination) (take l.index l.claimants)
