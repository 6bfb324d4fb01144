use Rattle.image_rules.proofs.Prelude.{Aggregate, agrees_in}
use Rattle.image_rules.proofs.Aggregated.{IsRightKeyed}
use Rattle.image_rules.proofs.Surveying.{AreTested}
use Rattle.image_rules.proofs.agreement.agreement_of.Given as goal

abbrev pub invariant-loop-index : goal.invariant-loop-index
invariant-loop-index l = (which : Aggregate)
    → AreTested (IsRightKeyed which l.entries) l.entries l.index (agrees_in l.agreement which)
