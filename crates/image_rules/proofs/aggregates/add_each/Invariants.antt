use Rattle.image_rules.proofs.Prelude.{take, for_each, Adds}
use Rattle.image_rules.proofs.aggregates.add_each.Given as goal

abbrev pub invariant-loop-id : goal.invariant-loop-id
invariant-loop-id l = Adds l.initial.tally l.tally (λ k. for_each k (take l.id-index l.ids))
