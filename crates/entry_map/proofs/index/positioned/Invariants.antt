use Rattle.entry_map.proofs.Prelude.{◌≡◌, take, map}
use Rattle.entry_map.specs.Positions.{positioned}
use Rattle.entry_map.proofs.index.positioned.Given as goal

abbrev pub invariant-loop-offer : goal.invariant-loop-offer
invariant-loop-offer l = l.pairs.items ≡ map positioned (take l.offer-index l.offers)
