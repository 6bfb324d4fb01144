use Rattle.level_entries.specs.Placed.{IsIndexFrom}
use Rattle.level_entries.proofs.offers.offers_in.Given as goal

abbrev pub invariant-loop-ahead : goal.invariant-loop-ahead
invariant-loop-ahead l = IsIndexFrom l.row l.index l.ahead

abbrev pub decreases-loop-ahead : goal.decreases-loop-ahead
decreases-loop-ahead l = l.ahead
