use Rattle.entry_map.specs.Indexes.{index_of}
use Rattle.level_entries.specs.Placed.{IsIndexFrom}
use Rattle.level_entries.proofs.offers.last_offers.Given as goal

-- the offers are those of the entries from an index on
abbrev pub invariant-loop-ahead : goal.invariant-loop-ahead
invariant-loop-ahead l = IsIndexFrom l.row (index_of l.offers.items) l.ahead

abbrev pub decreases-loop-ahead : goal.decreases-loop-ahead
decreases-loop-ahead l = l.ahead
