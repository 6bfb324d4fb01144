use Rattle.entry_map.proofs.Prelude.{◌≡◌, ◌++◌, List, length, map, from_entries, LedgerEntry, IsIndexOf, index_of}
use Rattle.entry_map.proofs.Layers.{with_key}
use Rattle.entry_map.proofs.index.OfferIndex.from_entries.Given as goal

-- the offers are those of the entries after those ahead
abbrev pub invariant-loop-last : goal.invariant-loop-last
invariant-loop-last l = (done : List LedgerEntry) × (l.ahead ++ done ≡ l.fn.entries)
    × IsIndexOf (from_entries (map with_key done)) (index_of l.offers.items)

abbrev pub decreases-loop-last : goal.decreases-loop-last
decreases-loop-last l = length l.ahead
