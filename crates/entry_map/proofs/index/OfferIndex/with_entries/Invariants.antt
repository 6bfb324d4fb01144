use Rattle.entry_map.proofs.Prelude.{◌≡◌, take, offers_in, with_offers}
use Rattle.entry_map.proofs.index.OfferIndex.with_entries.Given as goal

abbrev pub invariant-loop-entry : goal.invariant-loop-entry
invariant-loop-entry l = l.index ≡ with_offers l.fn.self (offers_in (take l.entry-index l.entries))
