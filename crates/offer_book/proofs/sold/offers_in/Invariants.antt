use Rattle.offer_book.proofs.Prelude.{◌≡◌, offers_in}
use Rattle.std.proofs.Common.{take}
use Rattle.offer_book.proofs.sold.offers_in.Given as goal

-- of the entries so far
abbrev pub invariant-loop-entry : goal.invariant-loop-entry
invariant-loop-entry l = l.offers.items ≡ offers_in (take l.entry-index l.entries)
