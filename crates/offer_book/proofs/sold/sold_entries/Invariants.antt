use Rattle.offer_book.proofs.Prelude.{above, entries, length}
use Rattle.offer_book.proofs.Selling.{AreFound}
use Rattle.offer_book.proofs.sold.sold_entries.Given as goal

-- what was found, and what is ahead
abbrev pub invariant-loop-sold : goal.invariant-loop-sold
invariant-loop-sold g l = AreFound l.entries.current l.seller l.walk l.sold.items

abbrev pub decreases-loop-sold : goal.decreases-loop-sold
decreases-loop-sold g l = length (above l.walk.at (entries l.walk.entries))
