use Rattle.std.proofs.Common.{◌≡◌, length}
use Rattle.page_cache.proofs.Moves.{IsPopped}
use Rattle.page_cache.proofs.moving.take_currs.Given as goal

-- the caches of the currs that were popped are in their levels
abbrev pub invariant-loop-curr : goal.invariant-loop-curr
invariant-loop-curr l = record {
  count : length l.caches.items ≡ length l.fn.caches.items;
  popped : IsPopped l.initial.currs.items l.currs.items l.fn.caches.items l.caches.items;
}

abbrev pub decreases-loop-curr : goal.decreases-loop-curr
decreases-loop-curr l = length l.currs.items
