use Rattle.tally.proofs.Prelude.{◌≡◌, pos, neg_ℤ, ◌+ℤ◌, ◌≤ℤ◌, held, sum_after}
use Rattle.std.proofs.Common.{◌+◌, ◌*◌}
use Rattle.tally.proofs.walk.supply.Given as goal

-- what was summed up, and what comes after; and what so many entries hold at most
abbrev pub invariant-loop : goal.invariant-loop
invariant-loop g l =
    ((l.sum +ℤ sum_after (held l.asset) l.entries.current l.last)
    ≡ (l.initial.sum +ℤ sum_after (held l.asset) l.entries.current l.initial.last))
    × (neg_ℤ (pos (18446744073709551616 * (l.counter + 1))) ≤ℤ l.sum)
    × (l.sum ≤ℤ pos (18446744073709551616 * (l.counter + 1)))
