use Rattle.header_chain.proofs.Prelude.{◌≡◌, ◌≤◌, ◌-◌, length, map, drop, upgrade_in, all_upgraded}
use Rattle.header_chain.proofs.upgrades.upgrade_all.Given as goal

-- those so far and those that are left make up all of them
abbrev pub invariant-loop-i : goal.invariant-loop-i
invariant-loop-i l =
    (all_upgraded l.header (map upgrade_in (drop l.i l.upgrades))
    ≡ all_upgraded l.fn.header (map upgrade_in l.upgrades)) × (l.i ≤ length l.upgrades)

abbrev pub decreases-loop-i : goal.decreases-loop-i
decreases-loop-i l = length l.upgrades - l.i
