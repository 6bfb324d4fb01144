use Rattle.header_chain.proofs.Prelude.{◌≡◌, ◌≤◌, ◌-◌, length, map, upgrade_in, type_before, is_bad_at, first_index}
use Rattle.header_chain.proofs.Indices.{index_from}
use Rattle.header_chain.proofs.upgrades.first_bad.Given as goal

-- no upgrade so far is bad
abbrev pub invariant-loop-i : goal.invariant-loop-i
invariant-loop-i l =
    (first_index (is_bad_at (map upgrade_in l.upgrades)) (map upgrade_in l.upgrades)
    ≡ index_from (is_bad_at (map upgrade_in l.upgrades)) (length (map upgrade_in l.upgrades)) l.i)
    × (l.before ≡ type_before (map upgrade_in l.upgrades) l.i) × (l.i ≤ length l.upgrades)

abbrev pub decreases-loop-i : goal.decreases-loop-i
decreases-loop-i l = length l.upgrades - l.i
