use Rattle.header_chain.proofs.Prelude.{◌≡◌, ◌≤◌, ◌-◌, length, map, slice_get, upgrade_in, is_out_of_profile}
use Rattle.header_chain.proofs.Prelude.{first_index}
use Rattle.header_chain.proofs.Indices.{index_from}
use Rattle.header_chain.proofs.upgrades.first_out_of_profile.Given as goal

-- no upgrade so far is out of the profile
abbrev pub invariant-loop-i : goal.invariant-loop-i
invariant-loop-i l =
    (first_index (λ i. is_out_of_profile l.header (slice_get (map upgrade_in l.upgrades) i))
    (map upgrade_in l.upgrades)
    ≡ index_from (λ i. is_out_of_profile l.header (slice_get (map upgrade_in l.upgrades) i))
    (length (map upgrade_in l.upgrades)) l.i) × (l.i ≤ length l.upgrades)

abbrev pub decreases-loop-i : goal.decreases-loop-i
decreases-loop-i l = length l.upgrades - l.i
