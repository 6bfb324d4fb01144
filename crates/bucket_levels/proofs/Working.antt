-- What a step costs, and what it spares.
use Rattle.bucket_levels.proofs.Prelude.{◌≡◌, ℕ, zero, suc, ◌+◌, ◌-◌, ◌≤◌, Bool, true, false, None, sym, ap, subst, ◌∙◌}
use Rattle.bucket_levels.proofs.Prelude.{arith, not, ◌&&◌, if◌then◌else◌, Contents, spills, pair_at, base_at}
use Rattle.bucket_levels.proofs.Prelude.{IsCurrAfter, LevelsAt, pending_at, IsPending, IsReadyFor, work_at}
use Rattle.bucket_core.specs.File.{count_of}
use Rattle.bucket_levels.proofs.Inputs.{merged_above}
use Rattle.bucket_levels.proofs.Unmerged.{spilled_below, merged_below}

merge_at : (above seq : ℕ) (fresh : Contents) (l : LevelsAt) → spills above seq ≡ true → spills (suc above) seq ≡ false
    → (pending_at l.pending (suc above)).ready ≡ false
    → work_at seq fresh l (suc above)
    ≡ count_of (pair_at l.pairs (suc above)).curr + count_of (pair_at l.pairs above).snap
merge_at above seq fresh l over here unready =
    let all = count_of (base_at seq l.pairs (suc above)) + count_of (pair_at l.pairs above).snap in
    ap (λ (b : Bool). if b && not (pending_at l.pending (suc above)).ready then all else 0) over
    ∙ ap (λ (b : Bool). if not b then all else 0) unready
    ∙ ap (λ (b : Bool). count_of (if b then None else (pair_at l.pairs (suc above)).curr)
    + count_of (pair_at l.pairs above).snap) here

-- a merge that isn't ready is made over its two files
pub work_is_merge : (level seq : ℕ) (fresh : Contents) (l : LevelsAt) → 1 ≤ level → spills (level - 1) seq ≡ true
    → spills level seq ≡ false → (pending_at l.pending level).ready ≡ false
    → work_at seq fresh l level ≡ count_of (pair_at l.pairs level).curr + count_of (pair_at l.pairs (level - 1)).snap
work_is_merge level seq fresh l low over here unready =
    let is : suc (level - 1) ≡ level = omega (arith, low) in
    subst (λ (n : ℕ). work_at seq fresh l n
    ≡ count_of (pair_at l.pairs n).curr + count_of (pair_at l.pairs (level - 1)).snap) is
    (merge_at (level - 1) seq fresh l over (subst (λ (n : ℕ). spills n seq ≡ false) (sym is) here)
    (subst (λ (n : ℕ). (pending_at l.pending n).ready ≡ false) (sym is) unready))

-- one that is ready is the curr after the step
pub ready_curr : (level seq : ℕ) (fresh bucket : Contents) (l : LevelsAt) → 1 ≤ level → seq ≡ l.seq + 1
    → spills (level - 1) seq ≡ true → IsReadyFor l level bucket → IsCurrAfter seq fresh l.pairs level bucket
ready_curr level seq fresh bucket l low next over r =
    let is : suc (level - 1) ≡ level = omega (arith, low) in
    subst (λ (n : ℕ). IsCurrAfter n fresh l.pairs level bucket) (sym next)
    (subst (λ (n : ℕ). IsCurrAfter (l.seq + 1) fresh l.pairs n bucket) is
    (merged_above (level - 1) l.seq fresh bucket l.pairs r.out
    (subst (λ (n : ℕ). spills (level - 1) n ≡ true) next over)
    (subst (λ (n : ℕ). IsPending l.pairs l.seq n r.out) (sym is) r.is) r.merge))

-- the curr of a level below the first one after a step, and what it costs
pub ruleset currs = (spilled_below, merged_below, work_is_merge, ready_curr)
