-- What a ready outcome spares.
use Rattle.probe.proofs.Prelude.{◌≡◌, ◌≢◌, ℕ, zero, suc, ◌+◌, ◌<◌, ◌≤◌, Bool, true, false, inl, inr, length, refl, sym}
use Rattle.probe.proofs.Prelude.{ap, subst, ◌∙◌, arith, not, ◌&&◌, if◌then◌else◌}
use Rattle.std.proofs.lemmas.Bool.{cases_eq}
use Rattle.std.proofs.lemmas.List.{get_or-set_same, get_or-set_other}
use Rattle.bucket_core.specs.Bucket.{Contents}
use Rattle.bucket_core.specs.File.{count_of}
use Rattle.bucket_merge.specs.Job.{Job}
use Rattle.bucket_levels.specs.Spills.{level_count, upper, spills}
use Rattle.bucket_levels.specs.Pairs.{pair_at}
use Rattle.bucket_levels.specs.Step.{base_at}
use Rattle.bucket_levels.specs.Levels.{LevelsAt}
use Rattle.bucket_levels.specs.Pending.{PendingAt, pending_at, not_pending, IsPending}
use Rattle.bucket_levels.specs.HandIn.{with_pending, handed_in, TakesIn}
use Rattle.bucket_levels.specs.Work.{work_at, work_above, work}
use Rattle.bucket_levels.proofs.Starts.{commit_is_next}

-- levels of which the outcome into one is ready
abbrev ready_in : LevelsAt → (level : ℕ) → LevelsAt
ready_in l level = with_pending level (handed_in (pending_at l.pending level)) l

same_work : (seq : ℕ) (fresh : Contents) (l : LevelsAt) (level i : ℕ) → i ≢ level
    → work_at seq fresh (ready_in l level) i ≡ work_at seq fresh l i
same_work seq fresh l level zero other = refl
same_work seq fresh l level (suc above) other =
    let all = count_of (base_at seq l.pairs (suc above)) + count_of (pair_at l.pairs above).snap in
    ap (λ (p : PendingAt). if spills above seq && not p.ready then all else 0)
    (get_or-set_other l.pending level (suc above) (handed_in (pending_at l.pending level)) not_pending other)

no_work : (seq : ℕ) (fresh : Contents) (l : LevelsAt) (above : ℕ) → suc above < length l.pending
    → spills above seq ≡ true → work_at seq fresh (ready_in l (suc above)) (suc above) ≡ 0
no_work seq fresh l above lt over =
    let all = count_of (base_at seq l.pairs (suc above)) + count_of (pair_at l.pairs above).snap in
    ap (λ (b : Bool). if b && not (pending_at (ready_in l (suc above)).pending (suc above)).ready then all else 0) over
    ∙ ap (λ (p : PendingAt). if not p.ready then all else 0)
    (get_or-set_same l.pending (suc above) (handed_in (pending_at l.pending (suc above))) not_pending lt)

entire_work : (seq : ℕ) (fresh : Contents) (l : LevelsAt) (above : ℕ) → spills above seq ≡ true
    → (pending_at l.pending (suc above)).ready ≡ false
    → work_at seq fresh l (suc above)
    ≡ count_of (base_at seq l.pairs (suc above)) + count_of (pair_at l.pairs above).snap
entire_work seq fresh l above over unready =
    let all = count_of (base_at seq l.pairs (suc above)) + count_of (pair_at l.pairs above).snap in
    ap (λ (b : Bool). if b && not (pending_at l.pending (suc above)).ready then all else 0) over
    ∙ ap (λ (b : Bool). if not b then all else 0) unready

inputs_of : (l : LevelsAt) (above : ℕ) (out : Job) → IsPending l.pairs l.seq (suc above) out
    → spills above (l.seq + 1) ≡ true
    → count_of out.curr + count_of out.snap
    ≡ count_of (base_at (l.seq + 1) l.pairs (suc above)) + count_of (pair_at l.pairs above).snap
inputs_of l above out is over =
    ap (λ (c : Contents). count_of c + count_of out.snap)
    (is.curr ∙ ap (λ (n : ℕ). base_at n l.pairs (suc above)) (commit_is_next above l.seq over))
    ∙ ap (λ (c : Contents). count_of (base_at (l.seq + 1) l.pairs (suc above)) + count_of c) is.snap

same_above : (seq : ℕ) (fresh : Contents) (l : LevelsAt) (level n : ℕ) → n ≤ level
    → work_above seq fresh (ready_in l level) n ≡ work_above seq fresh l n
unfolding work_above
same_above seq fresh l level zero le = refl
same_above seq fresh l level (suc n) le =
    let below : work_above seq fresh (ready_in l level) n ≡ work_above seq fresh l n =
    same_above seq fresh l level n (omega (arith, le)) in
    let other : n ≢ level = omega (arith, le) in
    omega (arith, below, same_work seq fresh l level n other)

spared_above : (seq : ℕ) (fresh : Contents) (l : LevelsAt) (level spared n : ℕ)
    → work_at seq fresh (ready_in l level) level + spared ≡ work_at seq fresh l level → level < n
    → work_above seq fresh (ready_in l level) n + spared ≡ work_above seq fresh l n
unfolding work_above
spared_above seq fresh l level spared zero here lt = absurd (omega (arith, lt))
spared_above seq fresh l level spared (suc n) here lt = elim (cases_eq n level) [
  | inl e ↦ let here_n : work_at seq fresh (ready_in l level) n + spared ≡ work_at seq fresh l n =
      subst (λ (i : ℕ). work_at seq fresh (ready_in l level) i + spared ≡ work_at seq fresh l i) (sym e) here in
      omega (arith, here_n, same_above seq fresh l level n (omega (arith, e)))
  | inr other ↦ omega (
    arith,
    spared_above seq fresh l level spared n here (omega (arith, lt, other)),
    same_work seq fresh l level n other,
  )
]

spares_at : (l : LevelsAt) (level : ℕ) (fresh : Contents) (out : Job) → IsPending l.pairs l.seq level out
    → level < level_count → length l.pending ≡ level_count → spills (upper level) (l.seq + 1) ≡ true
    → (pending_at l.pending level).ready ≡ false
    → work (l.seq + 1) fresh (ready_in l level) + (count_of out.curr + count_of out.snap) ≡ work (l.seq + 1) fresh l
spares_at l zero fresh out is lt count over unready = absurd (omega (arith, is.deep))
spares_at l (suc above) fresh out is lt count over unready =
    spared_above (l.seq + 1) fresh l (suc above) (count_of out.curr + count_of out.snap) level_count
    (omega (
      arith,
      no_work (l.seq + 1) fresh l above (omega (arith, lt, count)) over,
      entire_work (l.seq + 1) fresh l above over unready,
      inputs_of l above out is over,
    )) lt

-- the step that commits an outcome that is ready goes over the items of its inputs less
pub spares : (old new : LevelsAt) (seq : ℕ) (fresh : Contents) (out : Job) → TakesIn old out new → seq ≡ old.seq + 1
    → out.level ≤ 10 → length old.pending ≡ level_count → spills (upper out.level) seq ≡ true
    → (pending_at old.pending out.level).ready ≡ false
    → work seq fresh new + (count_of out.curr + count_of out.snap) ≡ work seq fresh old
spares old new seq fresh out taken next high count over unready =
    subst (λ (n : ℕ). work n fresh new + (count_of out.curr + count_of out.snap) ≡ work n fresh old) (sym next)
    (subst (λ (l : LevelsAt). work (old.seq + 1) fresh l + (count_of out.curr + count_of out.snap)
    ≡ work (old.seq + 1) fresh old) (sym taken.left)
    (spares_at old out.level fresh out taken.is (omega (arith, high)) count
    (subst (λ (n : ℕ). spills (upper out.level) n ≡ true) next over) unready))
