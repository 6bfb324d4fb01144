-- What is pending stays so until it is committed, and then it is what the step merges.
use Rattle.bucket_levels.proofs.Prelude.{◌≡◌, ℕ, zero, suc, ◌+◌, ◌-◌, ◌<◌, ◌≤◌, Bool, true, false, List, sym, ap, subst}
use Rattle.bucket_levels.proofs.Prelude.{◌∙◌, arith, None, if◌then◌else◌, Contents, Job, IsMerge, half, spills, Pair}
use Rattle.bucket_levels.proofs.Prelude.{pair_at, base_at, IsMergedIf, IsCurrAfter, IsStep, start_of, IsPending}
use Rattle.bucket_levels.proofs.Starts.{commit_is_next, start_stays}

-- ---- the inputs

-- what is pending into a level whose upper one spills at the next ledger is what the step merges
pub older_is_base : (above seq : ℕ) (pairs : List Pair) (job : Job) → spills above (seq + 1) ≡ true
    → IsPending pairs seq (suc above) job → job.curr ≡ base_at (seq + 1) pairs (suc above)
older_is_base above seq pairs job spilled is =
    is.curr ∙ ap (λ (n : ℕ). base_at n pairs (suc above)) (commit_is_next above seq spilled)

-- a merge that is ready is the curr after the step
pub merged_above : (above seq : ℕ) (fresh new : Contents) (pairs : List Pair) (out : Job)
    → spills above (seq + 1) ≡ true → IsPending pairs seq (suc above) out → IsMerge out.level out.curr out.snap new
    → IsCurrAfter (seq + 1) fresh pairs (suc above) new
merged_above above seq fresh new pairs out spilled is merged =
    let older = older_is_base above seq pairs out spilled is in
    let here : IsMerge (suc above) (base_at (seq + 1) pairs (suc above)) (pair_at pairs above).snap new =
    subst (λ (newer : Contents). IsMerge (suc above) (base_at (seq + 1) pairs (suc above)) newer new) is.snap
    (subst (λ (older : Contents). IsMerge (suc above) older out.snap new) older
    (subst (λ (n : ℕ). IsMerge n out.curr out.snap new) is.into merged)) in
    subst (λ (b : Bool). IsMergedIf b (suc above) (base_at (seq + 1) pairs (suc above)) (pair_at pairs above).snap
    (pair_at pairs (suc above)).curr new) (sym spilled) here

-- ---- a step

pub curr_stays_if : (b : Bool) (level : ℕ) (older newer was new : Contents) → b ≡ false
    → IsMergedIf b level older newer was new → new ≡ was
curr_stays_if true level older newer was new e m = absurd (cc (e))
curr_stays_if false level older newer was new e m = m

-- where the level above doesn't spill, what is pending stays
pub stays_pending : (above seq : ℕ) (fresh : Contents) (old new : List Pair) (job : Job) → above < 10
    → spills above (seq + 1) ≡ false → IsStep (seq + 1) fresh old new → IsPending old seq (suc above) job
    → IsPending new (seq + 1) (suc above) job
stays_pending above seq fresh old new job low stays step is =
    let start = start_stays above seq low stays in
    let here = step.pairs (suc above) (omega (arith, low)) in
    let over = step.pairs above (omega (arith, low)) in
    let curr : (pair_at new (suc above)).curr ≡ (pair_at old (suc above)).curr =
    curr_stays_if (spills above (seq + 1)) (suc above) (base_at (seq + 1) old (suc above)) (pair_at old above).snap
    (pair_at old (suc above)).curr (pair_at new (suc above)).curr stays here.curr in
    let snap : (pair_at new above).snap ≡ (pair_at old above).snap =
    over.snap ∙ ap (λ (b : Bool). if b then (pair_at old above).curr else (pair_at old above).snap) stays in
    record {
      deep = is.deep;
      into = is.into;
      start = is.start ∙ sym start;
      curr = is.curr
          ∙ ap (λ (c : Contents). if spills (suc above) (start_of (suc above) seq + half above) then None else c)
          (sym curr)
          ∙ ap (λ (n : ℕ). base_at (n + half above) new (suc above)) (sym start);
      snap = is.snap ∙ sym snap;
    }
