-- What is kept of pending merges after a step.
use Rattle.bucket_levels.proofs.Prelude.{◌≡◌, ℕ, zero, suc, ◌+◌, ◌<◌, Bool, true, false, List, Option, Some, None}
use Rattle.bucket_levels.proofs.Prelude.{length, map, get_or, ◌≤◌, inl, inr, set, refl, sym, ap, subst, ◌∙◌, arith}
use Rattle.bucket_levels.proofs.Prelude.{if◌then◌else◌, cases_eq, get_or-map, length-map, length-set, get_or-set_same}
use Rattle.bucket_levels.proofs.Prelude.{get_or-set_other, none-some, same_Some, Contents, Job, level_count, spills}
use Rattle.bucket_levels.proofs.Prelude.{Pair, IsStep, PendingAt, pending_at, not_pending, begun, IsPending, renews}
use Rattle.bucket_levels.proofs.Prelude.{AreRenewed, AreUndrawnAt, pending_of, nothing_pending, IsHeld, AreHeld}
use Rattle.bucket_levels.proofs.Prelude.{AreUndrawn, IsJobIf, AreBegun, renewed, AllRenewed, AreRenewedTo, PendingMerge}
use Rattle.bucket_levels.proofs.Inputs.{stays_pending}

-- ---- one level

held_if : (b : Bool) (above seq : ℕ) (fresh : Contents) (old new : List Pair) (job : Option Job) (was : PendingMerge)
    → spills above (seq + 1) ≡ b → above < 10 → IsStep (seq + 1) fresh old new
    → IsJobIf b new (seq + 1) (suc above) job → IsHeld old seq (suc above) was
    → IsHeld new (seq + 1) (suc above) (renewed job was)
held_if true above seq fresh old new None was e low step begins held = absurd begins
held_if true above seq fresh old new (Some job) was e low step begins held = record {
  job = λ other is. subst (IsPending new (seq + 1) (suc above)) (same_Some job other is) begins;
  ready = λ out is. absurd (none-some out is);
}
held_if false above seq fresh old new (Some job) was e low step begins held = absurd begins
held_if false above seq fresh old new None was e low step begins held = record {
  job = λ job is. stays_pending above seq fresh old new job low e step (held.job job is);
  ready = λ out is. stays_pending above seq fresh old new out low e step (held.ready out is);
}

nothing_above : (b : Bool) (seq : ℕ) (old new : List Pair) (job : Option Job) (was : PendingMerge) → b ≡ false
    → IsJobIf b new (seq + 1) 0 job → IsHeld old seq 0 was → IsHeld new (seq + 1) 0 (renewed job was)
nothing_above true seq old new job was e begins held = absurd (cc (e))
nothing_above false seq old new (Some job) was e begins held = absurd begins
nothing_above false seq old new None was e begins held = record {
  job = λ job is. absurd (let low = (held.job job is).deep in omega (arith, low));
  ready = λ out is. absurd (let low = (held.ready out is).deep in omega (arith, low));
}

held_at : (level seq : ℕ) (fresh : Contents) (old new : List Pair) (job : Option Job) (was : PendingMerge)
    → level < level_count → IsStep (seq + 1) fresh old new → IsJobIf (renews level (seq + 1)) new (seq + 1) level job
    → IsHeld old seq level was → IsHeld new (seq + 1) level (renewed job was)
held_at zero seq fresh old new job was lt step begins held = nothing_above false seq old new job was refl begins held
held_at (suc above) seq fresh old new job was lt step begins held =
    held_if (spills above (seq + 1)) above seq fresh old new job was refl (omega (arith, lt)) step begins held

known_if : (b : Bool) (pairs : List Pair) (seq level : ℕ) (job : Option Job) (was : PendingMerge)
    → IsJobIf b pairs seq level job → pending_of (renewed job was) ≡ (if b then begun else pending_of was)
known_if true pairs seq level (Some job) was begins = refl
known_if true pairs seq level None was begins = absurd begins
known_if false pairs seq level (Some job) was begins = absurd begins
known_if false pairs seq level None was begins = refl

-- ---- all levels

pub held_after : (seq : ℕ) (fresh : Contents) (old new : List Pair) (jobs : List (Option Job))
    (was is : List PendingMerge) → IsStep (seq + 1) fresh old new → AreBegun new (seq + 1) level_count jobs
    → AreHeld old seq was → AllRenewed jobs was is → AreHeld new (seq + 1) is
held_after seq fresh old new jobs was is step begins held all = record {
  count = all.count;
  levels = λ level lt. subst (IsHeld new (seq + 1) level) (sym (all.levels level lt))
      (held_at level seq fresh old new (get_or jobs level None) (get_or was level nothing_pending) lt step
      (begins.levels level lt) (held.levels level lt));
}

-- what is known of a level is what is kept of it
pub known_at : (merges : List PendingMerge) (level : ℕ) → level < length merges
    → pending_at (map pending_of merges) level ≡ pending_of (get_or merges level nothing_pending)
known_at merges level lt = get_or-map pending_of merges level nothing_pending not_pending lt

pub known_after : (pairs : List Pair) (seq : ℕ) (jobs : List (Option Job)) (was is : List PendingMerge)
    → AreBegun pairs seq level_count jobs → length was ≡ level_count → AllRenewed jobs was is
    → AreRenewed seq (map pending_of was) (map pending_of is)
known_after pairs seq jobs was is begins count all = record {
  count = length-map is pending_of ∙ all.count;
  levels = λ level lt.
      known_at is level (omega (arith, lt, all.count)) ∙ ap pending_of (all.levels level lt)
      ∙ known_if (renews level seq) pairs seq level (get_or jobs level None) (get_or was level nothing_pending)
      (begins.levels level lt)
      ∙ ap (λ (p : PendingAt). if renews level seq then begun else p)
      (sym (known_at was level (omega (arith, lt, count))));
}

-- ---- at first

pub held_at_first : (pairs : List Pair) (seq : ℕ) (merges : List PendingMerge)
    → AreUndrawn pairs seq level_count merges → AreHeld pairs seq merges
held_at_first pairs seq merges each = record {
  count = each.count;
  levels = λ level lt. (each.levels level lt).held;
}

pub known_at_first : (pairs : List Pair) (seq : ℕ) (merges : List PendingMerge)
    → AreUndrawn pairs seq level_count merges → AreUndrawnAt (map pending_of merges)
known_at_first pairs seq merges each = record {
  count = length-map merges pending_of ∙ each.count;
  levels = λ level lt. known_at merges level (omega (arith, lt, each.count)) ∙ (each.levels level lt).known;
}

-- ---- level by level

pub none_renewed : (jobs : List (Option Job)) (old : List PendingMerge) → length jobs ≡ level_count
    → length old ≡ level_count → AreRenewedTo jobs old 0 jobs old
none_renewed jobs old jobs_count count = record {
  jobs_count = jobs_count;
  count = count;
  done = λ i lt. absurd (omega (arith, lt));
  ahead = λ i le. refl;
  jobs_ahead = λ i le. refl;
}

pub one_more_renewed : (jobs : List (Option Job)) (old : List PendingMerge) (level : ℕ) (left : List (Option Job))
    (new : List PendingMerge) → level < level_count → AreRenewedTo jobs old level left new
    → AreRenewedTo jobs old (level + 1) (set left level None)
    (set new level (renewed (get_or left level None) (get_or new level nothing_pending)))
one_more_renewed jobs old level left new lt r =
    let mine = renewed (get_or left level None) (get_or new level nothing_pending) in
    let mine_is : mine ≡ renewed (get_or jobs level None) (get_or old level nothing_pending) =
    ap (λ (job : Option Job). renewed job (get_or new level nothing_pending)) (r.jobs_ahead level (omega arith))
    ∙ ap (renewed (get_or jobs level None)) (r.ahead level (omega arith)) in
    record {
      jobs_count = length-set left level None ∙ r.jobs_count;
      count = length-set new level mine ∙ r.count;
      done = λ i below. elim (cases_eq i level) [
        | inl e ↦ subst (λ (k : ℕ). get_or (set new level mine) k nothing_pending
            ≡ renewed (get_or jobs k None) (get_or old k nothing_pending)) (sym e)
            (get_or-set_same new level mine nothing_pending (omega (arith, lt, r.count)) ∙ mine_is)
        | inr other ↦ get_or-set_other new level i mine nothing_pending other
            ∙ r.done i (omega (arith, below, other))
      ];
      ahead = λ i above.
          get_or-set_other new level i mine nothing_pending (λ e. omega (arith, above, e))
          ∙ r.ahead i (omega (arith, above));
      jobs_ahead = λ i above.
          get_or-set_other left level i None None (λ e. omega (arith, above, e))
          ∙ r.jobs_ahead i (omega (arith, above));
    }

pub all_renewed : (jobs : List (Option Job)) (old : List PendingMerge) (left : List (Option Job))
    (new : List PendingMerge) (level : ℕ) → level_count ≤ level → AreRenewedTo jobs old level left new
    → AllRenewed jobs old new
all_renewed jobs old left new level le r = record {
  count = r.count;
  levels = λ i lt. r.done i (omega (arith, lt, le));
}

pub ruleset renewals = (none_renewed, one_more_renewed, all_renewed)
