-- The step in order is the step that is said all at once.
use Rattle.bucket_levels.proofs.Prelude.{◌≡◌, ℕ, zero, suc, ◌+◌, ◌<◌, ◌≤◌, Bool, true, false, eqb, List, Option, Some}
use Rattle.bucket_levels.proofs.Prelude.{None, map, zero-add, ◌⊎◌, inl, inr, refl, sym, ap, subst, ◌∙◌, arith, eq-eqb}
use Rattle.bucket_levels.proofs.Prelude.{if◌then◌else◌, cases_eq, eqb-true, range_with_len, none-some, Contents}
use Rattle.bucket_levels.proofs.Prelude.{IsMerge, level_count, half, upper, spills, Pair, empty_pair, pair_at}
use Rattle.bucket_levels.proofs.Prelude.{IsMergedIf, IsPairAfter, IsStep, base_at, snap_after, start_of}
use Rattle.std.proofs.lemmas.List.FromFn.{length-map-range_with_len, get_or-map-range_with_len}
use Rattle.bucket_levels.specs.InOrder.{PendingInputs, InOrder, put_at, IsNext, spilled, begins, committed}
use Rattle.bucket_levels.specs.InOrder.{IsCommittedIf}
use Rattle.bucket_levels.specs.InOrder.{AreCommitted, pending_inputs, IsOfFiles, StepsAreInOrder}
use Rattle.bucket_levels.proofs.Halves.{none_spills_below}
use Rattle.bucket_levels.proofs.Inputs.{curr_stays_if}
use Rattle.bucket_levels.proofs.Starts.{commit_is_next, start_is_now, start_stays}

-- ---- putting

pub put_same : {X : Type 0} (f : ℕ → X) (level : ℕ) (x : X) → put_at f level x level ≡ x
put_same f level x = ap (λ (b : Bool). if b then x else f level) (eq-eqb level level refl)

differ_by : (i level : ℕ) (b : Bool) → eqb i level ≡ b → (i ≡ level → ⊥) → eqb i level ≡ false
differ_by i level true e other = absurd (other (eqb-true i level e))
differ_by i level false e other = e

pub put_other : {X : Type 0} (f : ℕ → X) (level : ℕ) (x : X) (i : ℕ) → (i ≡ level → ⊥) → put_at f level x i ≡ f i
put_other f level x i other =
    ap (λ (b : Bool). if b then x else f i) (differ_by i level (eqb i level) refl other)

-- ---- the step, down to one level

-- what the step begins with; the ledger after `seq` closes
record Start : Type 0 where
  seq : ℕ
  fresh : Contents
  old : List Pair
  l : InOrder
  is : IsOfFiles old seq l

-- what is pending into a level below which all is done
abbrev renewed_if : Bool → Start → (level : ℕ) → (curr : Contents) → PendingInputs
renewed_if true s level curr = begins (s.seq + 1) level curr (pair_at s.old (upper level)).curr
renewed_if false s level curr = s.l.merges level

-- all levels below this one are done, and it has spilled where it does
record IsDoneBelow (s : Start) (level : ℕ) (m : InOrder) : Type 0 where
  above : (i : ℕ) → i < level → m.pairs i ≡ pair_at s.old i
  here : m.pairs level ≡ (if spills level (s.seq + 1) then spilled (pair_at s.old level) else pair_at s.old level)
  below : (i : ℕ) → level < i → i < level_count → IsPairAfter (s.seq + 1) s.fresh s.old i (m.pairs i)
  still_pending : (i : ℕ) → 1 ≤ i → i ≤ level → m.merges i ≡ s.l.merges i
  still_ready : (i : ℕ) → 1 ≤ i → i ≤ level → m.ready i ≡ s.l.ready i
  pending : (i : ℕ) → level < i → i < level_count
      → m.merges i ≡ renewed_if (spills (upper i) (s.seq + 1)) s i (m.pairs i).curr
  ready : (i : ℕ) → level < i → i < level_count
      → m.ready i ≡ (if spills (upper i) (s.seq + 1) then None else s.l.ready i)

-- each number above one is the next one or above that
next_or_above : (n i : ℕ) → n < i → (i ≡ suc n) ⊎ (suc n < i)
next_or_above n i lt = elim (cases_eq i (suc n)) [ inl e ↦ inl e | inr other ↦ inr (omega (arith, lt, other)) ]

-- ---- a level whose upper one doesn't spill

pair_stays : (s : Start) (above : ℕ) (m : InOrder) → spills above (s.seq + 1) ≡ false → IsDoneBelow s (suc above) m
    → m.pairs (suc above) ≡ pair_at s.old (suc above)
pair_stays s above m e d = d.here
    ∙ ap (λ (b : Bool). if b then spilled (pair_at s.old (suc above)) else pair_at s.old (suc above))
    (none_spills_below above (s.seq + 1) e)

stays_after : (seq : ℕ) (fresh : Contents) (old : List Pair) (above : ℕ) → spills above seq ≡ false
    → IsPairAfter seq fresh old (suc above) (pair_at old (suc above))
stays_after seq fresh old above e =
    let p = pair_at old (suc above) in
    record {
      curr = subst (λ (b : Bool). IsMergedIf b (suc above) (base_at seq old (suc above)) (pair_at old above).snap p.curr
          p.curr) (sym e) refl;
      snap = sym (ap (λ (b : Bool). if b then p.curr else p.snap) (none_spills_below above seq e));
    }

passed_over : (s : Start) (above : ℕ) (m : InOrder) → suc above < level_count → spills above (s.seq + 1) ≡ false
    → IsDoneBelow s (suc above) m → IsDoneBelow s above m
passed_over s above m lt e d = record {
  above = λ i low. d.above i (omega (arith, low));
  here = d.above above (omega arith)
      ∙ sym (ap (λ (b : Bool). if b then spilled (pair_at s.old above) else pair_at s.old above) e);
  below = λ i low high. elim (next_or_above above i low) [
    | inl n ↦ subst (λ (k : ℕ). IsPairAfter (s.seq + 1) s.fresh s.old k (m.pairs k)) (sym n)
        (subst (IsPairAfter (s.seq + 1) s.fresh s.old (suc above)) (sym (pair_stays s above m e d))
        (stays_after (s.seq + 1) s.fresh s.old above e))
    | inr more ↦ d.below i more high
  ];
  still_pending = λ i low high. d.still_pending i low (omega (arith, high));
  still_ready = λ i low high. d.still_ready i low (omega (arith, high));
  pending = λ i low high. elim (next_or_above above i low) [
    | inl n ↦ subst (λ (k : ℕ). m.merges k ≡ renewed_if (spills (upper k) (s.seq + 1)) s k (m.pairs k).curr) (sym n)
        (d.still_pending (suc above) (omega arith) (omega arith)
        ∙ sym (ap (λ (b : Bool). renewed_if b s (suc above) (m.pairs (suc above)).curr) e))
    | inr more ↦ d.pending i more high
  ];
  ready = λ i low high. elim (next_or_above above i low) [
    | inl n ↦ subst (λ (k : ℕ). m.ready k ≡ (if spills (upper k) (s.seq + 1) then None else s.l.ready k)) (sym n)
        (d.still_ready (suc above) (omega arith) (omega arith)
        ∙ sym (ap (λ (b : Bool). if b then None else s.l.ready (suc above)) e))
    | inr more ↦ d.ready i more high
  ];
}

-- ---- a level whose upper one spills

made_or_ready : (level : ℕ) (ready : Option Contents) (merge : PendingInputs) (next : Contents)
    → ((outcome : Contents) → ready ≡ Some outcome → IsMerge level merge.older merge.newer outcome)
    → IsNext ready level merge next → IsMerge level merge.older merge.newer next
made_or_ready level None merge next of_ready is = is
made_or_ready level (Some r) merge next of_ready is =
    subst (IsMerge level merge.older merge.newer) (sym is) (of_ready r refl)

-- what is committed is what the step merges
is_merged : (s : Start) (above : ℕ) (m : InOrder) (next : Contents) → suc above < level_count
    → spills above (s.seq + 1) ≡ true → IsDoneBelow s (suc above) m
    → IsNext (m.ready (suc above)) (suc above) (m.merges (suc above)) next
    → IsMerge (suc above) (base_at (s.seq + 1) s.old (suc above)) (pair_at s.old above).snap next
is_merged s above m next lt e d is =
    let level = suc above in
    let merge = d.still_pending level (omega arith) (omega arith) in
    let ready = d.still_ready level (omega arith) (omega arith) in
    let here = subst (λ (r : Option Contents). IsNext r level (s.l.merges level) next) ready
    (subst (λ (p : PendingInputs). IsNext (m.ready level) level p next) merge is) in
    let made = made_or_ready level (s.l.ready level) (s.l.merges level) next
    (λ outcome. s.is.ready level outcome (omega arith) lt) here in
    let of_files = subst (λ (p : PendingInputs). IsMerge level p.older p.newer next)
    (s.is.merges level (omega arith) lt) made in
    subst (λ (n : ℕ). IsMerge level (base_at n s.old level) (pair_at s.old above).snap next)
    (commit_is_next above s.seq e) of_files

snap_of_spilled : (b : Bool) (p : Pair) → (if b then spilled p else p).snap ≡ (if b then p.curr else p.snap)
snap_of_spilled true p = refl
snap_of_spilled false p = refl

taken_in : (s : Start) (above : ℕ) (m : InOrder) (next : Contents) → suc above < level_count
    → spills above (s.seq + 1) ≡ true → IsDoneBelow s (suc above) m
    → IsNext (m.ready (suc above)) (suc above) (m.merges (suc above)) next
    → IsDoneBelow s above (committed above (s.seq + 1) next m)
taken_in s above m next lt e d is =
    let level = suc above in
    let seq = s.seq + 1 in
    let over = put_at m.pairs above (spilled (m.pairs above)) in
    let mine = record (m.pairs level) { curr = next } in
    let pairs = put_at over level mine in
    let was : m.pairs above ≡ pair_at s.old above = d.above above (omega arith) in
    let mine_is : pairs level ≡ mine = put_same over level mine in
    let same : (i : ℕ) → (i ≡ above → ⊥) → (i ≡ level → ⊥) → pairs i ≡ m.pairs i =
    λ i other more. put_other over level mine i more ∙ put_other m.pairs above (spilled (m.pairs above)) i other in
    let merged = is_merged s above m next lt e d is in
    record {
      above = λ i low. same i (λ x. omega (arith, low, x)) (λ x. omega (arith, low, x))
          ∙ d.above i (omega (arith, low));
      here = put_other over level mine above (λ x. omega (arith, x))
          ∙ put_same m.pairs above (spilled (m.pairs above)) ∙ ap spilled was
          ∙ sym (ap (λ (b : Bool). if b then spilled (pair_at s.old above) else pair_at s.old above) e);
      below = λ i low high. elim (next_or_above above i low) [
        | inl n ↦ subst (λ (k : ℕ). IsPairAfter seq s.fresh s.old k (pairs k)) (sym n)
            (subst (IsPairAfter seq s.fresh s.old level) (sym mine_is) (record {
              curr = subst (λ (b : Bool). IsMergedIf b level (base_at seq s.old level) (pair_at s.old above).snap
                  (pair_at s.old level).curr next) (sym e) merged;
              snap = ap (λ (p : Pair). p.snap) d.here ∙ snap_of_spilled (spills level seq) (pair_at s.old level);
            }))
        | inr more ↦ subst (IsPairAfter seq s.fresh s.old i)
            (sym (same i (λ x. omega (arith, more, x)) (λ x. omega (arith, more, x)))) (d.below i more high)
      ];
      still_pending = λ i low high.
          put_other m.merges level (begins seq level next (m.pairs above).curr) i (λ x. omega (arith, high, x))
          ∙ d.still_pending i low (omega (arith, high));
      still_ready = λ i low high. put_other m.ready level None i (λ x. omega (arith, high, x))
          ∙ d.still_ready i low (omega (arith, high));
      pending = λ i low high. elim (next_or_above above i low) [
        | inl n ↦ subst (λ (k : ℕ). put_at m.merges level (begins seq level next (m.pairs above).curr) k
            ≡ renewed_if (spills (upper k) seq) s k (pairs k).curr) (sym n)
            (put_same m.merges level (begins seq level next (m.pairs above).curr)
            ∙ ap (λ (p : Pair). begins seq level next p.curr) was
            ∙ sym (ap (λ (p : Pair). begins seq level p.curr (pair_at s.old above).curr) mine_is)
            ∙ sym (ap (λ (b : Bool). renewed_if b s level (pairs level).curr) e))
        | inr more ↦ put_other m.merges level (begins seq level next (m.pairs above).curr) i
            (λ x. omega (arith, more, x)) ∙ d.pending i more high
            ∙ sym (ap (λ (p : Pair). renewed_if (spills (upper i) seq) s i p.curr)
            (same i (λ x. omega (arith, more, x)) (λ x. omega (arith, more, x))))
      ];
      ready = λ i low high. elim (next_or_above above i low) [
        | inl n ↦ subst (λ (k : ℕ). put_at m.ready level None k
            ≡ (if spills (upper k) seq then None else s.l.ready k)) (sym n)
            (put_same m.ready level None ∙ sym (ap (λ (b : Bool). if b then None else s.l.ready level) e))
        | inr more ↦ put_other m.ready level None i (λ x. omega (arith, more, x)) ∙ d.ready i more high
      ];
    }

-- ---- all levels

one_down : (b : Bool) (s : Start) (above : ℕ) (m mid : InOrder) → suc above < level_count
    → spills above (s.seq + 1) ≡ b → IsDoneBelow s (suc above) m → IsCommittedIf b above (s.seq + 1) m mid
    → IsDoneBelow s above mid
one_down true s above m mid lt e d is =
    subst (IsDoneBelow s above) (sym is.2) (taken_in s above m is.0 lt e d is.1)
one_down false s above m mid lt e d is = subst (IsDoneBelow s above) (sym is) (passed_over s above m lt e d)

all_down : (s : Start) (level : ℕ) (m last : InOrder) → level < level_count → IsDoneBelow s level m
    → AreCommitted level (s.seq + 1) m last → IsDoneBelow s 0 last
unfolding AreCommitted
all_down s zero m last lt d is = subst (IsDoneBelow s 0) (sym is) d
all_down s (suc above) m last lt d is =
    all_down s above is.0 last (omega (arith, lt))
    (one_down (spills above (s.seq + 1)) s above m is.0 lt refl d is.1) is.2

none_done : (s : Start) → IsDoneBelow s 10 s.l
none_done s = record {
  above = λ i low. s.is.files i (omega (arith, low));
  here = s.is.files 10 (omega arith);
  below = λ i low high. absurd (omega (arith, low, high));
  still_pending = λ i low high. refl;
  still_ready = λ i low high. refl;
  pending = λ i low high. absurd (omega (arith, low, high));
  ready = λ i low high. absurd (omega (arith, low, high));
}

-- ---- the files after it

-- the files that a function gives, level by level
abbrev pairs_of : (ℕ → Pair) → List Pair
pairs_of f = map f (range_with_len 0 level_count)

pairs_are : (f : ℕ → Pair) (i : ℕ) → i < level_count → pair_at (pairs_of f) i ≡ f i
pairs_are f i lt = get_or-map-range_with_len f 0 level_count i i empty_pair lt (zero-add i)

curr_of_spilled : (b : Bool) (p : Pair) → (if b then spilled p else p).curr ≡ (if b then None else p.curr)
curr_of_spilled true p = refl
curr_of_spilled false p = refl

-- where all is done, and the newest curr took the fresh bucket in
record IsDone (s : Start) (m : InOrder) : Type 0 where
  pairs : (i : ℕ) → i < level_count → IsPairAfter (s.seq + 1) s.fresh s.old i (m.pairs i)
  pending : (above : ℕ) → suc above < level_count
      → m.merges (suc above) ≡ renewed_if (spills above (s.seq + 1)) s (suc above) (m.pairs (suc above)).curr
  ready : (above : ℕ) → suc above < level_count
      → m.ready (suc above) ≡ (if spills above (s.seq + 1) then None else s.l.ready (suc above))

newest_done : (s : Start) (after : InOrder) (first : Contents) → IsDoneBelow s 0 after
    → IsMerge 0 (after.pairs 0).curr s.fresh first
    → IsPairAfter (s.seq + 1) s.fresh s.old 0 (record (after.pairs 0) { curr = first })
newest_done s after first d merged = record {
  curr = subst (λ (older : Contents). IsMerge 0 older s.fresh first)
      (ap (λ (p : Pair). p.curr) d.here ∙ curr_of_spilled (spills 0 (s.seq + 1)) (pair_at s.old 0)) merged;
  snap = ap (λ (p : Pair). p.snap) d.here ∙ snap_of_spilled (spills 0 (s.seq + 1)) (pair_at s.old 0);
}

all_done : (s : Start) (after : InOrder) (first : Contents) → IsDoneBelow s 0 after
    → IsMerge 0 (after.pairs 0).curr s.fresh first
    → IsDone s (record after { pairs = put_at after.pairs 0 (record (after.pairs 0) { curr = first }) })
all_done s after first d merged =
    let mine = record (after.pairs 0) { curr = first } in
    let same : (i : ℕ) → 0 < i → put_at after.pairs 0 mine i ≡ after.pairs i =
    λ i low. put_other after.pairs 0 mine i (λ x. omega (arith, low, x)) in
    record {
      pairs = λ i lt. elim (cases_eq i 0) [
        | inl e ↦ subst (λ (k : ℕ). IsPairAfter (s.seq + 1) s.fresh s.old k (put_at after.pairs 0 mine k)) (sym e)
            (newest_done s after first d merged)
        | inr other ↦ let low : 0 < i = omega (arith, other) in
            subst (IsPairAfter (s.seq + 1) s.fresh s.old i) (sym (same i low)) (d.below i low lt)
      ];
      pending = λ above lt. d.pending (suc above) (omega arith) lt
          ∙ sym (ap (λ (p : Pair). renewed_if (spills above (s.seq + 1)) s (suc above) p.curr)
          (same (suc above) (omega arith)));
      ready = λ above lt. d.ready (suc above) (omega arith) lt;
    }

-- ---- what is pending after it

begins_of_files : (s : Start) (above : ℕ) (new : List Pair) → spills above (s.seq + 1) ≡ true
    → (pair_at new above).snap ≡ snap_after (s.seq + 1) s.old above
    → begins (s.seq + 1) (suc above) (pair_at new (suc above)).curr (pair_at s.old above).curr
    ≡ pending_inputs new (s.seq + 1) (suc above)
begins_of_files s above new e snap =
    let seq = s.seq + 1 in
    let start = start_is_now above seq e in
    let curr = (pair_at new (suc above)).curr in
    let newer : (pair_at s.old above).curr ≡ (pair_at new above).snap = sym (snap
    ∙ ap (λ (b : Bool). if b then (pair_at s.old above).curr else (pair_at s.old above).snap) e) in
    ap (λ (c : Contents). begins seq (suc above) curr c) newer
    ∙ ap (λ (n : ℕ). record {
      start = n;
      older = if spills (suc above) (n + half above) then None else curr;
      newer = (pair_at new above).snap;
    }) (sym start)

stay_of_files : (s : Start) (above : ℕ) (new : List Pair) → above < 10 → spills above (s.seq + 1) ≡ false
    → (pair_at new (suc above)).curr ≡ (pair_at s.old (suc above)).curr
    → (pair_at new above).snap ≡ (pair_at s.old above).snap
    → pending_inputs s.old s.seq (suc above) ≡ pending_inputs new (s.seq + 1) (suc above)
stay_of_files s above new low e curr snap =
    let start = start_stays above s.seq low e in
    ap (λ (c : Contents). record {
      start = start_of (suc above) s.seq;
      older = if spills (suc above) (start_of (suc above) s.seq + half above) then None else c;
      newer = (pair_at s.old above).snap;
    }) (sym curr)
    ∙ ap (λ (c : Contents). record {
      start = start_of (suc above) s.seq;
      older = base_at (start_of (suc above) s.seq + half above) new (suc above);
      newer = c;
    }) (sym snap)
    ∙ ap (λ (n : ℕ). record {
      start = n;
      older = base_at (n + half above) new (suc above);
      newer = (pair_at new above).snap;
    }) (sym start)

pending_if : (b : Bool) (s : Start) (above : ℕ) (new : List Pair) → suc above < level_count
    → spills above (s.seq + 1) ≡ b → IsStep (s.seq + 1) s.fresh s.old new
    → renewed_if b s (suc above) (pair_at new (suc above)).curr ≡ pending_inputs new (s.seq + 1) (suc above)
pending_if true s above new lt e step = begins_of_files s above new e (step.pairs above (omega (arith, lt))).snap
pending_if false s above new lt e step =
    let seq = s.seq + 1 in
    let level = suc above in
    s.is.merges level (omega arith) lt
    ∙ stay_of_files s above new (omega (arith, lt)) e
    (curr_stays_if (spills above seq) level (base_at seq s.old level) (pair_at s.old above).snap
    (pair_at s.old level).curr (pair_at new level).curr e (step.pairs level lt).curr)
    ((step.pairs above (omega (arith, lt))).snap
    ∙ ap (λ (b : Bool). if b then (pair_at s.old above).curr else (pair_at s.old above).snap) e)

ready_if : (b : Bool) (s : Start) (above : ℕ) (merge : PendingInputs) (curr outcome : Contents)
    → suc above < level_count → (if b then None else s.l.ready (suc above)) ≡ Some outcome
    → merge ≡ renewed_if b s (suc above) curr → IsMerge (suc above) merge.older merge.newer outcome
ready_if true s above merge curr outcome lt is e = absurd (none-some outcome is)
ready_if false s above merge curr outcome lt is e =
    subst (λ (p : PendingInputs). IsMerge (suc above) p.older p.newer outcome) (sym e)
    (s.is.ready (suc above) outcome (omega arith) lt is)

step_of : (s : Start) (m : InOrder) → IsDone s m → IsStep (s.seq + 1) s.fresh s.old (pairs_of m.pairs)
step_of s m d =
    record {
      count = length-map-range_with_len m.pairs 0 level_count;
      pairs = λ i lt. subst (IsPairAfter (s.seq + 1) s.fresh s.old i) (sym (pairs_are m.pairs i lt)) (d.pairs i lt);
    }

pending_of_files : (s : Start) (m : InOrder) (level : ℕ) → IsDone s m → 1 ≤ level → level < level_count
    → m.merges level ≡ pending_inputs (pairs_of m.pairs) (s.seq + 1) level
pending_of_files s m zero d low lt = absurd (omega (arith, low))
pending_of_files s m (suc above) d low lt =
    let new = pairs_of m.pairs in
    d.pending above lt
    ∙ ap (λ (p : Pair). renewed_if (spills above (s.seq + 1)) s (suc above) p.curr)
    (sym (pairs_are m.pairs (suc above) lt))
    ∙ pending_if (spills above (s.seq + 1)) s above new lt refl (step_of s m d)

ready_of_files : (s : Start) (m : InOrder) (level : ℕ) (outcome : Contents) → IsDone s m → 1 ≤ level
    → level < level_count → m.ready level ≡ Some outcome
    → IsMerge level (m.merges level).older (m.merges level).newer outcome
ready_of_files s m zero outcome d low lt is = absurd (omega (arith, low))
ready_of_files s m (suc above) outcome d low lt is =
    ready_if (spills above (s.seq + 1)) s above (m.merges (suc above)) (m.pairs (suc above)).curr outcome lt
    (sym (d.ready above lt) ∙ is) (d.pending above lt)

files_of_step : (s : Start) (m : InOrder) → IsDone s m
    → (new : List Pair) × IsStep (s.seq + 1) s.fresh s.old new × IsOfFiles new (s.seq + 1) m
files_of_step s m d = (
  pairs_of m.pairs,
  step_of s m d,
  record {
    count = length-map-range_with_len m.pairs 0 level_count;
    files = λ level lt. sym (pairs_are m.pairs level lt);
    merges = λ level low lt. pending_of_files s m level d low lt;
    ready = λ level outcome low lt is. ready_of_files s m level outcome d low lt is;
  },
)

pub steps_are_in_order : StepsAreInOrder
steps_are_in_order seq fresh old l m files step =
    let s : Start = record { seq = seq; fresh = fresh; old = old; l = l; is = files } in
    let down = all_down s 10 l step.after (omega arith) (none_done s) step.committed in
    subst (λ (last : InOrder). (new : List Pair) × IsStep (seq + 1) fresh old new × IsOfFiles new (seq + 1) last)
    (sym step.is) (files_of_step s (record step.after {
      pairs = put_at step.after.pairs 0 (record (step.after.pairs 0) { curr = step.first });
    }) (all_done s step.after step.first down step.merged))
