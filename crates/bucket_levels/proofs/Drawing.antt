-- A job that is drawn, and an outcome that is handed in, change what is kept of one level.
use Rattle.bucket_levels.proofs.Prelude as prelude
use prelude.{◌≡◌, ℕ, ◌<◌, List, Option, Some, None, length, map, set, get_or, sym, ap, subst, ◌∙◌, inl, inr, arith}
use prelude.{is_some, true, false, IfSome, cases_eq, cases_lt, length-map, get_or_past, length-set, get_or-set_same}
use prelude.{get_or-set_other, map-set, none-some, same_Some, Job, level_count, Pair, LevelsAt, PendingAt, pending_at}
use prelude.{not_pending, IsPending, pending_of, nothing_pending, IsHeld, AreHeld, NoneWaitsAbove, IsFirstWaiting}
use prelude.{drawn, handed_in, Draws, NoneWaits, TakesIn, PendingMerge}
use Rattle.bucket_levels.proofs.Renewing.{known_at}

-- what is kept of one level is another thing
held_but : (pairs : List Pair) (seq : ℕ) (merges : List PendingMerge) (level : ℕ) (merge : PendingMerge)
    → AreHeld pairs seq merges → level < level_count → IsHeld pairs seq level merge
    → AreHeld pairs seq (set merges level merge)
held_but pairs seq merges level merge held lt here = record {
  count = length-set merges level merge ∙ held.count;
  levels = λ i below. elim (cases_eq i level) [
    | inl e ↦ subst (IsHeld pairs seq i) (sym (ap (λ (n : ℕ). get_or (set merges level merge) n nothing_pending) e
        ∙ get_or-set_same merges level merge nothing_pending (omega (arith, lt, held.count))))
        (subst (λ (n : ℕ). IsHeld pairs seq n merge) (sym e) here)
    | inr e ↦ subst (IsHeld pairs seq i) (sym (get_or-set_other merges level i merge nothing_pending e))
        (held.levels i below)
  ];
}

pub held_without_job : (pairs : List Pair) (seq : ℕ) (merges : List PendingMerge) (level : ℕ)
    → AreHeld pairs seq merges → level < level_count
    → AreHeld pairs seq (set merges level (record (get_or merges level nothing_pending) { job = None }))
held_without_job pairs seq merges level held lt = held_but pairs seq merges level
    (record (get_or merges level nothing_pending) { job = None }) held lt (record {
      job = λ job is. absurd (none-some job is);
      ready = (held.levels level lt).ready;
    })

pub held_with_ready : (pairs : List Pair) (seq : ℕ) (merges : List PendingMerge) (level : ℕ) (out : Job)
    → AreHeld pairs seq merges → level < level_count → IsPending pairs seq level out
    → AreHeld pairs seq (set merges level (record (get_or merges level nothing_pending) { ready = Some out }))
held_with_ready pairs seq merges level out held lt is = held_but pairs seq merges level
    (record (get_or merges level nothing_pending) { ready = Some out }) held lt (record {
      job = (held.levels level lt).job;
      ready = λ other e. subst (IsPending pairs seq level) (same_Some out other e) is;
    })

-- ---- what is known of it

pub known_without_job : (merges : List PendingMerge) (level : ℕ) → level < length merges
    → map pending_of (set merges level (record (get_or merges level nothing_pending) { job = None }))
    ≡ set (map pending_of merges) level (drawn (pending_at (map pending_of merges) level))
known_without_job merges level lt =
    map-set pending_of merges level (record (get_or merges level nothing_pending) { job = None })
    ∙ ap (λ (p : PendingAt). set (map pending_of merges) level (drawn p)) (sym (known_at merges level lt))

pub known_with_ready : (merges : List PendingMerge) (level : ℕ) (out : Job) → level < length merges
    → map pending_of (set merges level (record (get_or merges level nothing_pending) { ready = Some out }))
    ≡ set (map pending_of merges) level (handed_in (pending_at (map pending_of merges) level))
known_with_ready merges level out lt =
    map-set pending_of merges level (record (get_or merges level nothing_pending) { ready = Some out })
    ∙ ap (λ (p : PendingAt). set (map pending_of merges) level (handed_in p)) (sym (known_at merges level lt))

-- ---- what is drawn, and what is taken in

abbrev levels_of : List Pair → ℕ → List PendingMerge → LevelsAt
levels_of pairs seq merges = record { pairs = pairs; seq = seq; pending = map pending_of merges }

pub none_waits : (pairs : List Pair) (seq : ℕ) (merges : List PendingMerge) → NoneWaitsAbove merges (length merges)
    → NoneWaits (levels_of pairs seq merges)
none_waits pairs seq merges none level = elim (cases_lt level (length merges)) [
  | inl lt ↦ ap (λ (p : PendingAt). p.waits) (known_at merges level lt) ∙ none level lt
  | inr le ↦ ap (λ (p : PendingAt). p.waits) (get_or_past (map pending_of merges) level not_pending
      (omega (arith, le, length-map merges pending_of)))
]

pub draws_first : (pairs : List Pair) (seq : ℕ) (merges : List PendingMerge) (level : ℕ) (job : Job)
    → AreHeld pairs seq merges → IsFirstWaiting merges level
    → (get_or merges level nothing_pending).job ≡ Some job
    → Draws (levels_of pairs seq merges) job
    (levels_of pairs seq (set merges level (record (get_or merges level nothing_pending) { job = None })))
draws_first pairs seq merges level job held first is =
    let known = map pending_of merges in
    let pending = (held.levels level (omega (arith, first.within, held.count))).job job is in
    record {
      waited = ap (λ (n : ℕ). (pending_at known n).waits) pending.into
          ∙ ap (λ (p : PendingAt). p.waits) (known_at merges level first.within) ∙ first.waits;
      first = λ i lt. let above : i < level = omega (arith, lt, pending.into) in
          ap (λ (p : PendingAt). p.waits) (known_at merges i (omega (arith, above, first.within)))
          ∙ first.first i above;
      is = subst (λ (n : ℕ). IsPending pairs seq n job) (sym pending.into) pending;
      left = ap (λ (p : List PendingAt). record { pairs = pairs; seq = seq; pending = p })
          (known_without_job merges level first.within
          ∙ ap (λ (n : ℕ). set known n (drawn (pending_at known n))) (sym pending.into));
    }

pub draws_taken : (pairs : List Pair) (seq : ℕ) (merges : List PendingMerge) (level : ℕ) (job : Option Job)
    → AreHeld pairs seq merges → IsFirstWaiting merges level → job ≡ (get_or merges level nothing_pending).job
    → IfSome job (λ j. Draws (levels_of pairs seq merges) j
    (levels_of pairs seq (set merges level (record (get_or merges level nothing_pending) { job = None }))))
draws_taken pairs seq merges level None held first is = tt
draws_taken pairs seq merges level (Some job) held first is =
    draws_first pairs seq merges level job held first (sym is)

-- what waits is there
pub none_taken : (merges : List PendingMerge) (level : ℕ) (job : Option Job) → IsFirstWaiting merges level
    → job ≡ (get_or merges level nothing_pending).job → job ≡ None → ⊥
none_taken merges level job first is none =
    let gone : is_some (get_or merges level nothing_pending).job ≡ false =
    ap (λ (o : Option Job). is_some o) (sym is ∙ none) in
    absurd (cc (gone, first.waits))

pub takes_in : (pairs : List Pair) (seq : ℕ) (merges : List PendingMerge) (out : Job) → AreHeld pairs seq merges
    → out.level < level_count → IsPending pairs seq out.level out
    → TakesIn (levels_of pairs seq merges) out
    (levels_of pairs seq (set merges out.level (record (get_or merges out.level nothing_pending) { ready = Some out })))
takes_in pairs seq merges out held lt is = record {
  is = is;
  left = ap (λ (p : List PendingAt). record { pairs = pairs; seq = seq; pending = p })
      (known_with_ready merges out.level out (omega (arith, lt, held.count)));
}
