-- What drawing and posting one job more leaves.
use Rattle.worker_merges.proofs.Prelude.{◌≡◌, ℕ, zero, suc, ◌+◌, ◌<◌, ◌≤◌, List, [], ◌∷◌, map, set, true, false, refl}
use Rattle.worker_merges.proofs.Prelude.{sym, ap, ◌∙◌, subst, arith, inl, inr, cond, Bool, ◌⊎◌, Job, drawn, Draws}
use Rattle.worker_merges.proofs.Prelude.{waiting_in, Became}
use Rattle.std.proofs.lemmas.List.Sums.{sum_by-cons}
use Rattle.ledger_close.specs.bucket_levels.Pending.{PendingAt, pending_at}
use Rattle.ledger_close.specs.bucket_levels.Levels.{LevelsAt}

-- ---- the merges that are pending

abbrev drawn_at : List PendingAt → (level : ℕ) → List PendingAt
drawn_at pending level = set pending level (drawn (pending_at pending level))

drawn_as_before : (pending : List PendingAt) (level : ℕ) → map drawn (drawn_at pending level) ≡ map drawn pending
drawn_as_before [] level = refl
drawn_as_before (first ∷ others) zero = refl
drawn_as_before (first ∷ others) (suc level) =
    ap (λ (xs : List PendingAt). drawn first ∷ xs) (drawn_as_before others level)

abbrev bit : Bool → ℕ
bit b = cond b 1 0

counted : (first : PendingAt) (others : List PendingAt)
    → waiting_in (first ∷ others) ≡ bit first.waits + waiting_in others
counted first others = sum_by-cons (λ (merge : PendingAt). bit merge.waits) first others

one_less : (pending : List PendingAt) (level : ℕ) → (pending_at pending level).waits ≡ true
    → waiting_in pending ≡ waiting_in (drawn_at pending level) + 1
one_less [] level waits = absurd cc
one_less (first ∷ others) zero waits =
    let one = counted first others in
    let two = counted (drawn first) others in
    let is : bit first.waits ≡ 1 = ap bit waits in
    omega (arith, one, two, is)
one_less (first ∷ others) (suc level) waits =
    let one = counted first others in
    let two = counted first (drawn_at others level) in
    let rest = one_less others level waits in
    omega (arith, one, two, rest)

pub none_wait_drawn : (pending : List PendingAt) → ((level : ℕ) → (pending_at pending level).waits ≡ false)
    → (map drawn pending ≡ pending) × (waiting_in pending ≡ 0)
none_wait_drawn [] none = (refl, refl)
none_wait_drawn (first ∷ others) none =
    let rest = none_wait_drawn others (λ level. none (suc level)) in
    let is : bit first.waits ≡ 0 = ap bit (none 0) in
    let one = counted first others in (
      ap (λ (b : Bool). record first { waits = b } ∷ map drawn others) (sym (none 0))
          ∙ ap (λ (xs : List PendingAt). first ∷ xs) rest.0,
      (let left = rest.1 in omega (arith, one, is, left)),
    )

-- below an index nothing waits, where it didn't before or was drawn
none_below : (pending : List PendingAt) (level slot : ℕ)
    → ((at : ℕ) → at < level → (pending_at pending at).waits ≡ false) → slot < level + 1
    → (pending_at (drawn_at pending level) slot).waits ≡ false
none_below [] level slot none below = refl
none_below (first ∷ others) zero zero none below = refl
none_below (first ∷ others) zero (suc slot) none below = absurd (omega arith)
none_below (first ∷ others) (suc level) zero none below = none 0 (omega arith)
none_below (first ∷ others) (suc level) (suc slot) none below =
    none_below others level slot (λ at lt. none (suc at) (omega arith)) (omega arith)

-- ---- so far

-- how many levels have no job that waits
pub record DrawnUpTo (back : ℕ) (pending : List PendingAt) : Type 0 where
  pub levels : ℕ
  pub back_few : back ≤ levels
  pub few : levels ≤ 11
  pub none : (level : ℕ) → level < levels → (pending_at pending level).waits ≡ false

pub record SoFar (posted_first : ℕ) (first pending : List PendingAt) (posted back : ℕ) : Type 0 where
  pub drawn_are : map drawn pending ≡ map drawn first
  pub count : posted_first + waiting_in first ≡ posted + back + waiting_in pending
  pub full : 0 < back → 64 ≤ posted
  pub levels : DrawnUpTo back pending

pub nothing_so_far : (posted : ℕ) (pending : List PendingAt) → SoFar posted pending pending posted 0
nothing_so_far posted pending = record {
  drawn_are = refl;
  count = omega arith;
  full = λ some. absurd (omega arith);
  levels = record { levels = 0; back_few = omega arith; few = omega arith; none = λ level lt. absurd (omega arith) };
}

below_or_not : (a b : ℕ) → (a < b) ⊎ (b ≤ a)
below_or_not zero zero = inr (omega arith)
below_or_not zero (suc b) = inl (omega arith)
below_or_not (suc a) zero = inr (omega arith)
below_or_not (suc a) (suc b) = elim (below_or_not a b) [
  | inl lt ↦ inl (omega (arith, lt))
  | inr le ↦ inr (omega (arith, le))
]

-- a level that waits isn't among those that don't
not_among : (back : ℕ) (pending : List PendingAt) (level : ℕ) (d : DrawnUpTo back pending)
    → (pending_at pending level).waits ≡ true → d.levels ≤ level
not_among back pending level d waits = elim (below_or_not level d.levels) [
  | inl below ↦ let no = d.none level below in let clash : true ≡ false = sym waits ∙ no in absurd cc
  | inr above ↦ above
]

one_more_level : (back now : ℕ) (old : LevelsAt) (job : Job) (new : LevelsAt) → DrawnUpTo back old.pending
    → Draws old job new → job.level ≤ 10 → now ≤ back + 1 → DrawnUpTo now new.pending
one_more_level back now old job new d draws deep le =
    let among = not_among back old.pending job.level d draws.waited in
    let few = d.back_few in
    subst (DrawnUpTo now) (sym (ap (λ (l : LevelsAt). l.pending) draws.left))
    (record {
      levels = job.level + 1;
      back_few = omega arith;
      few = omega arith;
      none = λ level lt. none_below old.pending job.level level draws.first lt;
    })

pub one_more : (posted_first : ℕ) (first : List PendingAt) (old : LevelsAt) (job : Job) (new : LevelsAt)
    (posted next back more : ℕ) → SoFar posted_first first old.pending posted back → Draws old job new → job.level ≤ 10
    → Became posted next more → SoFar posted_first first new.pending next (back + more)
one_more posted_first first old job new posted next back more s draws deep became =
    let pending = ap (λ (l : LevelsAt). l.pending) draws.left in
    let less = one_less old.pending job.level draws.waited in
    let left = ap waiting_in pending in
    let count = s.count in
    let drawn_are = ap (map drawn) pending ∙ drawn_as_before old.pending job.level ∙ s.drawn_are in
    elim became [
      | inl it ↦ let next_is = it.0 in let none = it.1 in record {
        drawn_are = drawn_are;
        count = omega (arith, less, left, count, next_is, none);
        full = λ some. (let full = s.full (omega (arith, none, some)) in omega (arith, next_is, full));
        levels = one_more_level back (back + more) old job new s.levels draws deep (omega (arith, none));
      }
      | inr it ↦ let next_is = it.0 in let one = it.1 in record {
        drawn_are = drawn_are;
        count = omega (arith, less, left, count, next_is, one);
        full = λ some. (let full = it.2 in omega (arith, next_is, full));
        levels = one_more_level back (back + more) old job new s.levels draws deep (omega (arith, one));
      }
    ]
