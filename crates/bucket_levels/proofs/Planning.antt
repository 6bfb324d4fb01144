-- A step is planned level by level.
use Rattle.bucket_levels.proofs.Prelude.{◌≡◌, ℕ, zero, suc, ◌+◌, ◌-◌, ◌<◌, ◌≤◌, List, [], ◌∷◌, ◌++◌, length, map}
use Rattle.bucket_levels.proofs.Prelude.{get_or, sym, ap, subst, ◌∙◌, add-one, arith, below_more, get_or-map}
use Rattle.bucket_levels.proofs.Prelude.{get_or_append_left, get_or_push, length_push, map-append, Contents, LevelPair}
use Rattle.bucket_levels.proofs.Prelude.{level_count, pair_at, empty_pair, LevelsAt, pair_of, work_at, work_above}
use Rattle.bucket_levels.specs.EachLevel.{EachLevel}

-- ---- the files of one level

pub pair_is_at : (items : List LevelPair) (i : ℕ) (pair : LevelPair) → i < length items → pair ≡ get_or items i pair
    → pair_of pair ≡ pair_at (map pair_of items) i
pair_is_at items i pair lt is = ap pair_of is ∙ sym (get_or-map pair_of items i pair empty_pair lt)

-- ---- level by level

pub one_more_level : {X : Type 0} (none : X) (P : ℕ → X → Type 0) (level : ℕ) (items : List X) (x : X)
    → EachLevel none P level items → P level x → EachLevel none P (level + 1) (items ++ x ∷ [])
one_more_level none P level items x each here = record {
  count = length_push items x ∙ ap (λ (n : ℕ). n + 1) each.count;
  levels = below_more (λ (i : ℕ). P i (get_or (items ++ x ∷ []) i none)) level
      (λ i lt. let within : i < length items = omega (arith, each.count) in
      subst (P i) (sym (get_or_append_left items (x ∷ []) none i within)) (each.levels i lt))
      (subst (P level) (sym (get_or_push items x none level each.count)) here);
}

pub pushed : (items after : List LevelPair) (pair : LevelPair) → after ≡ items ++ pair ∷ []
    → map pair_of after ≡ map pair_of items ++ pair_of pair ∷ []
pushed items after pair e =
    ap (λ (pairs : List LevelPair). map pair_of pairs) e ∙ map-append pair_of items (pair ∷ [])

-- ---- the work

pub work_more : (seq : ℕ) (fresh : Contents) (old : LevelsAt) (level : ℕ)
    → work_above seq fresh old (level + 1) ≡ work_above seq fresh old level + work_at seq fresh old level
unfolding work_above
work_more seq fresh old level = ap (work_above seq fresh old) (add-one level)

work_within : (seq : ℕ) (fresh : Contents) (old : LevelsAt) (n level : ℕ) → level + n ≡ level_count
    → work_above seq fresh old level ≤ work_above seq fresh old level_count
work_within seq fresh old zero level e =
    let same = ap (work_above seq fresh old) (let f : level ≡ level_count = omega (arith, e) in f) in
    omega (arith, same)
work_within seq fresh old (suc n) level e =
    let more = work_more seq fresh old level in
    let rest = work_within seq fresh old n (level + 1) (omega (arith, e)) in
    omega (arith, more, rest)

-- the work of the first levels is within that of all
work_is_within : (seq : ℕ) (fresh : Contents) (old : LevelsAt) (level : ℕ) → level ≤ level_count
    → work_above seq fresh old level ≤ work_above seq fresh old level_count
work_is_within seq fresh old level le =
    work_within seq fresh old (level_count - level) level (omega (arith, le))

-- the work of one level more
pub work_follows : (seq : ℕ) (fresh : Contents) (old : LevelsAt) (level start before now : ℕ)
    → before ≤ start + work_above seq fresh old level → now ≤ before + work_at seq fresh old level
    → now ≤ start + work_above seq fresh old (level + 1)
work_follows seq fresh old level start before now was more =
    let next = work_more seq fresh old level in
    omega (arith, next, was, more)

pub work_stays_within : (seq : ℕ) (fresh : Contents) (old : LevelsAt) (level start before now : ℕ)
    → level < level_count → before ≤ start + work_above seq fresh old level
    → now ≤ before + work_at seq fresh old level → now ≤ start + work_above seq fresh old level_count
work_stays_within seq fresh old level start before now lt was more =
    let here = work_follows seq fresh old level start before now was more in
    let all = work_is_within seq fresh old (level + 1) (omega (arith, lt)) in
    omega (arith, here, all)
