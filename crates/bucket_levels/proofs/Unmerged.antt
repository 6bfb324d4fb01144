-- A bucket that is merged onto nothing stays as it is, but at the deepest level, which never spills; and one that is
-- merged onto a curr.
use Rattle.bucket_levels.proofs.Prelude.{◌≡◌, ℕ, zero, suc, ◌-◌, ◌<◌, ◌≤◌, Bool, true, false, List, Option, Some, None}
use Rattle.bucket_levels.proofs.Prelude.{refl, eqb, sym, ap, subst, arith, nat_eq, if◌then◌else◌, Change, Init, Live}
use Rattle.bucket_levels.proofs.Prelude.{Dead, Contents, change_at, kept, merged_change, IsMerge, spills, Pair, pair_at}
use Rattle.bucket_levels.proofs.Prelude.{base_at, IsMergedIf, IsCurrAfter}
use Rattle.bucket_levels.proofs.Halves.{spills_above}

not_deepest : (level : ℕ) → level < 10 → nat_eq level 10 ≡ false
not_deepest level low = by (eqb level 10) refl
  where
    by : (b : Bool) → eqb level 10 ≡ b → eqb level 10 ≡ false
    by true is = absurd (grind (arith, low, is))
    by false is = is

kept_as_it_is : (level : ℕ) → nat_eq level 10 ≡ false → (change : Change) → kept level change ≡ Some change
kept_as_it_is level above (Init entry) = refl
kept_as_it_is level above (Live entry) = refl
kept_as_it_is level above Dead = ap (λ (b : Bool). if b then None else Some Dead) above

alone : (level : ℕ) → nat_eq level 10 ≡ false → (newer : Option Change) → newer ≡ merged_change level None newer
alone level above None = refl
alone level above (Some change) = sym (kept_as_it_is level above change)

onto_nothing : (level : ℕ) → level < 10 → (newer : Contents) → IsMerge level None newer newer
onto_nothing level low newer = record {
  version = refl;
  changes = λ k. alone level (not_deepest level low) (change_at newer k);
}

onto_base : (level seq : ℕ) (pairs : List Pair) (newer : Contents) → spills level seq ≡ true
    → IsMerge level (base_at seq pairs level) newer newer
onto_base level seq pairs newer spilled =
    subst (λ (b : Bool). IsMerge level (if b then None else (pair_at pairs level).curr) newer newer) (sym spilled)
    (onto_nothing level (spills_above level seq spilled) newer)

-- the first level keeps the fresh bucket
pub spilled_first : (seq : ℕ) (fresh : Contents) (pairs : List Pair) → spills 0 seq ≡ true
    → IsCurrAfter seq fresh pairs 0 fresh
spilled_first seq fresh pairs spilled = onto_base 0 seq pairs fresh spilled

below : (i seq : ℕ) (fresh : Contents) (pairs : List Pair) → spills i seq ≡ true → spills (suc i) seq ≡ true
    → IsCurrAfter seq fresh pairs (suc i) (pair_at pairs i).snap
below i seq fresh pairs above spilled =
    subst (λ (b : Bool). IsMergedIf b (suc i) (base_at seq pairs (suc i)) (pair_at pairs i).snap
    (pair_at pairs (suc i)).curr (pair_at pairs i).snap) (sym above)
    (onto_base (suc i) seq pairs (pair_at pairs i).snap spilled)

-- each other one keeps the snap of the level above it
pub spilled_below : (level seq : ℕ) (fresh : Contents) (pairs : List Pair) → 1 ≤ level → spills (level - 1) seq ≡ true
    → spills level seq ≡ true → IsCurrAfter seq fresh pairs level (pair_at pairs (level - 1)).snap
spilled_below level seq fresh pairs low above spilled =
    let is : suc (level - 1) ≡ level = omega (arith, low) in
    subst (λ (n : ℕ). IsCurrAfter seq fresh pairs n (pair_at pairs (level - 1)).snap) is
    (below (level - 1) seq fresh pairs above (subst (λ (n : ℕ). spills n seq ≡ true) (sym is) spilled))

onto_curr : (level seq : ℕ) (pairs : List Pair) (newer new : Contents) → spills level seq ≡ false
    → IsMerge level (pair_at pairs level).curr newer new → IsMerge level (base_at seq pairs level) newer new
onto_curr level seq pairs newer new stays is =
    subst (λ (b : Bool). IsMerge level (if b then None else (pair_at pairs level).curr) newer new) (sym stays) is

merged_at : (i seq : ℕ) (fresh new : Contents) (pairs : List Pair) → spills i seq ≡ true → spills (suc i) seq ≡ false
    → IsMerge (suc i) (pair_at pairs (suc i)).curr (pair_at pairs i).snap new → IsCurrAfter seq fresh pairs (suc i) new
merged_at i seq fresh new pairs above stays is =
    subst (λ (b : Bool). IsMergedIf b (suc i) (base_at seq pairs (suc i)) (pair_at pairs i).snap
    (pair_at pairs (suc i)).curr new) (sym above) (onto_curr (suc i) seq pairs (pair_at pairs i).snap new stays is)

-- a level that doesn't spill has it merged onto its curr
pub merged_below : (level seq : ℕ) (fresh new : Contents) (pairs : List Pair) → 1 ≤ level
    → spills (level - 1) seq ≡ true → spills level seq ≡ false
    → IsMerge level (pair_at pairs level).curr (pair_at pairs (level - 1)).snap new
    → IsCurrAfter seq fresh pairs level new
merged_below level seq fresh new pairs low above stays is =
    let same : suc (level - 1) ≡ level = omega (arith, low) in
    subst (λ (n : ℕ). IsCurrAfter seq fresh pairs n new) same
    (merged_at (level - 1) seq fresh new pairs above (subst (λ (n : ℕ). spills n seq ≡ false) (sym same) stays)
    (subst (λ (n : ℕ). IsMerge n (pair_at pairs n).curr (pair_at pairs (level - 1)).snap new) (sym same) is))
