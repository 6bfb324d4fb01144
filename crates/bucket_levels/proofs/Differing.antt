-- The first offset at which two texts differ.
use Rattle.bucket_levels.proofs.Prelude.{◌≡◌, ℕ, ◌+◌, ◌<◌, ◌≤◌, min, List, length, take, get_or, sym, ap, ◌∙◌, arith}
use Rattle.bucket_levels.proofs.Prelude.{inl, inr, ◌⊎◌, slice_get, cases_lt, slice_get-get_or, slice_get_past}
use Rattle.bucket_levels.proofs.Prelude.{none-some, same_Some, DifferAt}
use Rattle.std.proofs.lemmas.Grind.{common_steps}

take_past_end : (at : ℕ) (xs : List ℕ) → length xs ≤ at → take at xs ≡ xs
take_past_end at xs le = grind (arith, common_steps, le)

pub differ_inside : (a b : List ℕ) (at : ℕ) → at < length a → at < length b → take at a ≡ take at b
    → (get_or a at 0 ≡ get_or b at 0 → ⊥) → DifferAt at a b
differ_inside a b at in_a in_b before apart = record {
  before = before;
  apart = λ e. apart (same_Some (get_or a at 0) (get_or b at 0)
      (sym (slice_get-get_or a at 0 in_a) ∙ e ∙ slice_get-get_or b at 0 in_b));
}

-- where one has ended, the other one goes on
ended : (a b : List ℕ) (at : ℕ) → length a ≤ at → take at a ≡ take at b → slice_get a at ≡ slice_get b at → a ≡ b
ended a b at past before e = elim (cases_lt at (length b)) [
  | inl within ↦ absurd (none-some (get_or b at 0)
      (sym (slice_get_past a at past) ∙ e ∙ slice_get-get_or b at 0 within))
  | inr over ↦ sym (take_past_end at a past) ∙ before ∙ take_past_end at b over
]

pub differ_at_end : (a b : List ℕ) (at : ℕ) → take at a ≡ take at b → at ≡ min (length a) (length b)
    → (length a ≡ length b → ⊥) → DifferAt at a b
differ_at_end a b at before end other = record {
  before = before;
  apart = λ e. elim (cases_lt (length a) (length b)) [
    | inl lt ↦ other (ap (λ (xs : List ℕ). length xs) (ended a b at (omega (arith, lt, end)) before e))
    | inr le ↦ other (ap (λ (xs : List ℕ). length xs)
        (sym (ended b a at (omega (arith, le, end)) (sym before) (sym e))))
  ];
}

pub same_at_end : (a b : List ℕ) (at : ℕ) → take at a ≡ take at b → at ≡ min (length a) (length b)
    → length a ≡ length b → a ≡ b
same_at_end a b at before end same = sym (take_past_end at a (omega (arith, end, same))) ∙ before
    ∙ take_past_end at b (omega (arith, end, same))

pub same_so_far : (a b : List ℕ) (at : ℕ) → at < length a → at < length b → take at a ≡ take at b
    → get_or a at 0 ≡ get_or b at 0 → take (at + 1) a ≡ take (at + 1) b
same_so_far a b at in_a in_b before same = grind (arith, common_steps, in_a, in_b, before, same)

pub ruleset differences = (differ_inside, differ_at_end, same_at_end, same_so_far)
