-- When the merge that is pending into a level began, and when it is committed.
use Rattle.bucket_levels.proofs.Prelude.{◌≡◌, inl, inr, ℕ, suc, ◌+◌, ◌-◌, ◌*◌, ◌/◌, ◌%◌, ◌<◌, ◌≤◌, true, false, ap, ◌∙◌}
use Rattle.bucket_levels.proofs.Prelude.{arith, cases_lt, mul-add-mod_self_right, mod-eq_of_lt, mod_self, mod-le, half}
use Rattle.bucket_levels.proofs.Prelude.{spills, start_of, commit_of}
use Rattle.std.proofs.lemmas.Nat.{div-add-mod', mod_below}
use Rattle.bucket_levels.proofs.Halves.{half_is_positive, is_divided, is_not_divided}

-- the rest of the next number
rest_of_next : (h n : ℕ) → (n + 1) % h ≡ (n % h + 1) % h
rest_of_next h n =
    let parts : n + 1 ≡ n / h * h + (n % h + 1) = omega (arith, div-add-mod' n h) in
    ap (λ (m : ℕ). m % h) parts ∙ mul-add-mod_self_right (n / h) h (n % h + 1)

-- one more than a rest that isn't the greatest
rest_below : (h n : ℕ) → n % h + 1 < h → (n + 1) % h ≡ n % h + 1
rest_below h n lt = rest_of_next h n ∙ mod-eq_of_lt lt

-- one more than the greatest rest
rest_above : (h n : ℕ) → 0 < h → h ≤ n % h + 1 → ((n + 1) % h ≡ 0) × (n % h + 1 ≡ h)
rest_above h n some le =
    let full : n % h + 1 ≡ h = omega (arith, le, mod_below n h some) in
    (rest_of_next h n ∙ ap (λ (m : ℕ). m % h) full ∙ mod_self h, full)

-- a number before one that is divided has the greatest rest
rest_before : (h n : ℕ) → 0 < h → (n + 1) % h ≡ 0 → n % h + 1 ≡ h
rest_before h n some divided = elim (cases_lt (n % h + 1) h) [
  | inl lt ↦ absurd (omega (arith, divided, rest_below h n lt))
  | inr le ↦ (rest_above h n some le).1
]

-- and one before any other has one less
rest_before_other : (h n : ℕ) → 0 < h → ((n + 1) % h ≡ 0 → ⊥) → (n + 1) % h ≡ n % h + 1
rest_before_other h n some other = elim (cases_lt (n % h + 1) h) [
  | inl lt ↦ rest_below h n lt
  | inr le ↦ absurd (other (rest_above h n some le).0)
]

-- ---- merges

-- where the level above spills at the next ledger, the merge is committed there
pub commit_is_next : (above seq : ℕ) → spills above (seq + 1) ≡ true → commit_of (suc above) seq ≡ seq + 1
commit_is_next above seq spilled =
    let rest = rest_before (half above) seq (half_is_positive above) (is_divided above (seq + 1) spilled) in
    let less : seq % half above ≤ seq = mod-le seq (half above) in
    omega (arith, rest, less)

-- and the next one begins
pub start_is_now : (above seq : ℕ) → spills above seq ≡ true → start_of (suc above) seq ≡ seq
start_is_now above seq spilled = omega (arith, is_divided above seq spilled)

-- else its start stays
pub start_stays : (above seq : ℕ) → above < 10 → spills above (seq + 1) ≡ false
    → start_of (suc above) (seq + 1) ≡ start_of (suc above) seq
start_stays above seq low stays =
    let rest = rest_before_other (half above) seq (half_is_positive above) (is_not_divided above (seq + 1) low stays) in
    omega (arith, rest)
