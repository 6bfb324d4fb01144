-- Signers each of which is below the next rise.
use Rattle.image_rules.proofs.Prelude.{◌≡◌, subst, ℕ, zero, suc, ◌+◌, ◌-◌, ◌<◌, List, length, get_or, arith, AllPairs}
use Rattle.image_rules.proofs.Prelude.{Signer, signer_keys_total, IsBelow}

-- each of the first n is below the next
abbrev pub RiseBefore : List Signer → ℕ → Type 0
RiseBefore xs n = (k : ℕ) (d : Signer) → k + 1 < n → IsBelow (get_or xs k d) (get_or xs (k + 1) d)

module _ (xs : List Signer) (d : Signer)
    (rise : (k : ℕ) → k + 1 < length xs → IsBelow (get_or xs k d) (get_or xs (k + 1) d)) where
  far : (i n : ℕ) → i + n + 1 < length xs → IsBelow (get_or xs i d) (get_or xs (i + n + 1) d)
  far i zero lt =
      let same : i + 1 ≡ i + 0 + 1 = omega arith in
      subst (λ j. IsBelow (get_or xs i d) (get_or xs j d)) same (rise i (omega arith))
  far i (suc n) lt =
      let same : i + n + 1 + 1 ≡ i + suc n + 1 = omega arith in
      subst (λ j. IsBelow (get_or xs i d) (get_or xs j d)) same
      (signer_keys_total.trans (get_or xs i d).key (get_or xs (i + n + 1) d).key (get_or xs (i + n + 1 + 1) d).key
      (far i n (omega arith)) (rise (i + n + 1) (omega arith)))

pub rising_of : (xs : List Signer) → RiseBefore xs (length xs) → AllPairs IsBelow xs
rising_of xs rise i j d lt within =
    let same : i + (j - i - 1) + 1 ≡ j = omega arith in
    subst (λ n. IsBelow (get_or xs i d) (get_or xs n d)) same
    (far xs d (λ k. rise k d) i (j - i - 1) (omega arith))

pub rise_of : (xs : List Signer) (n : ℕ) → AllPairs IsBelow xs → RiseBefore xs (length xs)
rise_of xs n pairs k d lt = pairs k (k + 1) d (omega arith) lt
