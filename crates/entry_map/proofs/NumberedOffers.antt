-- Offers of one seller, numbered from 0 on, have distinct keys.
use Rattle.entry_map.proofs.Prelude.{◌≡◌, ℕ, zero, suc, ◌≤◌, refl, ap, ◌∙◌, arith, Bool, true, false, ◌||◌, List, []}
use Rattle.entry_map.proofs.Prelude.{◌∷◌, ◌++◌, pos, IsDistinct, list_any, eq_by_cmp, eq_by_cmp_equiv, list_any-append}
use Rattle.entry_map.proofs.Prelude.{IsDistinct-push, LedgerKey, key_cmp, keys_total, same_keys}
use Rattle.ledger_types.specs.declared.ids.AccountId.{AccountId}
use Rattle.ledger_types.specs.declared.key.LedgerKey.TheVariants.{Offer}

-- the keys of a seller's first n offers
abbrev pub numbered : AccountId → ℕ → List LedgerKey
numbered seller zero = []
numbered seller (suc n) = numbered seller n ++ Offer seller (pos n) ∷ []

other_number : (seller : AccountId) (n m : ℕ) → suc n ≤ m → (b : Bool)
    → eq_by_cmp key_cmp (Offer seller (pos m)) (Offer seller (pos n)) ≡ b → b ≡ false
other_number seller n m later true e =
    let same : Offer seller (pos m) ≡ Offer seller (pos n) = same_keys _ _ e in
    let equal : m ≡ n = cc same in absurd (omega (arith, equal, later))
other_number seller n m later false e = refl

apart : (seller : AccountId) (n m : ℕ) → n ≤ m
    → list_any (eq_by_cmp key_cmp (Offer seller (pos m))) (numbered seller n) ≡ false
apart seller zero m h = refl
apart seller (suc n) m h =
    list_any-append (eq_by_cmp key_cmp (Offer seller (pos m))) (numbered seller n) (Offer seller (pos n) ∷ [])
    ∙ ap (λ b. b || (eq_by_cmp key_cmp (Offer seller (pos m)) (Offer seller (pos n)) || false))
    (apart seller n m (omega (arith, h)))
    ∙ ap (λ b. b || false) (other_number seller n m h _ refl)

-- no two of them are the same
pub numbered_distinct : (seller : AccountId) (n : ℕ) → IsDistinct (eq_by_cmp key_cmp) (numbered seller n)
unfolding IsDistinct
numbered_distinct seller zero = tt
numbered_distinct seller (suc n) =
    IsDistinct-push (eq_by_cmp_equiv keys_total) (numbered seller n) (Offer seller (pos n)) (numbered_distinct seller n)
    (apart seller n n (omega arith))
