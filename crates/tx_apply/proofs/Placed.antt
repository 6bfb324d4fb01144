-- Envelopes at the indices that are left.
use Rattle.tx_apply.proofs.Prelude.{◌≡◌, ℕ, zero, suc, ◌+◌, ◌<◌, List, [], ◌∷◌, ◌++◌, length, get_or, drop, Option}
use Rattle.tx_apply.proofs.Prelude.{Some, All, refl, ap, ◌∙◌, arith, drop_more, slice_get-get_or, slice_get}
use Rattle.tx_apply.proofs.Prelude.{TransactionEnvelope, at_most_one, envelopes_at}

-- the envelope at the first of them, and the others
pub first_left : (envelopes : List TransactionEnvelope) (indices : List ℕ) (i : ℕ) (d : TransactionEnvelope)
    → i < length indices → get_or indices i 0 < length envelopes
    → envelopes_at envelopes (drop i indices)
    ≡ get_or envelopes (get_or indices i 0) d ∷ envelopes_at envelopes (drop (i + 1) indices)
unfolding envelopes_at
first_left envelopes indices i d within there =
    ap (envelopes_at envelopes) (drop_more indices i 0 within)
    ∙ ap (λ (found : Option TransactionEnvelope). at_most_one found ++ envelopes_at envelopes (drop (i + 1) indices))
    (slice_get-get_or envelopes (get_or indices i 0) d there)

-- as many envelopes as indices
some_at : (envelopes : List TransactionEnvelope) (index : ℕ) → index < length envelopes
    → (x : TransactionEnvelope) × (slice_get envelopes index ≡ Some x)
some_at [] index there = absurd (omega arith)
some_at (first ∷ others) index there =
    (get_or (first ∷ others) index first, slice_get-get_or (first ∷ others) index first there)

pub as_many : (envelopes : List TransactionEnvelope) (indices : List ℕ)
    → All (λ index. index < length envelopes) indices → length (envelopes_at envelopes indices) ≡ length indices
unfolding envelopes_at
as_many envelopes [] there = refl
as_many envelopes (index ∷ indices) there =
    let one = some_at envelopes index (there 0 0 (omega arith)) in
    ap (λ (found : Option TransactionEnvelope). length (at_most_one found ++ envelopes_at envelopes indices)) one.1
    ∙ ap suc (as_many envelopes indices (λ k d within. there (suc k) d (let h = within in omega (arith, h))))

-- whatever represents what is missing
pub same_inside : {X : Type 0} (xs : List X) (i : ℕ) (d e : X) → i < length xs → get_or xs i d ≡ get_or xs i e
same_inside [] i d e within = absurd (omega arith)
same_inside (x ∷ xs) zero d e within = refl
same_inside (x ∷ xs) (suc i) d e within = same_inside xs i d e (let h = within in omega (arith, h))
