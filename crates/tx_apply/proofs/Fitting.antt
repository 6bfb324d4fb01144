-- What holds of the elements so far.
use Rattle.tx_apply.proofs.Prelude.{◌≡◌, ℕ, ◌+◌, ◌<◌, ◌≤◌, List, [], ◌∷◌, length, take, get_or, All, sym, subst}
use Rattle.tx_apply.proofs.Prelude.{take_more, take_all, All-nil, All-cons, All-append}

-- of one more
pub holds_more : {X : Type 0} (P : X → Type 0) (xs : List X) (i : ℕ) (x : X) → i < length xs → x ≡ get_or xs i x
    → All P (take i xs) → P x → All P (take (i + 1) xs)
holds_more P xs i x within e all holds =
    subst (All P) (sym (take_more xs i x within))
    (All-append P (take i xs) (get_or xs i x ∷ []) all (All-cons P (get_or xs i x) [] (subst P e holds) (All-nil P)))

-- of all
pub holds_all : {X : Type 0} (P : X → Type 0) (xs : List X) (i : ℕ) → length xs ≤ i → All P (take i xs) → All P xs
holds_all P xs i past all = subst (All P) (take_all i xs past) all
