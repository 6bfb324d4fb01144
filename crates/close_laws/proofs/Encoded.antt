-- Values that have an encoding, by those that they are made of.
use Rattle.close_laws.proofs.Prelude.{ℕ, ◌≤◌, List, [], ◌∷◌, length, All, All-nil, All-cons, AllByRecursion, list, Xdr}
use Rattle.close_laws.proofs.Prelude.{list_of, IsEncoded}

-- ---- lists

pub all_encoded : {V : Type 0} (f : Xdr V) (vs : List V) → AllByRecursion f.within vs → AllByRecursion f.sized vs
    → All (IsEncoded f) vs
all_encoded f [] within sized = All-nil (IsEncoded f)
all_encoded f (v ∷ vs) within sized =
    All-cons (IsEncoded f) v vs (record { within = within.0; sized = sized.0 }) (all_encoded f vs within.1 sized.1)

-- each value of a list, and how many there are at most
pub each_encoded : {V : Type 0} (max : ℕ) (f : Xdr V) (vs : List V) → IsEncoded (list_of max f) vs
    → All (IsEncoded f) vs
unfolding list
each_encoded max f vs encoded = all_encoded f vs encoded.within.1 encoded.sized

pub few_encoded : {V : Type 0} (max : ℕ) (f : Xdr V) (vs : List V) → IsEncoded (list_of max f) vs → length vs ≤ max
unfolding list
few_encoded max f vs encoded = encoded.within.0
