-- Lists of entries, and of pairs with their keys.
use Rattle.entry_map.proofs.Prelude.{◌≡◌, refl, sym, ap, ◌∙◌, append-nil, List, [], ◌∷◌, ◌++◌, map, keys_of, LedgerKey}
use Rattle.entry_map.proofs.Prelude.{LedgerEntry, key_of}
use Rattle.entry_map.proofs.Layers.{with_key}

pub map_push : {X Y : Type 0} (f : X → Y) (xs : List X) (x : X) → map f (xs ++ x ∷ []) ≡ map f xs ++ f x ∷ []
map_push f [] x = refl
map_push f (y ∷ xs) x = ap (λ ys. f y ∷ ys) (map_push f xs x)

pub keys_of-with_key : (es : List LedgerEntry) → keys_of (map with_key es) ≡ map key_of es
keys_of-with_key [] = refl
keys_of-with_key (e ∷ es) = ap (λ ks. key_of e ∷ ks) (keys_of-with_key es)

-- once nothing is left, the pairs have the keys of all entries
pub all_keys : (yielded rest : List LedgerEntry) (pairs : List (LedgerKey × LedgerEntry)) (all : List LedgerEntry)
    → pairs ≡ map with_key yielded → yielded ++ rest ≡ all → rest ≡ [] → map key_of all ≡ keys_of pairs
all_keys yielded rest pairs all made left none =
    ap (map key_of) (sym left ∙ ap (λ es. yielded ++ es) none ∙ append-nil yielded) ∙ sym (keys_of-with_key yielded)
    ∙ ap keys_of (sym made)
