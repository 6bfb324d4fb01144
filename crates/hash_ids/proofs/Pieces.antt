-- A text that is put together from pieces.
use Rattle.hash_ids.proofs.Prelude.{◌≡◌, ℕ, List, [], ◌∷◌, ◌++◌, map, refl, ap, flat_map}
use Rattle.xdr_core.proofs.FormatLaws.{written, u32_laws, i32_laws, i64_laws}
use Rattle.xdr_entries.proofs.BasicLaws.{account_id_laws, hash_laws, asset_laws, pool_params_laws}

pub flat_map-map : {X : Type 0} (f : X → List ℕ) (xs : List X) → flat_map (λ piece. piece) (map f xs) ≡ flat_map f xs
flat_map-map f [] = refl
flat_map-map f (x ∷ xs) = ap (λ t. f x ++ t) (flat_map-map f xs)

-- each piece that was written is its encoding at the end of what was there
pub ruleset written_pieces =
    (written, u32_laws, i32_laws, i64_laws, account_id_laws, hash_laws, asset_laws, pool_params_laws)
