-- What lists of moves issue.
use Rattle.op_laws.proofs.Prelude.{◌≡◌, refl, sym, ap, ◌∙◌, Bool, true, false, List, [], ◌∷◌, ◌++◌, ℤ, pos, ◌+ℤ◌, ◌-ℤ◌}
use Rattle.op_laws.proofs.Prelude.{if◌then◌else◌, Asset, Move, is_of_asset, issued_in, issued, add_assoc, add_zero}
use Rattle.op_laws.proofs.Prelude.{zero_add, zeros_add_to_zero}
use Rattle.std.specs.Prelude.{◌&&◌}
use Rattle.op_flags.specs.ledger_types.declared.asset.Asset.TheVariants as asset

-- no moves
pub none_moved : (x : Asset) (n : ℤ) → (n +ℤ issued x []) ≡ n
unfolding issued
none_moved x n = add_zero n

-- moves after moves
pub issued_after : (x : Asset) (moves more : List Move) → issued x (moves ++ more) ≡ (issued x moves +ℤ issued x more)
unfolding issued
issued_after x [] more = sym (zero_add (issued x more))
issued_after x (move ∷ moves) more =
    ap (λ n. issued_in x move +ℤ n) (issued_after x moves more)
    ∙ sym (add_assoc (issued_in x move) (issued x moves) (issued x more))

same_taken : (of : Bool) (n : ℤ) → ((if of && false then n else pos 0) -ℤ (if of && false then n else pos 0)) ≡ pos 0
same_taken true n = refl
same_taken false n = refl

-- lumens have no issuer
pub lumens_not_issued : (moves : List Move) → issued asset.Native moves ≡ pos 0
unfolding issued
lumens_not_issued [] = refl
lumens_not_issued (move ∷ moves) =
    zeros_add_to_zero (issued_in asset.Native move) (issued asset.Native moves)
    (same_taken (is_of_asset asset.Native move) move.amount) (lumens_not_issued moves)
