-- What rows are made of. A lemma is a group of rows under `&&`, each of which the checker computes.
use Rattle.definition_rows.proofs.Prelude.{ℕ, ◌+◌, ◌*◌, ◌-◌, List, [], ◌∷◌, nat_lt, if◌then◌else◌}
use Rattle.std.specs.Prelude.{codes}
use Prim.Native.String.{String}

-- the number of a hexadecimal digit, 0 to 9 or a to f
unfoldable pub digit : ℕ → ℕ
digit code = if nat_lt code 58 then code - 48 else code - 87

-- two digits a byte
unfoldable pub bytes_of_digits : List ℕ → List ℕ
bytes_of_digits (high ∷ low ∷ rest) = (digit high * 16 + digit low) ∷ bytes_of_digits rest
bytes_of_digits other = []

-- the bytes of hexadecimal text
unfoldable pub hex : String → List ℕ
unfolding bytes_of_digits digit
hex text = bytes_of_digits (codes text)
