-- Assets that may be held and traded: lumens, or a code of letters and digits with its issuer (isAssetValid in
-- stellar-core).
use Rattle.std.specs.Prelude.{ℕ, nat_le, nat_eq, ◌&&◌, ◌||◌, List, drop, Bool, true}
use Rattle.std.specs.List.{list_all, prefix_len}
use Rattle.ledger_types.specs.declared.asset.Asset.{Asset}
use Rattle.ledger_types.specs.declared.asset.Asset.TheVariants as asset

-- 0 to 9, A to Z, a to z of ASCII
abbrev pub is_letter_or_digit : ℕ → Bool
is_letter_or_digit byte =
    nat_le 0x30 byte && nat_le byte 0x39 || nat_le 0x41 byte && nat_le byte 0x5A || nat_le 0x61 byte && nat_le byte 0x7A

-- how many letters and digits a code begins with
abbrev pub code_len : List ℕ → ℕ
code_len code = prefix_len is_letter_or_digit code

-- at least so many letters and digits, and zero bytes after them
unfoldable pub is_valid_code : ℕ → List ℕ → Bool
is_valid_code fewest code =
    nat_le fewest (code_len code) && list_all (λ byte. nat_eq byte 0) (drop (code_len code) code)

-- A code of arm 1 has 1 to 4 letters and digits, and one of arm 2 has 5 to 12.
unfoldable pub is_valid_asset : Asset → Bool
is_valid_asset asset.Native = true
is_valid_asset (asset.Alphanum4 code issuer) = is_valid_code 1 code
is_valid_asset (asset.Alphanum12 code issuer) = is_valid_code 5 code
