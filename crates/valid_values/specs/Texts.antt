-- Texts that names and home domains may be (isStringValid in stellar-core).
use Rattle.std.specs.Prelude.{ℕ, nat_le, ◌&&◌, List, Bool}
use Rattle.std.specs.List.{list_all}

-- 0x20 to 0x7E of ASCII
abbrev pub is_printable : ℕ → Bool
is_printable byte = nat_le 0x20 byte && nat_le byte 0x7E

-- each byte is printable; the empty text is valid too
unfoldable pub is_valid_text : List ℕ → Bool
is_valid_text text = list_all is_printable text
