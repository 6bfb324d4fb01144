-- A Bloom filter of one word a key.
use Rattle.std.specs.Prelude.{ℕ, ◌+◌, ◌*◌, ◌/◌, ◌%◌, ◌^◌, Bool, List, length, drop, slice_index, nat_lt, nat_eq}
use Rattle.std.specs.Prelude.{bit_and}
use Rattle.std.specs.Prelude.{bit_or, if◌then◌else◌}
use Rattle.byteorder.specs.Endian.{big_number}

-- the word at a position of a text, 0 where the text ends before its end
abbrev pub word_at : List ℕ → ℕ → ℕ
word_at text position = if nat_lt (length text) (position + 8) then 0 else big_number 8 (drop position text)

abbrev pub wrap : ℕ → ℕ
wrap n = n % 2 ^ 64

-- a number for a text: of its words at five offsets
unfoldable pub fingerprint : List ℕ → ℕ
fingerprint text =
    wrap (wrap (wrap (wrap (wrap (word_at text 8 + wrap (word_at text 32 * 13787848793156543929))
    + wrap (word_at text 40 * 10723151780598845931)) + wrap (word_at text 48 * 15485907386658061715))
    + wrap (word_at text 56 * 14029467366897019727)) * 11400714819323198485)

abbrev pub mask : ℕ → ℕ
mask h = bit_or (bit_or (2 ^ (h / 2 ^ 14 % 64)) (2 ^ (h / 2 ^ 20 % 64))) (2 ^ (h / 2 ^ 26 % 64))

abbrev pub slot : List ℕ → ℕ → ℕ
slot words h = h / 2 ^ 32 % length words

abbrev pub may_contain : List ℕ → ℕ → Bool
may_contain words h = nat_eq (bit_and (slice_index words (slot words h)) (mask h)) (mask h)
