-- Encodings laid out by hand after RFC 4506 and RFC 5531, read and written. The contracts of `Cursor` and `Builder`
-- name these formats.
use Rattle.definition_rows.proofs.Prelude.{◌≡◌, refl, ap, ℕ, pos, negsuc, List, [], ◌∷◌, Bool, true, false, ◌&&◌, Some}
use Rattle.definition_rows.proofs.Prelude.{None, Result, Ok, Err, codes, ◌-◌, nat_eq, int_eq, bytes_eq, false≢true}
use Rattle.definition_rows.proofs.Prelude.{XdrFault, XdrKind, Short, Padding, TooLong, BadFlag, BadMark, BadEnum}
use Rattle.definition_rows.proofs.Prelude.{Trailing, Position, Reading, start_of, onward, u32, u64, i32, i64, flag}
use Rattle.definition_rows.proofs.Prelude.{fixed, count, var, opaque_at, mark, ◌⨾◌, constant, option, list, many_at}
use Rattle.definition_rows.proofs.Prelude.{extension, Xdr, tag, optional, list_of, extension_of, EndsAt}
use Rattle.std.proofs.Common.{◌++◌, drop}
use Prim.Native.String.{String}
use Rattle.definition_rows.proofs.Computed.{same_numbers, same_flags}
use Rattle.definition_rows.proofs.Rows.{hex}
use Rattle.definition_rows.proofs.Readings.{kind_number}

-- ---- what rows say

abbrev is_value : {V : Type 0} → (V → V → Bool) → Position → V → (end : ℕ) → Reading XdrFault V → Bool
is_value same p v end (Ok x) = same x.0 v && nat_eq x.1.at end && bytes_eq x.1.rest (drop (end - p.at) p.rest)
is_value same p v end (Err fault) = false

-- A value begins at an offset and ends at another.
abbrev reads : {V : Type 0} → Xdr V → (V → V → Bool) → Position → V → (end : ℕ) → Bool
reads format same p v end = is_value same p v end (format.read p)

abbrev is_fault : {V : Type 0} → (at : ℕ) → XdrKind → Reading XdrFault V → Bool
is_fault at kind (Ok x) = false
is_fault at kind (Err fault) = nat_eq fault.at at && nat_eq (kind_number fault.kind) (kind_number kind)

-- No value begins there, and the fault names its offset.
abbrev fails : {V : Type 0} → Xdr V → Position → (at : ℕ) → XdrKind → Bool
fails format p at kind = is_fault at kind (format.read p)

-- A value is written as these bytes, after one that stays.
abbrev writes : {V : Type 0} → Xdr V → V → List ℕ → Bool
writes format v encoding = bytes_eq (format.onto (255 ∷ []) v) (255 ∷ encoding)

-- the start of these bytes
abbrev input : String → Position
input digits = start_of (hex digits)

abbrev same_units : Unit {0} → Unit {0} → Bool
same_units a b = true

-- ---- numbers

numbers_of_32_bits_are_read_highest_byte_first : (
    reads u32 nat_eq (input "00000000") 0 4
    && reads u32 nat_eq (input "01020304") 16909060 4
    && reads u32 nat_eq (input "7fffffff") 2147483647 4
    && reads u32 nat_eq (input "80000000") 2147483648 4
    && reads u32 nat_eq (input "ffffffff") 4294967295 4
    && reads i32 int_eq (input "00000000") (pos 0) 4
    && reads i32 int_eq (input "01020304") (pos 16909060) 4
    && reads i32 int_eq (input "7fffffff") (pos 2147483647) 4
    && reads i32 int_eq (input "80000000") (negsuc 2147483647) 4
    && reads i32 int_eq (input "ffffffff") (negsuc 0) 4) ≡ true
unfolding u32 i32 hex
numbers_of_32_bits_are_read_highest_byte_first = refl

numbers_of_32_bits_are_written_highest_byte_first : (
    writes u32 0 (hex "00000000")
    && writes u32 16909060 (hex "01020304")
    && writes u32 2147483647 (hex "7fffffff")
    && writes u32 2147483648 (hex "80000000")
    && writes u32 4294967295 (hex "ffffffff")
    && writes i32 (pos 0) (hex "00000000")
    && writes i32 (pos 16909060) (hex "01020304")
    && writes i32 (pos 2147483647) (hex "7fffffff")
    && writes i32 (negsuc 2147483647) (hex "80000000")
    && writes i32 (negsuc 0) (hex "ffffffff")) ≡ true
unfolding u32 i32 hex
numbers_of_32_bits_are_written_highest_byte_first = refl

numbers_of_64_bits_are_read_highest_byte_first : (
    reads u64 nat_eq (input "0000000100000000") 4294967296 8
    && reads u64 nat_eq (input "7fffffffffffffff") 9223372036854775807 8
    && reads u64 nat_eq (input "8000000000000000") 9223372036854775808 8
    && reads u64 nat_eq (input "ffffffffffffffff") 18446744073709551615 8
    && reads i64 int_eq (input "0000000100000000") (pos 4294967296) 8
    && reads i64 int_eq (input "7fffffffffffffff") (pos 9223372036854775807) 8
    && reads i64 int_eq (input "8000000000000000") (negsuc 9223372036854775807) 8
    && reads i64 int_eq (input "ffffffffffffffff") (negsuc 0) 8) ≡ true
unfolding u64 i64 hex
numbers_of_64_bits_are_read_highest_byte_first = refl

numbers_of_64_bits_are_written_highest_byte_first : (
    writes u64 4294967296 (hex "0000000100000000")
    && writes u64 9223372036854775807 (hex "7fffffffffffffff")
    && writes u64 9223372036854775808 (hex "8000000000000000")
    && writes u64 18446744073709551615 (hex "ffffffffffffffff")
    && writes i64 (pos 4294967296) (hex "0000000100000000")
    && writes i64 (pos 9223372036854775807) (hex "7fffffffffffffff")
    && writes i64 (negsuc 9223372036854775807) (hex "8000000000000000")
    && writes i64 (negsuc 0) (hex "ffffffffffffffff")) ≡ true
unfolding u64 i64 hex
numbers_of_64_bits_are_written_highest_byte_first = refl

-- ---- opaque bytes, flags and lengths

-- The padding may end too early, whatever it has in it, and the length is tested before what follows.
opaque_bytes_are_filled_up_with_zeros : (
    reads (var 64) bytes_eq (input "00000000") [] 4
    && reads (var 64) bytes_eq (input "0000000361626300") (codes "abc") 8
    && reads (var 64) bytes_eq (input "0000000461626364") (codes "abcd") 8
    && reads (var 64) bytes_eq (input "0000000568656c6c6f000000") (codes "hello") 12
    && fails (var 64) (input "0000000361626301") 7 Padding
    && fails (var 64) (input "0000000161000101") 6 Padding
    && fails (var 64) (input "000000036162") 6 Short
    && fails (var 64) (input "000000016101") 6 Short
    && fails (var 64) (input "00000041") 0 TooLong
    && fails (var 64) (input "000000") 3 Short) ≡ true
unfolding var count opaque_at hex
opaque_bytes_are_filled_up_with_zeros = refl

-- true, false, the length 2, "hello", "abc" and "hi", and three bytes after them
abbrev fields_input : List ℕ
fields_input = hex "00000001000000000000000268656c6c6f000000616263000000000268690000726177"

abbrev Values : Type 0
Values = Bool × (Bool × (ℕ × (List ℕ × (List ℕ × List ℕ))))

abbrev fields : Xdr Values
fields = flag ⨾ flag ⨾ count 2 ⨾ fixed 5 ⨾ fixed 3 ⨾ var 2

abbrev values : Values
values = (true, (false, (2, (codes "hello", (codes "abc", codes "hi")))))

abbrev same_values : Values → Values → Bool
same_values (a, (b, (c, (d, (e, f))))) (i, (j, (k, (l, (m, n))))) =
    same_flags a i && same_flags b j && nat_eq c k && bytes_eq d l && bytes_eq e m && bytes_eq f n

fields_follow_one_another : (
    reads fields same_values (start_of fields_input) values 32
    && bytes_eq (fields.onto [] values ++ codes "raw") fields_input) ≡ true
unfolding flag count fixed var opaque_at hex
fields_follow_one_another = refl

-- after so many bytes of them
abbrev after : ℕ → Position
after n = onward n (start_of fields_input)

-- Offsets are counted from the start of the input.
a_fault_names_its_offset_in_the_entire_input : (
    fails (count 1) (after 8) 8 TooLong
    && fails flag (after 8) 8 BadFlag
    && fails (fixed 3) (after 12) 15 Padding
    && fails u32 (after 35) 35 Short
    && fails u64 (after 35) 35 Short) ≡ true
unfolding flag count fixed opaque_at u32 u64 hex
a_fault_names_its_offset_in_the_entire_input = refl

abbrev is_empty : List ℕ → Bool
is_empty [] = true
is_empty (byte ∷ bytes) = false

bytes_left_over_are_reported_at_their_offset : (answer : Result (Unit {0}) XdrFault) → EndsAt (after 32) answer
    → answer ≡ Err (record { at = 32; kind = Trailing })
unfolding hex
bytes_left_over_are_reported_at_their_offset (Ok done) at_end = absurd (false≢true (ap is_empty at_end))
bytes_left_over_are_reported_at_their_offset (Err fault) left_over = ap Err left_over.0

nothing_is_left_after_the_last_byte : (answer : Result (Unit {0}) XdrFault)
    → EndsAt (after 35) answer → answer ≡ Ok tt
unfolding hex
nothing_is_left_after_the_last_byte (Ok done) at_end = refl
nothing_is_left_after_the_last_byte (Err fault) left_over = absurd (left_over.1 refl)

-- ---- record marks and tags

-- after four bytes
abbrev after_word : String → Position
after_word digits = onward 4 (start_of (codes "word" ++ hex digits))

-- The kind of a mark and its length are tested before what follows.
a_record_follows_its_mark : (
    reads (mark 4) bytes_eq (after_word "800000026162") (codes "ab") 10
    && reads (mark 4) bytes_eq (after_word "80000004616263646566") (codes "abcd") 12
    && reads (mark 4) bytes_eq (after_word "80000000") [] 8
    && fails (mark 4) (after_word "000000026162") 4 BadMark
    && fails (mark 4) (after_word "7fffffff") 4 BadMark
    && fails (mark 4) (after_word "80000005") 4 TooLong
    && fails (mark 4) (after_word "ffffffff") 4 TooLong
    && fails (mark 4) (after_word "80000004616263") 11 Short
    && fails (mark 4) (after_word "800000") 7 Short) ≡ true
unfolding mark hex
a_record_follows_its_mark = refl

-- inside a record whose mark is at offset 4
abbrev inside : List ℕ → Position
inside contents = record { at = 8; rest = contents }

-- What is in a record ends with it, and its offsets are those of the entire input.
a_record_is_read_to_its_own_end : (
    reads (mark 8) bytes_eq (after_word "80000004000000076d6f7265") (hex "00000007") 12
    && reads (mark 8) bytes_eq (after_word "80000008000000096d6f7265") (hex "000000096d6f7265") 16
    && reads (mark 8) bytes_eq (after_word "80000002616263646566") (hex "6162") 10
    && fails (mark 8) (after_word "80000004616263") 11 Short
    && fails (mark 8) (after_word "80000009") 4 TooLong
    && reads u32 nat_eq (inside (hex "00000007")) 7 12
    && reads u32 nat_eq (inside (hex "000000096d6f7265")) 9 12
    && fails u32 (inside (hex "6162")) 10 Short) ≡ true
unfolding mark u32 hex
a_record_is_read_to_its_own_end = refl

a_record_is_written_after_its_mark : (
    writes (mark 2) (codes "ab") (hex "800000026162")
    && writes (mark 0) [] (hex "80000000")) ≡ true
unfolding mark hex
a_record_is_written_after_its_mark = refl

a_tag_is_one_number : (
    reads (tag (pos 0)) same_units (input "00000000") tt 4
    && fails (tag (pos 0)) (input "00000001") 0 BadEnum
    && reads (tag (pos 1)) same_units (input "00000001") tt 4
    && reads (tag (negsuc 0)) same_units (input "ffffffff") tt 4
    && fails (tag (pos 0)) (input "000000") 3 Short) ≡ true
unfolding constant i32 hex
a_tag_is_one_number = refl

-- ---- lists, options and extensions of words of 32 bits

-- The last list's count is far above what follows.
a_list_follows_its_length : (
    reads (list_of 0 u32) bytes_eq (input "00000000") [] 4
    && reads (list_of 2 u32) bytes_eq (input "000000020000000700000008") (7 ∷ 8 ∷ []) 12
    && fails (list_of 2 u32) (input "00000003") 0 TooLong
    && fails (list_of 2 u32) (input "00000002000000070000") 10 Short
    && fails (list_of 4294967295 u32) (input "ffffffff0000000700000008") 12 Short) ≡ true
unfolding list many_at count u32 hex
a_list_follows_its_length = refl

an_option_follows_its_flag : (
    reads (optional u32) same_numbers (input "00000000") None 4
    && reads (optional u32) same_numbers (input "0000000100000007") (Some 7) 8
    && fails (optional u32) (input "00000001") 4 Short
    && fails (optional u32) (input "0000000200000007") 0 BadFlag) ≡ true
unfolding option flag u32 hex
an_option_follows_its_flag = refl

an_extension_follows_its_discriminant : (
    reads (extension_of (pos 1) u32) same_numbers (input "0000000000000007") None 4
    && reads (extension_of (pos 1) u32) same_numbers (input "0000000100000007") (Some 7) 8
    && fails (extension_of (pos 1) u32) (input "0000000200000007") 0 BadEnum
    && fails (extension_of (pos 1) u32) (input "000000010000") 6 Short) ≡ true
unfolding extension i32 u32 hex
an_extension_follows_its_discriminant = refl

what_is_written_is_what_is_read : (
    writes (optional u32) None (hex "00000000")
    && writes (optional u32) (Some 7) (hex "0000000100000007")
    && writes (extension_of (pos 2) u32) None (hex "00000000")
    && writes (extension_of (pos 2) u32) (Some 7) (hex "0000000200000007")
    && writes (list_of 2 u32) (7 ∷ 8 ∷ []) (hex "000000020000000700000008")) ≡ true
unfolding option flag extension i32 list count u32 hex
what_is_written_is_what_is_read = refl
