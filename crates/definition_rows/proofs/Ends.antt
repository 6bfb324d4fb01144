-- What follows a value is left to its reader's caller, laid out by hand: the caller finds the end, or `Trailing`
-- at the first byte that is left.
use Rattle.definition_rows.proofs.Prelude.{◌≡◌, refl, ℕ, true, List, Ok, Err, ◌++◌, drop, XdrFault, Trailing, Reading}
use Rattle.definition_rows.proofs.Prelude.{start_of, EndsAt, mark, bucket_entry, close_record}
use Rattle.std.specs.Prelude.{Result}
use Rattle.definition_rows.proofs.Rows.{hex}
use Rattle.definition_rows.proofs.Readings.{has_value}
use Rattle.definition_rows.proofs.Opened.{headers_formats}

-- the bytes 0 to 0x1f
abbrev rising_hash : List ℕ
rising_hash = hex "000102030405060708090a0b0c0d0e0f101112131415161718191a1b1c1d1e1f"

-- a record of 88 bytes, with an empty set, and four bytes after it
abbrev record_and_four_bytes : List ℕ
record_and_four_bytes =
    hex "00000005" ++ rising_hash ++ hex "00000000" ++ rising_hash ++ hex "00000000000000090000000000000000"
    ++ hex "00000000"

-- the end of the text that was read, or the fault there
abbrev EndsAfter : {V : Type 0} → Reading XdrFault V → Result (Unit {0}) XdrFault → Type 0
EndsAfter (Ok read) result = EndsAt read.1 result
EndsAfter (Err fault) result = ⊥

a_close_record_with_four_bytes_after_it_is_trailing : EndsAfter (close_record.read (start_of record_and_four_bytes))
    (Err (record { at = 88; kind = Trailing }))
unfolding hex headers_formats
a_close_record_with_four_bytes_after_it_is_trailing = (refl, λ ended. absurd (cc))

-- the mark of a record of 12 bytes, METAENTRY, -1, the version 18, and the extension 0
abbrev meta : List ℕ
meta = hex "8000000cffffffff0000001200000000"

a_meta_item_of_version_18_has_16_bytes : EndsAfter ((mark 12).read (start_of meta)) (Ok tt)
    × EndsAfter (bucket_entry.read (start_of (drop 4 meta))) (Ok tt) × has_value (mark 12) 16 meta ≡ true
unfolding hex has_value headers_formats
a_meta_item_of_version_18_has_16_bytes = (refl, refl, refl)
