-- Files of buckets, laid out by hand after Stellar-ledger.x.
use Rattle.definition_rows.proofs.Prelude.{◌≡◌, refl, ℕ, Bool, true, false, ◌&&◌, List, [], ◌∷◌, Some, None, ◌++◌}
use Rattle.definition_rows.proofs.Prelude.{is_none, map, length, is_eq, Short, Trailing, start_of, LedgerKey}
use Rattle.definition_rows.proofs.Prelude.{BucketEntry, key_cmp, bucket_entry, NoMeta, SecondMeta, Order, items_ahead}
use Rattle.std.specs.Prelude.{Option, replicate}
use Rattle.ledger_types.specs.declared.key.LedgerKey.TheVariants.{Account}
use Rattle.ledger_types.specs.declared.bucket.BucketEntry.TheVariants.{Dead}
use Rattle.bucket_core.specs.declared.fault.BucketFault.TheVariants.{Xdr}
use Rattle.bucket_core.specs.Find.{item_under}
use Rattle.definition_rows.proofs.Rows.{hex}
use Rattle.definition_rows.proofs.BucketReadings.{has_first_fault, is_hashed_file}
use Rattle.definition_rows.proofs.Opened.{entries_formats}

-- META of protocol 18
abbrev meta : List ℕ
meta = hex "8000000cffffffff0000001200000000"

-- the account of this byte over and over, which is gone
abbrev gone : ℕ → List ℕ
gone byte = hex "8000002c000000010000000000000000" ++ replicate 32 byte

-- META, and the accounts of 32 bytes A and 32 bytes B
abbrev file : List ℕ
file = meta ++ gone 65 ++ gone 66

the_first_fault_is_named : (has_first_fault None []
    && has_first_fault None file
    && has_first_fault (Some (SecondMeta 16)) (meta ++ meta)
    && has_first_fault (Some (Xdr 16 Trailing)) (hex "80000010ffffffff000000120000000000000000")
    && has_first_fault (Some (Xdr 3 Short)) (hex "800000")
    && has_first_fault (Some (NoMeta 0)) (gone 65)
    && has_first_fault (Some (Order 64)) (meta ++ gone 65 ++ gone 65)) ≡ true
unfolding hex has_first_fault entries_formats
the_first_fault_is_named = refl

-- the hash by Python's hashlib
a_bucket_is_its_file : (is_hashed_file None 0 (replicate 32 0) []
    && is_hashed_file (Some 18) 3 (hex "9d2c9ee656b8dc187354b7e22718b5e70ee7380e4eabcadac0c3a890a71a5306") file) ≡ true
unfolding hex is_hashed_file entries_formats
a_bucket_is_its_file = refl

-- the key of the account of this byte over and over
abbrev account : ℕ → LedgerKey
account byte = Account (record { 0 = replicate 32 byte })

abbrev is_dead : LedgerKey → Option BucketEntry → Bool
is_dead key (Some (Dead found)) = is_eq (key_cmp key found)
is_dead key other = false

unfoldable finds_dead : LedgerKey → List ℕ → Bool
unfolding items_ahead
finds_dead key bytes = is_dead key (item_under key (items_ahead (start_of bytes)))

unfoldable finds_nothing : LedgerKey → List ℕ → Bool
unfolding items_ahead
finds_nothing key bytes = is_none (item_under key (items_ahead (start_of bytes)))

an_item_is_found_under_its_key : (finds_nothing (account 64) file
    && finds_dead (account 65) file
    && finds_dead (account 66) file
    && finds_nothing (account 67) file
    && finds_nothing (account 65) []) ≡ true
unfolding hex finds_nothing finds_dead entries_formats
an_item_is_found_under_its_key = refl

-- the lengths of the items, without their record marks
a_cursor_goes_over_the_items : map (λ item. length (bucket_entry.encoding item)) (items_ahead (start_of file))
    ≡ 12 ∷ 44 ∷ 44 ∷ []
unfolding hex items_ahead entries_formats
a_cursor_goes_over_the_items = refl
