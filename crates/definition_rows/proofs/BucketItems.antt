-- Keys and items of buckets, laid out by hand after Stellar-ledger-entries.x and Stellar-ledger.x.
use Rattle.definition_rows.proofs.Prelude.{◌≡◌, refl, ℕ, Bool, true, false, ◌&&◌, List, [], ◌∷◌, Ok, Err, ◌++◌, nat_eq}
use Rattle.definition_rows.proofs.Prelude.{length, is_lt, is_gt, is_eq, XdrFault, XdrKind, Short, BadEnum, BadMark}
use Rattle.definition_rows.proofs.Prelude.{Trailing, Position, Reading, start_of, LedgerKey, BucketEntry, key_cmp}
use Rattle.definition_rows.proofs.Prelude.{ledger_key, bucket_entry}
use Rattle.std.specs.Prelude.{bytes_eq, replicate}
use Rattle.bucket_items.specs.declared.item.BucketEntryType.{BucketEntryType}
use Rattle.bucket_items.specs.declared.item.BucketEntryType.TheVariants.{Meta, Live, Dead, Init}
use Rattle.bucket_items.specs.Item.{item_type, item_key_text}
use Rattle.bucket_items.specs.MarkedItem.{item_at}
use Rattle.definition_rows.proofs.Rows.{hex}
use Rattle.definition_rows.proofs.Readings.{is_fault}
use Rattle.definition_rows.proofs.Opened.{entries_formats}

-- ---- keys

-- the account of 32 bytes A
abbrev account_a : List ℕ
account_a = hex "00000000" ++ replicate 32 65

abbrev account_b : List ℕ
account_b = hex "00000000" ++ replicate 31 65 ++ 66 ∷ []

abbrev account_key : List ℕ
account_key = hex "00000000" ++ account_a

abbrev later_account_key : List ℕ
later_account_key = hex "00000000" ++ account_b

abbrev native_line_key : List ℕ
native_line_key = hex "00000001" ++ account_a ++ hex "00000000"

abbrev pool_line_key : List ℕ
pool_line_key = hex "00000001" ++ account_a ++ hex "00000003" ++ replicate 32 80

-- an offer's number has a sign: -1 comes before 1
abbrev offer_below_zero_key : List ℕ
offer_below_zero_key = hex "00000002" ++ account_a ++ hex "ffffffffffffffff"

abbrev offer_key : List ℕ
offer_key = hex "00000002" ++ account_a ++ hex "0000000000000001"

-- names are ordered as texts, though a name's length is encoded before its bytes: "aa" comes before "b"
abbrev longer_name_key : List ℕ
longer_name_key = hex "00000003" ++ account_a ++ hex "0000000261610000"

abbrev shorter_name_key : List ℕ
shorter_name_key = hex "00000003" ++ account_a ++ hex "0000000162000000"

abbrev balance_key : List ℕ
balance_key = hex "0000000400000000" ++ replicate 32 66

abbrev pool_key : List ℕ
pool_key = hex "00000005" ++ replicate 32 80

abbrev Compares : Type 0
Compares = Reading XdrFault LedgerKey → Reading XdrFault LedgerKey → Bool

abbrev rises : Compares
rises (Ok a) (Ok b) = is_lt (key_cmp a.0 b.0) && is_gt (key_cmp b.0 a.0)
rises a b = false

abbrev is_itself : Compares
is_itself (Ok a) (Ok b) = is_eq (key_cmp a.0 b.0)
is_itself a b = false

-- the key that the first text encodes comes before that of the second, and that one after it
unfoldable precedes : List ℕ → List ℕ → Bool
precedes a b = rises (ledger_key.read (start_of a)) (ledger_key.read (start_of b))

unfoldable equals_itself : List ℕ → Bool
equals_itself a = is_itself (ledger_key.read (start_of a)) (ledger_key.read (start_of a))

-- each before the next one
keys_are_ordered_by_their_texts : (precedes account_key later_account_key
    && precedes later_account_key native_line_key
    && precedes native_line_key pool_line_key
    && precedes pool_line_key offer_below_zero_key
    && precedes offer_below_zero_key offer_key
    && precedes offer_key longer_name_key
    && precedes longer_name_key shorter_name_key
    && precedes shorter_name_key balance_key
    && precedes balance_key pool_key
    && equals_itself account_key
    && equals_itself later_account_key
    && equals_itself native_line_key
    && equals_itself pool_line_key
    && equals_itself offer_below_zero_key
    && equals_itself offer_key
    && equals_itself longer_name_key
    && equals_itself shorter_name_key
    && equals_itself balance_key
    && equals_itself pool_key) ≡ true
unfolding hex precedes equals_itself entries_formats
keys_are_ordered_by_their_texts = refl

-- ---- items

-- META of protocol 18, an account that is gone, and data that was made, with the value "v" under the name "aa"
abbrev file : List ℕ
file =
    hex "8000000cffffffff0000001200000000"
    ++ hex "8000002c00000001" ++ account_key
    ++ hex "800000480000000200000007" ++ longer_name_key ++ hex "0000000176000000" ++ hex "0000000000000000"

abbrev type_number : BucketEntryType → ℕ
type_number Meta = 0
type_number Live = 1
type_number Dead = 2
type_number Init = 3

-- what is shown of an item: its type, the text of its key, how long it is, and the offset after it
record Shown : Type 0 where
  type : BucketEntryType
  key : List ℕ
  len : ℕ
  after : ℕ

abbrev is_shown : Shown → BucketEntry × Position → Bool
is_shown shown (item, index) =
    nat_eq (type_number (item_type item)) (type_number shown.type) && bytes_eq (item_key_text item) shown.key
    && nat_eq (length (bucket_entry.encoding item)) shown.len && nat_eq index.at shown.after

-- the items from an offset on, and then its end
abbrev shows : List Shown → Position → Reading XdrFault BucketEntry → Bool
shows [] index read = nat_eq (length index.rest) 0
shows (shown ∷ others) index (Ok read) = is_shown shown read && shows others read.1 (item_at read.1)
shows (shown ∷ others) index (Err fault) = false

unfoldable has_items : List Shown → List ℕ → Bool
has_items shown bytes = shows shown (start_of bytes) (item_at (start_of bytes))

items_show_their_keys : has_items (record { type = Meta; key = []; len = 12; after = 16 }
    ∷ record { type = Dead; key = account_key; len = 44; after = 64 }
    ∷ record { type = Init; key = longer_name_key; len = 72; after = 140 } ∷ []) file ≡ true
unfolding hex has_items entries_formats
items_show_their_keys = refl

-- reading the first item meets a fault of this kind at this offset
unfoldable has_item_fault : XdrKind → ℕ → List ℕ → Bool
has_item_fault kind offset bytes = is_fault kind offset (item_at (start_of bytes))

-- an item that is too short for its fields is so at its own end, and bytes that are left over in it are named
faults_of_items_have_their_offsets : (has_item_fault Short 0 []
    && has_item_fault Short 3 (hex "800000")
    && has_item_fault BadMark 0 (hex "0000000cffffffff0000001200000000")
    && has_item_fault Short 12 (hex "80000008ffffffff0000001200000000")
    && has_item_fault Trailing 16 (hex "80000010ffffffff000000120000000000000000")
    && has_item_fault BadEnum 4 (hex "8000000c000000030000001200000000")
    && has_item_fault BadEnum 12 (hex "8000000cffffffff0000001200000001")) ≡ true
unfolding hex has_item_fault entries_formats
faults_of_items_have_their_offsets = refl
