-- The image from which a sample begins: ledger 1, with nine accounts in the first file.
use Rattle.std.specs.Prelude.{ℕ, pos, List, [], ◌∷◌, map, replicate, None, Some}
use Rattle.std.specs.List.{range_with_len}
use Rattle.std.specs.FinMap.{from_entries}
use Rattle.ledger_types.specs.declared.ids.Hash.{Hash}
use Rattle.ledger_types.specs.declared.header.LedgerHeader.{LedgerHeader}
use Rattle.ledger_types.specs.declared.key.LedgerKey.{LedgerKey}
use Rattle.ledger_types.specs.Keys.{key_of}
use Rattle.xdr_header.specs.declared.image.StartImage.{StartImage}
use Rattle.xdr_header.specs.Header.{ledger_header}
use Rattle.bucket_core.specs.Bucket.{Change, Changes, Contents, Init}
use Rattle.bucket_core.specs.File.{file_of}
use Rattle.bucket_levels.specs.Pairs.{Pair, empty_pair}
use Rattle.bucket_levels.specs.Hash.{list_hash}
use Rattle.sample_ledger.specs.Accounts.{ledger_entry}

abbrev pub account_count : ℕ
account_count = 9

abbrev pub zero_hash : Hash
zero_hash = record { 0 = replicate 32 0 }

abbrev pub new_account : (seed account : ℕ) → LedgerKey × Change
new_account seed account = (key_of (ledger_entry seed account), Init (ledger_entry seed account))

-- n accounts, from a number on, each as a new entry
unfoldable pub changes_of : (seed from n : ℕ) → Changes
changes_of seed from n = from_entries (map (new_account seed) (range_with_len from n))

abbrev pub first_changes : (seed : ℕ) → Changes
first_changes seed = changes_of seed 0 account_count

abbrev pub first_bucket : (seed : ℕ) → Contents
first_bucket seed = Some (record { version = 18; changes = first_changes seed })

-- levels of which the first file alone isn't empty
abbrev pub levels_with : Contents → List Pair
levels_with contents = record { curr = contents; snap = None } ∷ replicate 10 empty_pair

-- the header of ledger 1, whose levels have this hash
abbrev pub header_with : Hash → LedgerHeader
header_with levels = record {
  ledger_version = 18;
  previous_ledger_hash = zero_hash;
  scp_value = record { tx_set_hash = zero_hash; close_time = 1000; upgrades = []; ext = None };
  tx_set_result_hash = zero_hash;
  bucket_list_hash = levels;
  ledger_seq = 1;
  total_coins = pos 9000000000000;
  fee_pool = pos 0;
  inflation_seq = 0;
  id_pool = 0;
  base_fee = 100;
  base_reserve = 5000000;
  max_tx_set_size = 1000;
  skip_list = zero_hash ∷ zero_hash ∷ zero_hash ∷ zero_hash ∷ [];
  ext = None;
}

abbrev pub first_header : (seed : ℕ) → LedgerHeader
first_header seed = header_with (list_hash (levels_with (first_bucket seed)))

abbrev pub first_image : (seed : ℕ) → StartImage
first_image seed =
    record
    { header = ledger_header.encoding (first_header seed); files = file_of (first_bucket seed) ∷ replicate 21 [] }
