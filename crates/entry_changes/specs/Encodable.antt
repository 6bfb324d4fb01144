-- Entries that can be in a bucket's file.
use Rattle.std.specs.Prelude.{◌≡◌, ℕ, ◌≤◌, length}
use Rattle.xdr_entries.specs.ledger_types.declared.entry.LedgerEntry.{LedgerEntry}
use Rattle.xdr_entries.specs.ledger_types.declared.key.LedgerKey.{LedgerKey}
use Rattle.xdr_entries.specs.ledger_types.declared.key.LedgerKey.TheVariants as key
use Rattle.xdr_entries.specs.Entries.{ledger_entry}
use Rattle.entry_sums.specs.entry_map.EntryMap.{EntryMap}
use Rattle.entry_sums.specs.Sums.{EachEntry}

-- the greatest length of an entry, which is in its item after a discriminant of four bytes
abbrev pub max_entry_len : ℕ
max_entry_len = 2147483643

-- an entry that has an encoding, no longer than its item's record mark can say
pub record IsEntryEncodable (e : LedgerEntry) : Type 0 where
  pub within : ledger_entry.within e
  pub sized : ledger_entry.sized e
  pub short : length (ledger_entry.encoding e) ≤ max_entry_len

abbrev pub AreEncodable : EntryMap → Type 0
AreEncodable m = EachEntry (λ k e. IsEntryEncodable e) m

-- the id in an account's key has 32 bytes (AccountID in Stellar-types.x)
abbrev pub HasEntireId : LedgerKey → Type 0
HasEntireId (key.Account id) = length id.0 ≡ 32
HasEntireId other = Unit {0}

abbrev pub HaveEntireIds : EntryMap → Type 0
HaveEntireIds m = EachEntry (λ k e. HasEntireId k) m
