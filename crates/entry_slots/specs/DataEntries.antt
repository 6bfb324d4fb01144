-- Data among the entries of a ledger.
use Rattle.std.specs.Prelude.{ℕ, List, Option, Some, None, option_map}
use Rattle.std.specs.FinMap.{get}
use Rattle.entry_map.specs.ledger_types.declared.ids.AccountId.{AccountId}
use Rattle.entry_map.specs.ledger_types.declared.data_entry.DataEntry.{DataEntry}
use Rattle.entry_map.specs.ledger_types.declared.entry.LedgerEntry.{LedgerEntry}
use Rattle.entry_map.specs.ledger_types.declared.entry.LedgerEntryBody.{LedgerEntryBody}
use Rattle.entry_map.specs.ledger_types.declared.entry.LedgerEntryBody.TheVariants as body
use Rattle.entry_map.specs.ledger_types.declared.key.LedgerKey.TheVariants as key
use Rattle.entry_map.specs.EntryMap.{EntryMap}
use Rattle.entry_slots.specs.EntryKinds.{EntryKind, entry_at, slot_in, slot_of, value_of, with_entry}
use Rattle.entry_slots.specs.declared.data_entries.DataSlot.{DataSlot}

-- data, where the body is that
abbrev pub data_in : LedgerEntryBody → Option DataEntry
data_in (body.Data data_entry) = Some data_entry
data_in other = None

abbrev pub data_kind : EntryKind DataEntry
data_kind = record { body_of = body.Data; value_in = data_in }

-- the account's data with this name, if it exists
unfoldable pub data_at : EntryMap → AccountId → List ℕ → Option DataEntry
data_at m account_id data_name = entry_at data_kind m (key.Data account_id data_name)

-- ---- entries, taken apart

abbrev pub data_slot : LedgerEntry → DataEntry → DataSlot
data_slot entry data_entry =
    record { last_modified_ledger_seq = entry.last_modified_ledger_seq; data_entry = data_entry; ext = entry.ext }

-- the parts of an entry, where it is one of data
abbrev pub data_slot_in : LedgerEntry → Option DataSlot
data_slot_in entry = slot_in data_kind data_slot entry

abbrev pub data_slot_at : EntryMap → AccountId → List ℕ → Option DataSlot
data_slot_at m account_id data_name = slot_of data_kind data_slot (get m (key.Data account_id data_name))

abbrev pub data_of_slot : Option DataSlot → Option DataEntry
data_of_slot slot = option_map (λ s. s.data_entry) slot

abbrev pub entry_of_data : DataSlot → LedgerEntry
entry_of_data slot =
    record {
      last_modified_ledger_seq = slot.last_modified_ledger_seq;
      body = body.Data slot.data_entry;
      ext = slot.ext;
    }

-- ---- changes

-- the map, in which the account's data with this name is changed; the rest of its entry stays
unfoldable pub with_data : EntryMap → AccountId → List ℕ → (DataEntry → DataEntry) → EntryMap
with_data m account_id data_name change = with_entry data_kind m (key.Data account_id data_name) change
