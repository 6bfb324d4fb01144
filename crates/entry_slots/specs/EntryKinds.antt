-- Entries of one kind: what is under a key, and a map in which that is changed.
use Rattle.std.specs.Prelude.{Option, Some, None, option_map}
use Rattle.std.specs.FinMap.{get}
use Rattle.entry_map.specs.ledger_types.declared.entry.LedgerEntry.{LedgerEntry}
use Rattle.entry_map.specs.ledger_types.declared.entry.LedgerEntryBody.{LedgerEntryBody}
use Rattle.entry_map.specs.ledger_types.declared.key.LedgerKey.{LedgerKey}
use Rattle.entry_map.specs.EntryMap.{EntryMap, put}

-- a kind of entries: the body that a value is, and the value in a body, where the body is of the kind
pub record EntryKind (V : Type 0) : Type 0 where
  pub body_of : V → LedgerEntryBody
  pub value_in : LedgerEntryBody → Option V

-- ---- what is there

abbrev pub value_of : {V : Type 0} → EntryKind V → Option LedgerEntry → Option V
value_of kind None = None
value_of kind (Some entry) = kind.value_in entry.body

-- the value under a key, if there is an entry of the kind
abbrev pub entry_at : {V : Type 0} → EntryKind V → EntryMap → LedgerKey → Option V
entry_at kind m k = value_of kind (get m k)

-- ---- entries, taken apart

-- the parts of an entry, where it is of the kind
abbrev pub slot_in : {V S : Type 0} → EntryKind V → (LedgerEntry → V → S) → LedgerEntry → Option S
slot_in kind parts entry = option_map (parts entry) (kind.value_in entry.body)

abbrev pub slot_of : {V S : Type 0} → EntryKind V → (LedgerEntry → V → S) → Option LedgerEntry → Option S
slot_of kind parts None = None
slot_of kind parts (Some entry) = slot_in kind parts entry

-- ---- changes

abbrev pub with_value : {V : Type 0} → EntryKind V → EntryMap → (V → V) → LedgerEntry → Option V → EntryMap
with_value kind m change entry None = m
with_value kind m change entry (Some value) = put m (record entry { body = kind.body_of (change value) })

abbrev pub with_value_of : {V : Type 0} → EntryKind V → EntryMap → (V → V) → Option LedgerEntry → EntryMap
with_value_of kind m change None = m
with_value_of kind m change (Some entry) = with_value kind m change entry (kind.value_in entry.body)

-- the map, in which the value under a key is changed, if there is an entry of the kind; the rest of its entry stays
abbrev pub with_entry : {V : Type 0} → EntryKind V → EntryMap → LedgerKey → (V → V) → EntryMap
with_entry kind m k change = with_value_of kind m change (get m k)
