-- Trust lines among the entries of a ledger.
use Rattle.std.specs.Prelude.{Option, Some, None, option_map}
use Rattle.std.specs.FinMap.{get}
use Rattle.entry_map.specs.ledger_types.declared.ids.AccountId.{AccountId}
use Rattle.entry_map.specs.ledger_types.declared.asset.TrustLineAsset.{TrustLineAsset}
use Rattle.entry_map.specs.ledger_types.declared.trust_line.TrustLineEntry.{TrustLineEntry}
use Rattle.entry_map.specs.ledger_types.declared.entry.LedgerEntry.{LedgerEntry}
use Rattle.entry_map.specs.ledger_types.declared.entry.LedgerEntryBody.{LedgerEntryBody}
use Rattle.entry_map.specs.ledger_types.declared.entry.LedgerEntryBody.TheVariants as body
use Rattle.entry_map.specs.ledger_types.declared.key.LedgerKey.TheVariants as key
use Rattle.entry_map.specs.EntryMap.{EntryMap}
use Rattle.entry_slots.specs.EntryKinds.{EntryKind, entry_at, slot_in, slot_of, value_of, with_entry}
use Rattle.entry_slots.specs.declared.lines.LineSlot.{LineSlot}

-- a trust line, where the body is one
abbrev pub line_in : LedgerEntryBody → Option TrustLineEntry
line_in (body.TrustLine line) = Some line
line_in other = None

abbrev pub line_kind : EntryKind TrustLineEntry
line_kind = record { body_of = body.TrustLine; value_in = line_in }

abbrev pub line_of : Option LedgerEntry → Option TrustLineEntry
line_of found = value_of line_kind found

-- the account's trust line in this asset, if it exists
unfoldable pub line_at : EntryMap → AccountId → TrustLineAsset → Option TrustLineEntry
line_at m account_id asset = entry_at line_kind m (key.TrustLine account_id asset)

-- ---- entries, taken apart

abbrev pub line_slot : LedgerEntry → TrustLineEntry → LineSlot
line_slot entry line =
    record { last_modified_ledger_seq = entry.last_modified_ledger_seq; line = line; ext = entry.ext }

-- the parts of an entry, where it is that of a trust line
abbrev pub line_slot_in : LedgerEntry → Option LineSlot
line_slot_in entry = slot_in line_kind line_slot entry

abbrev pub line_slot_at : EntryMap → AccountId → TrustLineAsset → Option LineSlot
line_slot_at m account_id asset = slot_of line_kind line_slot (get m (key.TrustLine account_id asset))

abbrev pub line_of_slot : Option LineSlot → Option TrustLineEntry
line_of_slot slot = option_map (λ s. s.line) slot

abbrev pub entry_of_line : LineSlot → LedgerEntry
entry_of_line slot =
    record { last_modified_ledger_seq = slot.last_modified_ledger_seq; body = body.TrustLine slot.line; ext = slot.ext }

-- ---- changes

-- the map, in which the account's trust line in this asset is changed; the rest of its entry stays
unfoldable pub with_line : EntryMap → AccountId → TrustLineAsset → (TrustLineEntry → TrustLineEntry) → EntryMap
with_line m account_id asset change = with_entry line_kind m (key.TrustLine account_id asset) change
