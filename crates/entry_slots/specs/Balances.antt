-- Claimable balances among the entries of a ledger.
use Rattle.std.specs.Prelude.{Option, Some, None, option_map}
use Rattle.std.specs.FinMap.{get}
use Rattle.entry_map.specs.ledger_types.declared.ids.ClaimableBalanceId.{ClaimableBalanceId}
use Rattle.entry_map.specs.ledger_types.declared.claimable_balance.ClaimableBalanceEntry.{ClaimableBalanceEntry}
use Rattle.entry_map.specs.ledger_types.declared.entry.LedgerEntry.{LedgerEntry}
use Rattle.entry_map.specs.ledger_types.declared.entry.LedgerEntryBody.{LedgerEntryBody}
use Rattle.entry_map.specs.ledger_types.declared.entry.LedgerEntryBody.TheVariants as body
use Rattle.entry_map.specs.ledger_types.declared.key.LedgerKey.TheVariants as key
use Rattle.entry_map.specs.EntryMap.{EntryMap}
use Rattle.entry_slots.specs.EntryKinds.{EntryKind, entry_at, slot_in, slot_of, value_of}
use Rattle.entry_slots.specs.declared.balances.BalanceSlot.{BalanceSlot}

-- a claimable balance, where the body is one
abbrev pub balance_in : LedgerEntryBody → Option ClaimableBalanceEntry
balance_in (body.ClaimableBalance balance) = Some balance
balance_in other = None

abbrev pub balance_kind : EntryKind ClaimableBalanceEntry
balance_kind = record { body_of = body.ClaimableBalance; value_in = balance_in }

abbrev pub balance_of : Option LedgerEntry → Option ClaimableBalanceEntry
balance_of found = value_of balance_kind found

-- the claimable balance with this id, if it exists
unfoldable pub balance_at : EntryMap → ClaimableBalanceId → Option ClaimableBalanceEntry
balance_at m balance_id = entry_at balance_kind m (key.ClaimableBalance balance_id)

-- ---- entries, taken apart

abbrev pub balance_slot : LedgerEntry → ClaimableBalanceEntry → BalanceSlot
balance_slot entry balance =
    record { last_modified_ledger_seq = entry.last_modified_ledger_seq; balance = balance; ext = entry.ext }

-- the parts of an entry, where it is that of a claimable balance
abbrev pub balance_slot_in : LedgerEntry → Option BalanceSlot
balance_slot_in entry = slot_in balance_kind balance_slot entry

abbrev pub balance_slot_at : EntryMap → ClaimableBalanceId → Option BalanceSlot
balance_slot_at m balance_id = slot_of balance_kind balance_slot (get m (key.ClaimableBalance balance_id))

abbrev pub balance_of_slot : Option BalanceSlot → Option ClaimableBalanceEntry
balance_of_slot slot = option_map (λ s. s.balance) slot

abbrev pub entry_of_balance : BalanceSlot → LedgerEntry
entry_of_balance slot =
    record {
      last_modified_ledger_seq = slot.last_modified_ledger_seq;
      body = body.ClaimableBalance slot.balance;
      ext = slot.ext;
    }
