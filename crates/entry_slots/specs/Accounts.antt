-- Accounts among the entries of a ledger.
use Rattle.std.specs.Prelude.{◌≡◌, Option, Some, None, option_map}
use Rattle.std.specs.FinMap.{get}
use Rattle.entry_map.specs.ledger_types.declared.ids.AccountId.{AccountId}
use Rattle.entry_map.specs.ledger_types.declared.account.AccountEntry.{AccountEntry}
use Rattle.entry_map.specs.ledger_types.declared.entry.LedgerEntry.{LedgerEntry}
use Rattle.entry_map.specs.ledger_types.declared.entry.LedgerEntryBody.{LedgerEntryBody}
use Rattle.entry_map.specs.ledger_types.declared.entry.LedgerEntryBody.TheVariants as body
use Rattle.entry_map.specs.ledger_types.declared.key.LedgerKey.TheVariants as key
use Rattle.entry_map.specs.EntryMap.{EntryMap}
use Rattle.entry_slots.specs.EntryKinds.{EntryKind, entry_at, slot_in, slot_of, value_of, with_entry}
use Rattle.entry_slots.specs.declared.accounts.AccountSlot.{AccountSlot}

-- an account, where the body is one
abbrev pub account_in : LedgerEntryBody → Option AccountEntry
account_in (body.Account account) = Some account
account_in other = None

abbrev pub account_kind : EntryKind AccountEntry
account_kind = record { body_of = body.Account; value_in = account_in }

abbrev pub account_of : Option LedgerEntry → Option AccountEntry
account_of found = value_of account_kind found

-- the account with this id, if it exists
unfoldable pub account_at : EntryMap → AccountId → Option AccountEntry
account_at m account_id = entry_at account_kind m (key.Account account_id)

-- an account exists
abbrev pub HasAccount : EntryMap → AccountId → Type 0
HasAccount m account_id = (account : AccountEntry) × (account_at m account_id ≡ Some account)

-- ---- entries, taken apart

abbrev pub account_slot : LedgerEntry → AccountEntry → AccountSlot
account_slot entry account =
    record { last_modified_ledger_seq = entry.last_modified_ledger_seq; account = account; ext = entry.ext }

-- the parts of an entry, where it is that of an account
abbrev pub account_slot_in : LedgerEntry → Option AccountSlot
account_slot_in entry = slot_in account_kind account_slot entry

abbrev pub account_slot_at : EntryMap → AccountId → Option AccountSlot
account_slot_at m account_id = slot_of account_kind account_slot (get m (key.Account account_id))

abbrev pub account_of_slot : Option AccountSlot → Option AccountEntry
account_of_slot slot = option_map (λ s. s.account) slot

abbrev pub entry_of_account : AccountSlot → LedgerEntry
entry_of_account slot =
    record {
      last_modified_ledger_seq = slot.last_modified_ledger_seq;
      body = body.Account slot.account;
      ext = slot.ext;
    }

-- ---- changes

-- the map, in which the account with this id is changed; the rest of its entry stays
unfoldable pub with_account : EntryMap → AccountId → (AccountEntry → AccountEntry) → EntryMap
with_account m account_id change = with_entry account_kind m (key.Account account_id) change
