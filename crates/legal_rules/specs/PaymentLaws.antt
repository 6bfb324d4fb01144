-- That lumens which move, fees and sequence numbers keep a state legal.
use Rattle.std.specs.Prelude.{◌≡◌, ℤ, pos, neg_ℤ, ◌≤ℤ◌, Option, Some}
use Rattle.hash_ids.specs.ledger_types.declared.ids.AccountId.{AccountId}
use Rattle.hash_ids.specs.ledger_types.declared.account.AccountEntry.{AccountEntry}
use Rattle.hash_ids.specs.ledger_types.declared.account.AccountEntryExtensionV3.{AccountEntryExtensionV3}
use Rattle.hash_ids.specs.ledger_types.declared.header.LedgerHeader.{LedgerHeader}
use Rattle.entry_sums.specs.entry_map.EntryMap.{EntryMap}
use Rattle.sponsor_laws.specs.entry_slots.AccountExtensions.{with_seq_num}
use Rattle.sponsor_laws.specs.entry_slots.Accounts.{account_at, with_account}
use Rattle.sponsor_laws.specs.reserve_rules.Reserve.{greatest_i64, room}
use Rattle.legal_rules.specs.Legal.{IsLegal}
use Rattle.legal_rules.specs.Payments.{with_paid, with_fee}

abbrev pub FeesKeep : Type 0
FeesKeep =
    (h : LedgerHeader) (m : EntryMap) (id : AccountId) (a : AccountEntry) (fee : ℤ) → IsLegal h m
    → account_at m id ≡ Some a → pos 0 ≤ℤ fee → fee ≤ℤ a.balance
    → IsLegal (with_fee fee h) (with_paid id (neg_ℤ fee) m)

-- whatever the extension V3 that the account is given with it
abbrev pub SeqNumsKeep : Type 0
SeqNumsKeep =
    (h : LedgerHeader) (m : EntryMap) (id : AccountId) (a : AccountEntry) (n : ℤ) (ext : Option AccountEntryExtensionV3)
    → IsLegal h m → account_at m id ≡ Some a → pos 0 ≤ℤ n → n ≤ℤ greatest_i64
    → IsLegal h (with_account m id (with_seq_num n ext))

abbrev pub MovesKeep : Type 0
MovesKeep =
    (h : LedgerHeader) (m : EntryMap) (to from : AccountId) (a b : AccountEntry) (amount : ℤ) → IsLegal h m
    → pos 0 ≤ℤ amount → account_at m to ≡ Some a → amount ≤ℤ room a
    → account_at (with_paid to amount m) from ≡ Some b → amount ≤ℤ b.balance
    → IsLegal h (with_paid from (neg_ℤ amount) (with_paid to amount m))
