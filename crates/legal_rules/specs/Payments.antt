-- Lumens that are paid and charged.
use Rattle.std.specs.Prelude.{ℤ, ◌+ℤ◌}
use Rattle.hash_ids.specs.ledger_types.declared.ids.AccountId.{AccountId}
use Rattle.hash_ids.specs.ledger_types.declared.account.AccountEntry.{AccountEntry}
use Rattle.hash_ids.specs.ledger_types.declared.header.LedgerHeader.{LedgerHeader}
use Rattle.entry_sums.specs.entry_map.EntryMap.{EntryMap}
use Rattle.sponsor_laws.specs.entry_slots.Accounts.{with_account}

-- an account whose balance rises by delta, which may be below 0
abbrev pub paid : ℤ → AccountEntry → AccountEntry
paid delta a = record a { balance = a.balance +ℤ delta }

abbrev pub with_paid : AccountId → ℤ → EntryMap → EntryMap
with_paid id delta m = with_account m id (paid delta)

abbrev pub with_fee : ℤ → LedgerHeader → LedgerHeader
with_fee fee h = record h { fee_pool = h.fee_pool +ℤ fee }
