-- An account that exists in a state is in range and within bounds.
use Rattle.legal_rules.proofs.Prelude.{◌≡◌, ℕ, ◌+◌, ◌≤◌, ℤ, AccountId, AccountEntry, Some, EntryMap, num_sponsoring}
use Rattle.legal_rules.proofs.Prelude.{account_at, View, IsAccountInRange, Owed, IsEntryLegal, IsLegalOwing}
use Rattle.hash_ids.specs.ledger_types.declared.key.LedgerKey.TheVariants as key
use Rattle.legal_rules.proofs.Steps.{with_body, account_entry, body_there}

pub record IsAccountLegal (a : AccountEntry) : Type 0 where
  pub range : IsAccountInRange a
  pub few : a.num_sub_entries ≤ 1000
  pub fits : a.num_sub_entries + num_sponsoring a ≤ 4294967295

pub account_legal : (v : View) (id_pool : ℕ) (owed : Owed) (sum : ℤ) (m : EntryMap) (id : AccountId) (a : AccountEntry)
    → IsLegalOwing v id_pool owed sum m → account_at m id ≡ Some a → IsAccountLegal a
account_legal v id_pool owed sum m id a legal exists =
    let found = account_entry m id a exists in
    let legal_entry : IsEntryLegal id_pool (with_body found.0 a) =
    legal.entries (key.Account id) (with_body found.0 a) (body_there m id a found.0 found.1) in
    record { range = legal_entry.range.body; few = legal_entry.few; fits = legal_entry.fits }
