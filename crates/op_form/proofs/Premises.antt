-- What operations ask of accounts, in a map into which an entry is put.
use Rattle.op_form.proofs.Prelude.{◌≡◌, ◌⊎◌, inl, inr, sym, ap, ◌∙◌, Bool, true, false, cond, Option, Some, get}
use Rattle.op_form.proofs.Prelude.{get-insert, AccountId, AccountEntry, LedgerEntry, key_of, keys_total, EntryMap, put}
use Rattle.op_form.proofs.Prelude.{account_in, account_of, account_at, IsInRange, AccountsAreReady, AccountsAreInRange}
use Rattle.ledger_types.specs.declared.key.LedgerKey.TheVariants as key
use Rattle.sponsor_rules.specs.Payers.{IsReadyAccount}

found : (b : Bool) (e : LedgerEntry) (o : Option LedgerEntry) (account : AccountEntry)
    → account_of (cond b (Some e) o) ≡ Some account
    → (account_in e.body ≡ Some account) ⊎ (account_of o ≡ Some account)
found true e o account is = inl is
found false e o account is = inr is

found_after : (m : EntryMap) (e : LedgerEntry) (id : AccountId) (account : AccountEntry)
    → account_at (put m e) id ≡ Some account
    → (account_in e.body ≡ Some account) ⊎ (account_at m id ≡ Some account)
unfolding account_at
found_after m e id account is =
    found _ e (get m (key.Account id)) account
    (sym (ap account_of (get-insert keys_total m (key_of e) e (key.Account id))) ∙ is)

pub ready_with : (m : EntryMap) (e : LedgerEntry)
    → ((account : AccountEntry) → account_in e.body ≡ Some account → IsReadyAccount account)
    → AccountsAreReady m → AccountsAreReady (put m e)
ready_with m e ready all = record {
  ready = λ id account is. elim (found_after m e id account is) [
    | inl here ↦ ready account here
    | inr there ↦ all.ready id account there
  ];
}

pub in_range_with : (m : EntryMap) (e : LedgerEntry)
    → ((account : AccountEntry) → account_in e.body ≡ Some account → IsInRange account)
    → AccountsAreInRange m → AccountsAreInRange (put m e)
in_range_with m e range all = record {
  in_range = λ id account is. elim (found_after m e id account is) [
    | inl here ↦ range account here
    | inr there ↦ all.in_range id account there
  ];
}
