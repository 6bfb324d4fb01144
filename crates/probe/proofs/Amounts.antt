-- Claimable balances that don't have less than nothing, in a map into which an entry is put.
use Rattle.probe.proofs.Prelude.{◌≡◌, ◌⊎◌, inl, inr, sym, ap, ◌∙◌, Bool, true, false, cond, Option, Some, get}
use Rattle.probe.proofs.Prelude.{get-insert, ClaimableBalanceId, ClaimableBalanceEntry, LedgerEntry, key_of, EntryMap}
use Rattle.probe.proofs.Prelude.{put, balance_in, balance_of, balance_at, IsAmountLowIn}
use Rattle.ledger_types.specs.declared.key.LedgerKey.TheVariants as key
use Rattle.ledger_types.proofs.KeyOrdering.{keys_total}
use Rattle.op_form.specs.Premises.{AreAmountsLow}

found : (b : Bool) (e : LedgerEntry) (o : Option LedgerEntry) (balance : ClaimableBalanceEntry)
    → balance_of (cond b (Some e) o) ≡ Some balance
    → (balance_in e.body ≡ Some balance) ⊎ (balance_of o ≡ Some balance)
found true e o balance is = inl is
found false e o balance is = inr is

found_after : (m : EntryMap) (e : LedgerEntry) (id : ClaimableBalanceId) (balance : ClaimableBalanceEntry)
    → balance_at (put m e) id ≡ Some balance
    → (balance_in e.body ≡ Some balance) ⊎ (balance_at m id ≡ Some balance)
unfolding balance_at
found_after m e id balance is =
    found _ e (get m (key.ClaimableBalance id)) balance
    (sym (ap balance_of (get-insert keys_total m (key_of e) e (key.ClaimableBalance id))) ∙ is)

pub amounts_put : (m : EntryMap) (e : LedgerEntry) → IsAmountLowIn e.body → AreAmountsLow m → AreAmountsLow (put m e)
amounts_put m e low all = record {
  low = λ id balance is. elim (found_after m e id balance is) [
    | inl here ↦ low balance here
    | inr there ↦ all.low id balance there
  ];
}
