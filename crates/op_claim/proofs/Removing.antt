-- What a removal leaves of balances.
use Rattle.op_claim.proofs.Prelude.{ℕ, Option, Some, None, BalancesAreInRange}
use Rattle.std.specs.FinMap.{get}
use Rattle.entry_map.specs.EntryMap.{EntryMap}
use Rattle.entry_slots.specs.Accounts.{with_account}
use Rattle.sponsor_rules.specs.Counting.{with_less}
use Rattle.sponsor_rules.specs.Keeping.{KeepsCore}
use Rattle.ledger_types.specs.declared.ids.AccountId.{AccountId}
use Rattle.ledger_types.specs.declared.account.AccountEntry.{AccountEntry}
use Rattle.ledger_types.specs.declared.entry.LedgerEntry.{LedgerEntry}
use Rattle.ledger_types.specs.declared.key.LedgerKey.{LedgerKey}
use Rattle.entry_slots.specs.EntrySponsor.{sponsor_of}
use Rattle.sponsor_rules.specs.declared.charge.Charge.{Charge}
use Rattle.sponsor_rules.specs.declared.charge.Charge.TheVariants as charge
use Rattle.sponsor_rules.specs.declared.count.Count.TheVariants.{SubEntries, Sponsored}
use Rattle.sponsor_rules.specs.Charge.{charge_of}
use Rattle.sponsor_rules.specs.Paying.{map_after_releasing, without_subentry, with_less_paid}
use Rattle.sponsor_rules.specs.Removing.{map_without_charge, map_after_removing_entry, map_after_removing}
use Rattle.sponsor_rules.proofs.Keeping.{core_kept, core_kept_twice, with_count_core}
use Rattle.op_form.proofs.Balances.{account_changed, balances_erased}
use Rattle.op_form.proofs.Ranges.{core_in_range}

-- an account that keeps its means
core_changed : (m : EntryMap) (id : AccountId) (f : AccountEntry → AccountEntry)
    → ((a : AccountEntry) → KeepsCore a (f a)) → BalancesAreInRange m → BalancesAreInRange (with_account m id f)
core_changed m id f keeps all =
    account_changed m id f (λ a exists. core_in_range a (f a) (keeps a) (all.accounts.in_range id a exists)) all

released : (k : ℕ) (sponsor : Option AccountId) (m : EntryMap) → BalancesAreInRange m
    → BalancesAreInRange (map_after_releasing k sponsor m)
released k None m all = all
released k (Some sponsor) m all = core_changed m sponsor _ (λ a. with_count_core _ _ a) all

less_paid : (k : ℕ) (sponsor : Option AccountId) (a : AccountEntry) → KeepsCore a (with_less_paid k sponsor a)
less_paid k None a = core_kept a
less_paid k (Some sponsor) a = with_count_core Sponsored _ a

less_of : (k : ℕ) (sponsor : Option AccountId) (a : AccountEntry) → KeepsCore a (without_subentry k sponsor a)
less_of k sponsor a =
    core_kept_twice a (with_less SubEntries k a) (without_subentry k sponsor a) (with_count_core SubEntries _ a)
    (less_paid k sponsor (with_less SubEntries k a))

without_charge : (c : Charge) (sponsor : Option AccountId) (m : EntryMap) → BalancesAreInRange m
    → BalancesAreInRange (map_without_charge c sponsor m)
without_charge (charge.Itself id) sponsor m all = released 2 sponsor m all
without_charge (charge.Subentry owner k) sponsor m all =
    core_changed (map_after_releasing k sponsor m) owner (without_subentry k sponsor) (less_of k sponsor)
    (released k sponsor m all)
without_charge (charge.Payer k) sponsor m all = released k sponsor m all
without_charge charge.Nobody sponsor m all = all

removed_entry : (k : LedgerKey) (m : EntryMap) (o : Option LedgerEntry) → BalancesAreInRange m
    → BalancesAreInRange (map_after_removing_entry k m o)
removed_entry k m None all = all
removed_entry k m (Some e) all =
    balances_erased (map_without_charge (charge_of e.body) (sponsor_of e) m) k
    (without_charge (charge_of e.body) (sponsor_of e) m all)

pub balances_removed : (k : LedgerKey) (m : EntryMap) → BalancesAreInRange m
    → BalancesAreInRange (map_after_removing k m)
balances_removed k m all = removed_entry k m (get m k) all
