-- Removing an entry (CAP-0033; SponsorshipUtils in stellar-core).
use Rattle.std.specs.Prelude.{ℕ, Option, Some, None}
use Rattle.std.specs.FinMap.{get}
use Rattle.ledger_types.specs.declared.ids.AccountId.{AccountId}
use Rattle.ledger_types.specs.declared.entry.LedgerEntry.{LedgerEntry}
use Rattle.ledger_types.specs.declared.key.LedgerKey.{LedgerKey}
use Rattle.reserve_rules.specs.entry_map.EntryMap.{EntryMap, erase}
use Rattle.reserve_rules.specs.entry_slots.Accounts.{with_account}
use Rattle.reserve_rules.specs.entry_slots.EntrySponsor.{sponsor_of}
use Rattle.sponsor_rules.specs.declared.charge.Charge.{Charge}
use Rattle.sponsor_rules.specs.declared.charge.Charge.TheVariants as charge
use Rattle.sponsor_rules.specs.Charge.{charge_of}
use Rattle.sponsor_rules.specs.Paying.{map_after_releasing, without_subentry}

-- the map without the counts of a subentry's owner and of its sponsor
abbrev pub map_after_discounting : AccountId → ℕ → Option AccountId → EntryMap → EntryMap
map_after_discounting owner k sponsor m = with_account (map_after_releasing k sponsor m) owner
    (without_subentry k sponsor)

-- An account's own counts go with it.
abbrev pub map_without_charge : Charge → Option AccountId → EntryMap → EntryMap
map_without_charge (charge.Itself id) sponsor m = map_after_releasing 2 sponsor m
map_without_charge (charge.Subentry owner k) sponsor m = map_after_discounting owner k sponsor m
map_without_charge (charge.Payer k) sponsor m = map_after_releasing k sponsor m
map_without_charge charge.Nobody sponsor m = m

abbrev pub map_after_removing_entry : LedgerKey → EntryMap → Option LedgerEntry → EntryMap
map_after_removing_entry key m None = m
map_after_removing_entry key m (Some entry) = erase (map_without_charge (charge_of entry.body) (sponsor_of entry) m) key

-- nothing changes where there is no such entry
abbrev pub map_after_removing : LedgerKey → EntryMap → EntryMap
map_after_removing key m = map_after_removing_entry key m (get m key)
