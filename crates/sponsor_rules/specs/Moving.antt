-- Moving an entry to another payer: the new map, or why there is none (CAP-0033; SponsorshipUtils in stellar-core).
use Rattle.std.specs.Prelude.{ℕ, Option, Some, None, Result, Ok}
use Rattle.std.specs.FinMap.{get}
use Rattle.ledger_types.specs.declared.ids.AccountId.{AccountId}
use Rattle.ledger_types.specs.declared.entry.LedgerEntry.{LedgerEntry}
use Rattle.ledger_types.specs.declared.key.LedgerKey.{LedgerKey}
use Rattle.reserve_rules.specs.entry_map.EntryMap.{EntryMap, put}
use Rattle.reserve_rules.specs.entry_slots.Accounts.{with_account}
use Rattle.reserve_rules.specs.entry_slots.EntrySponsor.{sponsor_of, with_sponsor}
use Rattle.reserve_rules.specs.entry_slots.Tests.{unless_first}
use Rattle.sponsor_rules.specs.declared.charge.Charge.{Charge}
use Rattle.sponsor_rules.specs.declared.charge.Charge.TheVariants as charge
use Rattle.sponsor_rules.specs.declared.context.Ctx.{Ctx}
use Rattle.sponsor_rules.specs.declared.fault.AddFault.{AddFault}
use Rattle.sponsor_rules.specs.Charge.{charge_of}
use Rattle.sponsor_rules.specs.Paying.{map_after_exchange, with_other_payer}
use Rattle.sponsor_rules.specs.Payers.{payer_other_than, payer_tests_at, move_tests_at}

abbrev pub map_with_recorded : EntryMap → Option AccountId → Option LedgerEntry → EntryMap
map_with_recorded m sponsor None = m
map_with_recorded m sponsor (Some entry) = put m (with_sponsor sponsor entry)

-- the map, in which the entry with this key has another sponsor, or none
unfoldable pub map_with_sponsor : LedgerKey → Option AccountId → EntryMap → EntryMap
map_with_sponsor key sponsor m = map_with_recorded m sponsor (get m key)

-- the map, in which another sponsor, or none, pays k reserves of the owner
abbrev pub map_with_other_payer : AccountId → ℕ → (old new : Option AccountId) → EntryMap → EntryMap
map_with_other_payer owner k old new m = with_account (map_after_exchange k old new m) owner
    (with_other_payer k old new)

-- What has an owner moves from one sponsor to another. What had none and gets none stays as it is, and nothing is
-- tested.
abbrev pub map_after_moving_between : Ctx → LedgerKey → AccountId → ℕ → (old new : Option AccountId) → EntryMap
    → Result EntryMap AddFault
map_after_moving_between ctx key owner k None None m = Ok m
map_after_moving_between ctx key owner k old new m =
    unless_first (move_tests_at ctx m owner new k) (map_with_sponsor key new (map_with_other_payer owner k old new m))

-- the map after a thing that has an owner moves to another payer, or to its owner
abbrev pub map_after_moving_owned : Ctx → LedgerKey → AccountId → ℕ → (old payer : Option AccountId) → EntryMap
    → Result EntryMap AddFault
map_after_moving_owned ctx key owner k old payer m = map_after_moving_between ctx key owner k old
    (payer_other_than owner payer) m

-- A claimable balance names no owner, so it moves only to a payer.
abbrev pub map_after_moving_balance : Ctx → LedgerKey → ℕ → (old payer : Option AccountId) → EntryMap
    → Result EntryMap AddFault
map_after_moving_balance ctx key k old None m = Ok m
map_after_moving_balance ctx key k old (Some payer) m =
    unless_first (payer_tests_at ctx m payer k) (map_with_sponsor key (Some payer)
    (map_after_exchange k old (Some payer) m))

abbrev pub map_after_moving_by : Ctx → LedgerKey → Charge → (old payer : Option AccountId) → EntryMap
    → Result EntryMap AddFault
map_after_moving_by ctx key (charge.Itself owner) old payer m = map_after_moving_owned ctx key owner 2 old payer m
map_after_moving_by ctx key (charge.Subentry owner k) old payer m = map_after_moving_owned ctx key owner k old payer m
map_after_moving_by ctx key (charge.Payer k) old payer m = map_after_moving_balance ctx key k old payer m
map_after_moving_by ctx key charge.Nobody old payer m = Ok m

abbrev pub map_after_moving_entry : Ctx → LedgerKey → Option AccountId → EntryMap → Option LedgerEntry
    → Result EntryMap AddFault
map_after_moving_entry ctx key payer m None = Ok m
map_after_moving_entry ctx key payer m (Some entry) =
    map_after_moving_by ctx key (charge_of entry.body) (sponsor_of entry) payer m

-- nothing changes where there is no such entry
abbrev pub map_after_moving : Ctx → LedgerKey → Option AccountId → EntryMap → Result EntryMap AddFault
map_after_moving ctx key payer m = map_after_moving_entry ctx key payer m (get m key)
