-- Adding an entry: the new map, or why there is none (CAP-0033; SponsorshipUtils in stellar-core).
use Rattle.std.specs.Prelude.{ℕ, ◌*◌, pos, [], ◌∷◌, Option, Some, None, Result, Ok}
use Rattle.std.specs.Ordering.{is_lt, int_cmp}
use Rattle.ledger_types.specs.declared.ids.AccountId.{AccountId}
use Rattle.ledger_types.specs.declared.account.AccountEntry.{AccountEntry}
use Rattle.ledger_types.specs.declared.entry.LedgerEntry.{LedgerEntry}
use Rattle.ledger_types.specs.declared.entry.LedgerEntryBody.{LedgerEntryBody}
use Rattle.ledger_types.specs.declared.entry.LedgerEntryBody.TheVariants as body
use Rattle.reserve_rules.specs.entry_map.EntryMap.{EntryMap, put}
use Rattle.reserve_rules.specs.entry_slots.Accounts.{account_in, with_account}
use Rattle.reserve_rules.specs.entry_slots.EntrySponsor.{with_sponsor}
use Rattle.reserve_rules.specs.entry_slots.Tests.{Tests, unless_first}
use Rattle.sponsor_rules.specs.declared.charge.Charge.{Charge}
use Rattle.sponsor_rules.specs.declared.charge.Charge.TheVariants as charge
use Rattle.sponsor_rules.specs.declared.count.Count.TheVariants.{Sponsored}
use Rattle.sponsor_rules.specs.declared.context.Ctx.{Ctx}
use Rattle.sponsor_rules.specs.declared.fault.AddFault.{AddFault}
use Rattle.sponsor_rules.specs.declared.fault.AddFault.TheVariants.{LowReserve}
use Rattle.sponsor_rules.specs.Charge.{charge_of}
use Rattle.sponsor_rules.specs.Counting.{with_more}
use Rattle.sponsor_rules.specs.Paying.{map_after_charging, with_subentry}
use Rattle.sponsor_rules.specs.Payers.{open_sponsor, payer_of, payer_tests_at, subentry_tests_at, IsReady}
use Rattle.sponsor_rules.specs.Payers.{IsReadyAccount}

-- an entry that is added; one without a sponsor stays as it is
abbrev pub sponsored_entry : Option AccountId → LedgerEntry → LedgerEntry
sponsored_entry None entry = entry
sponsored_entry (Some sponsor) entry = with_sponsor (Some sponsor) entry

-- an account's entry with its sponsor, who pays two of its reserves
abbrev pub sponsored_account_entry : AccountId → LedgerEntry → AccountEntry → LedgerEntry
sponsored_account_entry sponsor entry account =
    with_sponsor (Some sponsor) (record entry { body = body.Account (with_more Sponsored 2 account) })

-- an account without a sponsor has two reserves in its own balance
abbrev pub own_tests : Ctx → AccountEntry → Tests AddFault
own_tests ctx account = (is_lt (int_cmp account.balance (pos (2 * ctx.base_reserve))), LowReserve) ∷ []

-- An account without a sponsor has to have two reserves in its own balance; else a sponsor pays them.
abbrev pub map_after_adding_account : Ctx → LedgerEntry → AccountEntry → Option AccountId → EntryMap
    → Result EntryMap AddFault
map_after_adding_account ctx entry account None m = unless_first (own_tests ctx account) (put m entry)
map_after_adding_account ctx entry account (Some sponsor) m =
    unless_first (payer_tests_at ctx m sponsor 2)
    (put (map_after_charging 2 (Some sponsor) m) (sponsored_account_entry sponsor entry account))

-- The payer of a claimable balance is always recorded.
abbrev pub map_after_adding_balance : Ctx → LedgerEntry → AccountId → ℕ → EntryMap → Result EntryMap AddFault
map_after_adding_balance ctx entry payer k m =
    unless_first (payer_tests_at ctx m payer k) (put (map_after_charging k (Some payer) m)
    (with_sponsor (Some payer) entry))

-- the map with the counts of a subentry's owner and of its sponsor
abbrev pub map_after_counting : AccountId → ℕ → Option AccountId → EntryMap → EntryMap
map_after_counting owner k sponsor m = with_account (map_after_charging k sponsor m) owner (with_subentry k sponsor)

-- the map after a subentry is counted, or the fault of the first test that holds
abbrev pub map_after_counting_subentry : Ctx → AccountId → ℕ → EntryMap → Result EntryMap AddFault
map_after_counting_subentry ctx owner k m =
    unless_first (subentry_tests_at ctx m owner k) (map_after_counting owner k (open_sponsor ctx owner) m)

-- the map after a line, an offer or data is added, or the fault of the first test that holds
abbrev pub map_after_adding_subentry : Ctx → LedgerEntry → AccountId → ℕ → EntryMap → Result EntryMap AddFault
map_after_adding_subentry ctx entry owner k m =
    unless_first (subentry_tests_at ctx m owner k)
    (put (map_after_counting owner k (open_sponsor ctx owner) m) (sponsored_entry (open_sponsor ctx owner) entry))

-- the map after an account is added, where what charges itself is one
abbrev pub map_after_adding_own : Ctx → LedgerEntry → Option AccountEntry → Option AccountId → EntryMap
    → Result EntryMap AddFault
map_after_adding_own ctx entry None sponsor m = Ok m
map_after_adding_own ctx entry (Some account) sponsor m = map_after_adding_account ctx entry account sponsor m

-- What charges itself is an account. A pool is put as it is: nobody pays for it.
abbrev pub map_after_adding_by : Ctx → AccountId → LedgerEntry → Charge → Option AccountEntry → EntryMap
    → Result EntryMap AddFault
map_after_adding_by ctx owner entry (charge.Itself id) account m =
    map_after_adding_own ctx entry account (open_sponsor ctx owner) m
map_after_adding_by ctx owner entry (charge.Subentry id k) account m = map_after_adding_subentry ctx entry owner k m
map_after_adding_by ctx owner entry (charge.Payer k) account m =
    map_after_adding_balance ctx entry (payer_of ctx owner) k m
map_after_adding_by ctx owner entry charge.Nobody account m = Ok (put m entry)

-- The map after an entry is added, or the fault of the first test that holds. The owner is the account whose open
-- sponsorship pays.
abbrev pub map_after_adding : Ctx → AccountId → LedgerEntry → EntryMap → Result EntryMap AddFault
map_after_adding ctx owner entry m = map_after_adding_by ctx owner entry (charge_of entry.body)
    (account_in entry.body) m

-- an account that is added is ready
abbrev pub IsReadyToAdd : Option AccountEntry → Type 0
IsReadyToAdd None = Unit {0}
IsReadyToAdd (Some account) = IsReadyAccount account

abbrev pub AreReadyBy : AccountId → Charge → Option AccountEntry → EntryMap → Type 0
AreReadyBy owner (charge.Itself id) account m = IsReadyToAdd account
AreReadyBy owner (charge.Subentry id k) account m = IsReady m owner
AreReadyBy owner other account m = Unit {0}

-- Who has to be ready before an entry is added: an account that is added, and the owner of a line, an offer or data.
abbrev pub AreReady : AccountId → LedgerEntryBody → EntryMap → Type 0
AreReady owner b m = AreReadyBy owner (charge_of b) (account_in b) m
