-- The counts that an account's reserve comes from (CAP-0033).
use Rattle.std.specs.Prelude.{ℕ, ◌+◌, ◌-◌, nat_eq, Option, Some, None, if◌then◌else◌}
use Rattle.ledger_types.specs.declared.ids.AccountId.{AccountId}
use Rattle.ledger_types.specs.declared.account.AccountEntry.{AccountEntry}
use Rattle.ledger_types.specs.declared.account.AccountEntryExtensionV2.{AccountEntryExtensionV2}
use Rattle.reserve_rules.specs.entry_map.EntryMap.{EntryMap}
use Rattle.reserve_rules.specs.entry_slots.Accounts.{account_at}
use Rattle.reserve_rules.specs.entry_slots.AccountExtensions.{num_sponsoring, num_sponsored, sponsorship_of}
use Rattle.reserve_rules.specs.entry_slots.AccountExtensions.{with_sponsorship}
use Rattle.sponsor_rules.specs.declared.count.Count.{Count}
use Rattle.sponsor_rules.specs.declared.count.Count.TheVariants.{SubEntries, Sponsoring, Sponsored}

abbrev pub count_in : Count → AccountEntry → ℕ
count_in SubEntries account = account.num_sub_entries
count_in Sponsoring account = num_sponsoring account
count_in Sponsored account = num_sponsored account

-- a sponsorship with another count; the count of subentries is elsewhere
abbrev pub with_count_in : Count → ℕ → AccountEntryExtensionV2 → AccountEntryExtensionV2
with_count_in SubEntries n sponsorship = sponsorship
with_count_in Sponsoring n sponsorship = record sponsorship { num_sponsoring = n }
with_count_in Sponsored n sponsorship = record sponsorship { num_sponsored = n }

abbrev pub with_new_count : Count → ℕ → AccountEntry → AccountEntry
with_new_count SubEntries n account = record account { num_sub_entries = n }
with_new_count Sponsoring n account = with_sponsorship (with_count_in Sponsoring n (sponsorship_of account)) account
with_new_count Sponsored n account = with_sponsorship (with_count_in Sponsored n (sponsorship_of account)) account

-- An account with another count. So an extension is added when a count in it first gets a value other than 0.
unfoldable pub with_count : Count → ℕ → AccountEntry → AccountEntry
with_count count n account = if nat_eq n (count_in count account) then account else with_new_count count n account

abbrev pub with_more : Count → ℕ → AccountEntry → AccountEntry
with_more count k account = with_count count (count_in count account + k) account

-- no count falls below 0
abbrev pub with_less : Count → ℕ → AccountEntry → AccountEntry
with_less count k account = with_count count (count_in count account - k) account

-- ---- the counts of the accounts in a map

abbrev pub count_if : Count → Option AccountEntry → ℕ
count_if count None = 0
count_if count (Some account) = count_in count account

-- the count of an account, 0 where it doesn't exist
abbrev pub count_at : EntryMap → AccountId → Count → ℕ
count_at m id count = count_if count (account_at m id)
