-- Who pays how many reserves (CAP-0033; SponsorshipUtils in stellar-core). A payer's account changes first, and then
-- the owner's.
use Rattle.std.specs.Prelude.{ℕ, Option, Some, None}
use Rattle.ledger_types.specs.declared.ids.AccountId.{AccountId}
use Rattle.ledger_types.specs.declared.account.AccountEntry.{AccountEntry}
use Rattle.reserve_rules.specs.entry_map.EntryMap.{EntryMap}
use Rattle.reserve_rules.specs.entry_slots.Accounts.{with_account}
use Rattle.sponsor_rules.specs.declared.count.Count.TheVariants.{SubEntries, Sponsoring, Sponsored}
use Rattle.sponsor_rules.specs.Counting.{with_more, with_less}

-- ---- payers

-- A sponsor, if there is one, pays k reserves more.
abbrev pub map_after_charging : ℕ → Option AccountId → EntryMap → EntryMap
map_after_charging k None m = m
map_after_charging k (Some sponsor) m = with_account m sponsor (with_more Sponsoring k)

-- A sponsor, if there is one, pays k reserves less.
abbrev pub map_after_releasing : ℕ → Option AccountId → EntryMap → EntryMap
map_after_releasing k None m = m
map_after_releasing k (Some sponsor) m = with_account m sponsor (with_less Sponsoring k)

-- The old sponsor, if there was one, pays k reserves less, and the new one, if there is one, k more.
abbrev pub map_after_exchange : ℕ → (old new : Option AccountId) → EntryMap → EntryMap
map_after_exchange k old new m = map_after_charging k new (map_after_releasing k old m)

-- ---- owners

-- an account of which a sponsor, if there is one, pays k reserves more
abbrev pub with_more_paid : ℕ → Option AccountId → AccountEntry → AccountEntry
with_more_paid k None account = account
with_more_paid k (Some sponsor) account = with_more Sponsored k account

-- an account of which a sponsor, if there is one, pays k reserves less
abbrev pub with_less_paid : ℕ → Option AccountId → AccountEntry → AccountEntry
with_less_paid k None account = account
with_less_paid k (Some sponsor) account = with_less Sponsored k account

-- an account with a subentry more, which counts k times
abbrev pub with_subentry : ℕ → Option AccountId → AccountEntry → AccountEntry
with_subentry k sponsor account = with_more_paid k sponsor (with_more SubEntries k account)

-- an account with a subentry less
abbrev pub without_subentry : ℕ → Option AccountId → AccountEntry → AccountEntry
without_subentry k sponsor account = with_less_paid k sponsor (with_less SubEntries k account)

-- an account of which another sponsor, or none, pays k reserves
abbrev pub with_other_payer : ℕ → (old new : Option AccountId) → AccountEntry → AccountEntry
with_other_payer k old new account = with_more_paid k new (with_less_paid k old account)
