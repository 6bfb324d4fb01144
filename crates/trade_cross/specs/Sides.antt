-- The most that an offer's owner can give or take, once what its offer binds there is released.
use Rattle.std.specs.Prelude.{◌≡◌, ℕ, ◌-◌, ℤ, ◌+ℤ◌, ◌-ℤ◌, Option, Some, None}
use Rattle.ledger_types.specs.declared.account.AccountEntry.{AccountEntry}
use Rattle.ledger_types.specs.declared.trust_line.TrustLineEntry.{TrustLineEntry}
use Rattle.ledger_types.specs.declared.key.LedgerKey.{LedgerKey}
use Rattle.ledger_types.specs.declared.key.LedgerKey.TheVariants as key
use Rattle.entry_map.specs.EntryMap.{EntryMap}
use Rattle.entry_slots.specs.Accounts.{account_at}
use Rattle.entry_slots.specs.Lines.{line_at}
use Rattle.offer_exchange.specs.Exchange.{unlimited}
use Rattle.entry_slots.specs.declared.account_facts.AccountFacts.{AccountFacts}
use Rattle.entry_slots.specs.AccountFacts.{facts_at}
use Rattle.reserve_rules.specs.Reserve.{greatest_i64, facts_available, line_available, line_room}
use Rattle.reserve_rules.specs.Reserve.{IsInRange, IsLineInRange}
use Rattle.trade_cross.specs.Holdings.{at_least_nothing}

abbrev pub facts_give_with : ℕ → ℤ → Option AccountFacts → ℕ
facts_give_with base released None = 0
facts_give_with base released (Some facts) = at_least_nothing (facts_available facts base +ℤ released)

abbrev pub line_gives_with : ℤ → Option TrustLineEntry → ℕ
line_gives_with released None = 0
line_gives_with released (Some t) = at_least_nothing (line_available t +ℤ released)

-- what can be given under a key once so much is released
abbrev pub given_with : ℕ → ℤ → EntryMap → Option LedgerKey → ℕ
given_with base released m (Some (key.Account id)) = facts_give_with base released (facts_at m id)
given_with base released m (Some (key.TrustLine id held)) = line_gives_with released (line_at m id held)
given_with base released m (Some other) = 0
given_with base released m None = unlimited

abbrev pub facts_room : AccountFacts → ℤ
facts_room facts = greatest_i64 -ℤ facts.balance -ℤ facts.liabilities.buying

abbrev pub facts_take_with : ℤ → Option AccountFacts → ℕ
facts_take_with released None = 0
facts_take_with released (Some facts) = at_least_nothing (facts_room facts +ℤ released)

abbrev pub line_takes_with : ℤ → Option TrustLineEntry → ℕ
line_takes_with released None = 0
line_takes_with released (Some t) = at_least_nothing (line_room t +ℤ released)

-- what can be taken
abbrev pub taken_with : ℤ → EntryMap → Option LedgerKey → ℕ
taken_with released m (Some (key.Account id)) = facts_take_with released (facts_at m id)
taken_with released m (Some (key.TrustLine id held)) = line_takes_with released (line_at m id held)
taken_with released m (Some other) = 0
taken_with released m None = unlimited

-- balances and liabilities under a key are in their ranges
abbrev pub IsInRangeAt : EntryMap → Option LedgerKey → Type 0
IsInRangeAt m (Some (key.Account id)) = (a : AccountEntry) → account_at m id ≡ Some a → IsInRange a
IsInRangeAt m (Some (key.TrustLine id held)) = (t : TrustLineEntry) → line_at m id held ≡ Some t → IsLineInRange t
IsInRangeAt m other = Unit {0}

-- what is left of a bound once so much has moved; an issuer's stays
abbrev pub still_most : Option LedgerKey → (most moved : ℕ) → ℕ
still_most None most moved = most
still_most (Some k) most moved = most - moved
