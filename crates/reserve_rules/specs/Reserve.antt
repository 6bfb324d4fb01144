-- What an account or a trust line can spend and take, as sums of whole numbers (CAP-0003, CAP-0033; TransactionUtils in
-- stellar-core).
use Rattle.std.specs.Prelude.{ℕ, ◌+◌, ℤ, pos, neg_ℤ, ◌⊎◌, ◌+ℤ◌, ◌-ℤ◌, ◌*ℤ◌, ◌≤ℤ◌, ◌<ℤ◌}
use Rattle.entry_slots.specs.ledger_types.declared.account.AccountEntry.{AccountEntry}
use Rattle.entry_slots.specs.ledger_types.declared.trust_line.TrustLineEntry.{TrustLineEntry}
use Rattle.entry_slots.specs.declared.account_facts.AccountFacts.{AccountFacts}
use Rattle.entry_slots.specs.AccountExtensions.{account_liabilities, num_sponsoring, num_sponsored}
use Rattle.entry_slots.specs.LineExtensions.{line_liabilities}

-- the greatest number of 64 bits with a sign
abbrev pub greatest_i64 : ℤ
greatest_i64 = pos 9223372036854775807

-- ---- accounts

-- two reserves, one for each subentry and each reserve paid as a sponsor, less those that others pay
abbrev pub kept_for : (num_sub_entries num_sponsoring num_sponsored base_reserve : ℕ) → ℤ
kept_for num_sub_entries num_sponsoring num_sponsored base_reserve =
    (pos (2 + num_sub_entries + num_sponsoring) -ℤ pos num_sponsored) *ℤ pos base_reserve

abbrev pub min_balance : AccountEntry → ℕ → ℤ
min_balance account base_reserve =
    kept_for account.num_sub_entries (num_sponsoring account) (num_sponsored account) base_reserve

-- what the account can spend; it may be below 0
abbrev pub available : AccountEntry → ℕ → ℤ
available account base_reserve = account.balance -ℤ min_balance account base_reserve -ℤ
    (account_liabilities account).selling

-- the same by an account's facts
abbrev pub facts_available : AccountFacts → ℕ → ℤ
facts_available facts base_reserve = facts.balance -ℤ
    kept_for facts.num_sub_entries facts.num_sponsoring facts.num_sponsored base_reserve -ℤ facts.liabilities.selling

-- what the account can take
abbrev pub room : AccountEntry → ℤ
room account = greatest_i64 -ℤ account.balance -ℤ (account_liabilities account).buying

-- balance and liabilities are in their ranges
pub record IsInRange (account : AccountEntry) : Type 0 where
  pub balance : pos 0 ≤ℤ account.balance
  pub buying : pos 0 ≤ℤ (account_liabilities account).buying
  pub selling : pos 0 ≤ℤ (account_liabilities account).selling
  pub fits : (account.balance +ℤ (account_liabilities account).buying) ≤ℤ greatest_i64

-- ---- trust lines

abbrev pub line_available : TrustLineEntry → ℤ
line_available line = line.balance -ℤ (line_liabilities line).selling

abbrev pub line_room : TrustLineEntry → ℤ
line_room line = line.limit -ℤ line.balance -ℤ (line_liabilities line).buying

-- balance and liabilities are in their ranges
pub record IsLineInRange (line : TrustLineEntry) : Type 0 where
  pub balance : pos 0 ≤ℤ line.balance
  pub buying : pos 0 ≤ℤ (line_liabilities line).buying
  pub selling : pos 0 ≤ℤ (line_liabilities line).selling
  pub covered : (line_liabilities line).selling ≤ℤ line.balance
  pub fits : (line.balance +ℤ (line_liabilities line).buying) ≤ℤ line.limit

-- ---- changes of a balance

-- a credit that passes what can be taken, or a debit that passes what can be spent
abbrev pub Passes : (delta to_take to_spend : ℤ) → Type 0
Passes delta to_take to_spend = (pos 0 ≤ℤ delta × to_take <ℤ delta) ⊎ (delta <ℤ pos 0 × to_spend <ℤ neg_ℤ delta)
