-- What operations ask of the accounts, the lines and the claimable balances of a map. Each legal state meets it.
use Rattle.std.specs.Prelude.{◌≡◌, pos, ◌≤ℤ◌, Some}
use Rattle.ledger_types.specs.declared.ids.AccountId.{AccountId}
use Rattle.ledger_types.specs.declared.ids.ClaimableBalanceId.{ClaimableBalanceId}
use Rattle.ledger_types.specs.declared.account.AccountEntry.{AccountEntry}
use Rattle.ledger_types.specs.declared.asset.TrustLineAsset.{TrustLineAsset}
use Rattle.ledger_types.specs.declared.claimable_balance.ClaimableBalanceEntry.{ClaimableBalanceEntry}
use Rattle.ledger_types.specs.declared.trust_line.TrustLineEntry.{TrustLineEntry}
use Rattle.entry_map.specs.EntryMap.{EntryMap}
use Rattle.entry_slots.specs.Accounts.{account_at}
use Rattle.entry_slots.specs.Balances.{balance_at}
use Rattle.entry_slots.specs.Lines.{line_at}
use Rattle.reserve_rules.specs.Reserve.{IsInRange, IsLineInRange}
use Rattle.sponsor_rules.specs.Payers.{IsReady}

-- two reserves more of each account can be paid by others
pub record AccountsAreReady (m : EntryMap) : Type 0 where
  pub ready : (id : AccountId) → IsReady m id

-- balance and liabilities of the account with this id are in their ranges, if it exists
abbrev pub IsInRangeAt : EntryMap → AccountId → Type 0
IsInRangeAt m id = (account : AccountEntry) → account_at m id ≡ Some account → IsInRange account

-- balance and liabilities of each account are in their ranges
pub record AccountsAreInRange (m : EntryMap) : Type 0 where
  pub in_range : (id : AccountId) → IsInRangeAt m id

-- balance and liabilities of the account's line in this asset are in their ranges, if it exists
abbrev pub IsLineInRangeAt : EntryMap → AccountId → TrustLineAsset → Type 0
IsLineInRangeAt m id held = (line : TrustLineEntry) → line_at m id held ≡ Some line → IsLineInRange line

-- balances and liabilities of each account and of each line are in their ranges
pub record BalancesAreInRange (m : EntryMap) : Type 0 where
  pub accounts : AccountsAreInRange m
  pub lines : (id : AccountId) (held : TrustLineAsset) → IsLineInRangeAt m id held

-- no claimable balance has less than nothing
pub record AreAmountsLow (m : EntryMap) : Type 0 where
  pub low : (id : ClaimableBalanceId) (balance : ClaimableBalanceEntry) → balance_at m id ≡ Some balance
      → pos 0 ≤ℤ balance.amount
