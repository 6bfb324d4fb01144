-- Ledgers to which operations may be applied.
use Rattle.std.specs.Prelude.{◌≡◌, ◌+◌, ◌≤◌, pos, ◌≤ℤ◌, Bool, true, false, Some, None}
use Rattle.ledger_types.specs.declared.account.AccountEntry.{AccountEntry}
use Rattle.ledger_types.specs.declared.claimable_balance.ClaimableBalanceEntry.{ClaimableBalanceEntry}
use Rattle.ledger_types.specs.declared.trust_line.TrustLineEntry.{TrustLineEntry}
use Rattle.ledger_types.specs.declared.entry.LedgerEntry.{LedgerEntry}
use Rattle.ledger_types.specs.declared.entry.LedgerEntryBody.{LedgerEntryBody}
use Rattle.ledger_types.specs.declared.key.LedgerKey.{LedgerKey}
use Rattle.ledger_types.specs.Keys.{key_of}
use Rattle.op_types.specs.declared.operation.OperationBody.{OperationBody}
use Rattle.op_types.specs.declared.operation.OperationBody.TheVariants as of
use Rattle.entry_map.specs.EntryMap.{EntryMap}
use Rattle.entry_slots.specs.AccountExtensions.{num_sponsored}
use Rattle.entry_slots.specs.Accounts.{account_in}
use Rattle.entry_slots.specs.Balances.{balance_in}
use Rattle.entry_slots.specs.LineExtensions.{use_count}
use Rattle.entry_slots.specs.Lines.{line_in}
use Rattle.entry_slots.specs.Pools.{pool_in}
use Rattle.entry_sums.specs.Sums.{EachEntry}
use Rattle.reserve_rules.specs.Reserve.{greatest_i64}
use Rattle.legal_rules.specs.PoolShares.{pool_named}
use Rattle.op_form.specs.Premises.{AccountsAreReady, BalancesAreInRange, AreAmountsLow}

-- where the body is a claimable balance, it doesn't have less than nothing
abbrev pub IsAmountLowIn : LedgerEntryBody → Type 0
IsAmountLowIn b = (balance : ClaimableBalanceEntry) → balance_in b ≡ Some balance → pos 0 ≤ℤ balance.amount

-- ---- ledgers without pools

-- others pay for no more reserves of an account than its own two and one for each subentry
abbrev pub IsPlainAccount : AccountEntry → Type 0
IsPlainAccount account = num_sponsored account ≤ 2 + account.num_sub_entries

-- a line that isn't in the shares of a pool, with a limit of its width, and used no less often than never
pub record IsPlainLine (line : TrustLineEntry) : Type 0 where
  pub no_shares : pool_named line.asset ≡ None
  pub limit : line.limit ≤ℤ greatest_i64
  pub uses : pos 0 ≤ℤ use_count line

-- neither a pool nor a line of shares
pub record IsPlain (b : LedgerEntryBody) : Type 0 where
  pub account : (account : AccountEntry) → account_in b ≡ Some account → IsPlainAccount account
  pub line : (line : TrustLineEntry) → line_in b ≡ Some line → IsPlainLine line
  pub no_pool : pool_in b ≡ None

-- it is under its own key too
pub record IsPlainUnder (k : LedgerKey) (e : LedgerEntry) : Type 0 where
  pub own : key_of e ≡ k
  pub plain : IsPlain e.body

abbrev pub IsPlainLedger : EntryMap → Type 0
IsPlainLedger m = EachEntry IsPlainUnder m

-- ---- ledgers for operations

-- whether an operation asks that pools are sound
abbrev pub asks_for_pools : OperationBody → Bool
asks_for_pools (of.ChangeTrust change) = true
asks_for_pools other = false

-- Accounts and lines are in their ranges, others may pay for accounts, and no claimable balance has less than nothing.
-- Where all entries are plain, there is neither a pool nor a line of shares.
pub record IsReadyLedger (are_plain : Bool) (m : EntryMap) : Type 0 where
  pub ready : AccountsAreReady m
  pub in_range : BalancesAreInRange m
  pub amounts : AreAmountsLow m
  pub plain : are_plain ≡ true → IsPlainLedger m
