-- Where accounts have assets, as keys, and changes of what is there.
use Rattle.std.specs.Prelude.{◌≡◌, ℤ, pos, ◌+ℤ◌, ◌≤ℤ◌, Option, Some, None}
use Rattle.ledger_types.specs.declared.ids.AccountId.{AccountId}
use Rattle.ledger_types.specs.declared.price.Liabilities.{Liabilities}
use Rattle.ledger_types.specs.declared.account.AccountEntry.{AccountEntry}
use Rattle.ledger_types.specs.declared.trust_line.TrustLineEntry.{TrustLineEntry}
use Rattle.ledger_types.specs.declared.key.LedgerKey.{LedgerKey}
use Rattle.ledger_types.specs.declared.key.LedgerKey.TheVariants as key
use Rattle.entry_map.specs.EntryMap.{EntryMap}
use Rattle.entry_slots.specs.Accounts.{account_at, with_account}
use Rattle.entry_slots.specs.AccountExtensions.{account_liabilities}
use Rattle.entry_slots.specs.Lines.{line_at, with_line}
use Rattle.entry_slots.specs.LineExtensions.{line_liabilities}
use Rattle.reserve_rules.specs.Reserve.{greatest_i64}
use Rattle.legal_rules.specs.Binding.{bound_account, bound_line}
use Rattle.legal_rules.specs.Payments.{paid}
use Rattle.trade_cross.specs.declared.location.Location.{Location}
use Rattle.trade_cross.specs.declared.location.Location.TheVariants as location
use Rattle.trade_cross.specs.declared.holding.Change.{Change}
use Rattle.trade_cross.specs.Holdings.{line_paid}

abbrev pub location_key : AccountId → Location → Option LedgerKey
location_key id location.Account = Some (key.Account id)
location_key id (location.Line held) = Some (key.TrustLine id held)
location_key id location.Nowhere = None

-- an account with another balance and other liabilities
abbrev pub changed_account : Change → AccountEntry → AccountEntry
changed_account change a = bound_account change.selling change.buying (paid change.balance a)

abbrev pub changed_line : Change → TrustLineEntry → TrustLineEntry
changed_line change t = bound_line change.selling change.buying (line_paid change.balance t)

-- the map, in which what is under the key of an account or a line has another balance and other liabilities
abbrev pub changing : Option LedgerKey → Change → EntryMap → EntryMap
changing (Some (key.Account id)) change m = with_account m id (changed_account change)
changing (Some (key.TrustLine id held)) change m = with_line m id held (changed_line change)
changing other change m = m

-- ---- what fits

-- A number rises by delta, which may be below 0: it falls to 0 at least, and where it rises, not above 64 bits with a
-- sign.
pub record DoesFit (number delta : ℤ) : Type 0 where
  pub low : pos 0 ≤ℤ (number +ℤ delta)
  pub high : pos 1 ≤ℤ delta → (number +ℤ delta) ≤ℤ greatest_i64

-- the sums of a change
pub record DoSumsFit (held : ℤ) (was : Liabilities) (change : Change) : Type 0 where
  pub balance : DoesFit held change.balance
  pub selling : DoesFit was.selling change.selling
  pub buying : DoesFit was.buying change.buying

abbrev pub DoesChangeFit : EntryMap → Option LedgerKey → Change → Type 0
DoesChangeFit m (Some (key.Account id)) change =
    (a : AccountEntry) → account_at m id ≡ Some a → DoSumsFit a.balance (account_liabilities a) change
DoesChangeFit m (Some (key.TrustLine id held)) change =
    (t : TrustLineEntry) → line_at m id held ≡ Some t → DoSumsFit t.balance (line_liabilities t) change
DoesChangeFit m other change = Unit {0}
