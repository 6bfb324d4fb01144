-- What accounts hold while offers are crossed, and what of an account a change passes by.
use Rattle.std.specs.Prelude.{◌≡◌, ◌≢◌, ℕ, ◌%◌, ℤ, ◌≤ℤ◌, Option, Some, None}
use Rattle.std.specs.FinMap.{get}
use Rattle.ledger_types.specs.declared.ids.AccountId.{AccountId}
use Rattle.ledger_types.specs.declared.asset.TrustLineAsset.{TrustLineAsset}
use Rattle.ledger_types.specs.declared.account.AccountEntry.{AccountEntry}
use Rattle.ledger_types.specs.declared.trust_line.TrustLineEntry.{TrustLineEntry}
use Rattle.ledger_types.specs.declared.key.LedgerKey.{LedgerKey}
use Rattle.ledger_types.specs.declared.key.LedgerKey.TheVariants as key
use Rattle.entry_map.specs.EntryMap.{EntryMap}
use Rattle.entry_slots.specs.Accounts.{account_at}
use Rattle.entry_slots.specs.AccountExtensions.{account_liabilities}
use Rattle.entry_slots.specs.Lines.{line_at}
use Rattle.reserve_rules.specs.Reserve.{available}

-- ---- what accounts hold

-- an account or a line exists under the key, a line with an authorisation to keep liabilities; none is needed where
-- nothing is named
abbrev pub IsHeld : EntryMap → Option LedgerKey → Type 0
IsHeld m None = Unit {0}
IsHeld m (Some (key.Account id)) = (a : AccountEntry) × (account_at m id ≡ Some a)
IsHeld m (Some (key.TrustLine id held)) =
    (t : TrustLineEntry) × (line_at m id held ≡ Some t) × (t.flags % 4 ≢ 0)
IsHeld m (Some other) = ⊥

-- ---- one account that a change passes by

abbrev pub Related : {X : Type 0} → (X → X → Type 0) → Option X → Option X → Type 0
Related R None None = Unit {0}
Related R (Some a) (Some b) = R a b
Related R a b = ⊥

-- the same balance and liabilities, and no less available
pub record IsEased (base : ℕ) (a b : AccountEntry) : Type 0 where
  pub balance : b.balance ≡ a.balance
  pub liabilities : account_liabilities b ≡ account_liabilities a
  pub more : available a base ≤ℤ available b base

-- an account and its lines pass a change by, and no offer comes
pub record Passes (base : ℕ) (x : AccountId) (m new : EntryMap) : Type 0 where
  pub account : Related (IsEased base) (account_at m x) (account_at new x)
  pub lines : (held : TrustLineAsset) → line_at new x held ≡ line_at m x held
  pub offers : (seller : AccountId) (id : ℤ) → get m (key.Offer seller id) ≡ None → get new (key.Offer seller id) ≡ None
