-- What a change leaves: how much more of each asset the entry under each key holds, and what is available of accounts.
use Rattle.std.specs.Prelude.{◌≡◌, ◌⊎◌, ℕ, ℤ, pos, ◌+ℤ◌, ◌≤ℤ◌, Option, Some, None, if◌then◌else◌}
use Rattle.std.specs.FinMap.{get}
use Rattle.hash_ids.specs.ledger_types.declared.ids.AccountId.{AccountId}
use Rattle.hash_ids.specs.ledger_types.declared.asset.Asset.{Asset}
use Rattle.hash_ids.specs.ledger_types.declared.account.AccountEntry.{AccountEntry}
use Rattle.hash_ids.specs.ledger_types.declared.key.LedgerKey.{LedgerKey}
use Rattle.hash_ids.specs.ledger_types.declared.key.LedgerKey.TheVariants as key
use Rattle.hash_ids.specs.ledger_types.Keys.{key_of}
use Rattle.entry_sums.specs.entry_map.EntryMap.{EntryMap}
use Rattle.entry_sums.specs.Sums.{part, EachEntry}
use Rattle.sponsor_laws.specs.reserve_rules.Reserve.{available}
use Rattle.legal_rules.specs.EntryKeys.{is_key}
use Rattle.legal_rules.specs.Supply.{held, of_asset, lumens_of}

abbrev pub IsKeyed : EntryMap → Type 0
IsKeyed m = EachEntry (λ k e. key_of e ≡ k) m

-- ---- what entries hold

-- how much more of each asset the entry under each key holds
abbrev pub Increase : Type 0
Increase = LedgerKey → Asset → ℤ

abbrev pub none_more : Increase
none_more k x = pos 0

abbrev pub both_more : (d e : Increase) → Increase
both_more d e k x = d k x +ℤ e k x

-- for the entry under one key
abbrev pub under_key : LedgerKey → (Asset → ℤ) → Increase
under_key at amounts k x = if is_key k at then amounts x else pos 0

-- lumens for one account
abbrev pub for_one : AccountId → ℤ → Increase
for_one id n = under_key (key.Account id) (λ x. lumens_of x n)

-- n of an asset where an account has it, if it doesn't issue it
abbrev pub more_at : Option LedgerKey → Asset → ℤ → Increase
more_at None x n = none_more
more_at (Some at) x n = under_key at (λ y. of_asset y x n)

-- Each entry holds so much more.
abbrev pub HoldsMore : Increase → (old new : EntryMap) → Type 0
HoldsMore more old new =
    (k : LedgerKey) (x : Asset) → part (held x) (get new k) ≡ (part (held x) (get old k) +ℤ more k x)

-- ---- what is available

-- available is at least 0, or at least what it was
abbrev pub IsCoveredBy : ℕ → Option AccountEntry → AccountEntry → Type 0
IsCoveredBy base old a =
    (pos 0 ≤ℤ available a base)
    ⊎ ((was : AccountEntry) × (old ≡ Some was) × (available was base ≤ℤ available a base))

-- what is under an account's id after a change
pub record IsAfter (base : ℕ) (old new : Option AccountEntry) : Type 0 where
  pub covered : (a : AccountEntry) → new ≡ Some a → IsCoveredBy base old a
