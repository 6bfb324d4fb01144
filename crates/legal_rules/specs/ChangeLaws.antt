-- That changes of one account, one line or one pool keep a state legal, but for what their aggregates then owe.
use Rattle.std.specs.Prelude.{◌≡◌, ℕ, ℤ, pos, ◌+ℤ◌, ◌-ℤ◌, ◌≤ℤ◌, length, Some}
use Rattle.hash_ids.specs.ledger_types.declared.ids.AccountId.{AccountId}
use Rattle.hash_ids.specs.ledger_types.declared.ids.Hash.{Hash}
use Rattle.hash_ids.specs.ledger_types.declared.asset.TrustLineAsset.{TrustLineAsset}
use Rattle.hash_ids.specs.ledger_types.declared.account.AccountEntry.{AccountEntry}
use Rattle.hash_ids.specs.ledger_types.declared.trust_line.TrustLineEntry.{TrustLineEntry}
use Rattle.hash_ids.specs.ledger_types.declared.liquidity_pool.LiquidityPoolEntry.{LiquidityPoolEntry}
use Rattle.hash_ids.specs.ledger_types.declared.entry.LedgerEntryBody.TheVariants as body
use Rattle.hash_ids.specs.ledger_types.declared.key.LedgerKey.TheVariants as key
use Rattle.entry_sums.specs.entry_map.EntryMap.{EntryMap}
use Rattle.sponsor_laws.specs.entry_slots.Accounts.{account_at, with_account}
use Rattle.sponsor_laws.specs.entry_slots.AccountExtensions.{account_liabilities, num_sponsoring, num_sponsored}
use Rattle.sponsor_laws.specs.entry_slots.Lines.{line_at, with_line}
use Rattle.sponsor_laws.specs.entry_slots.LineExtensions.{line_liabilities, use_count, with_use_count}
use Rattle.sponsor_laws.specs.entry_slots.Pools.{pool_at, with_pool}
use Rattle.sponsor_laws.specs.Sums.{signer_sponsors}
use Rattle.legal_rules.specs.EntryKeys.{for_key}
use Rattle.legal_rules.specs.PoolShares.{pool_named}
use Rattle.legal_rules.specs.Aggregates.{Shares, ShareLines, Uses, View}
use Rattle.legal_rules.specs.Supply.{lumens_of, of_asset, of_line}
use Rattle.legal_rules.specs.Bounds.{IsFilledOrEmpty}
use Rattle.legal_rules.specs.Ranges.{IsAccountInRange, IsTrustLineInRange, IsPoolInRange}
use Rattle.legal_rules.specs.Owing.{Owed, in_aggregate, plus, IsBoundRightly, IsLegalOwing}

-- ---- accounts

-- an account that counts and states what it did: balance, sequence number, flags, thresholds, home domain, inflation
-- destination and the weights of signers are free
pub record KeepsAggregates (was a : AccountEntry) : Type 0 where
  pub id : a.account_id ≡ was.account_id
  pub subentries : a.num_sub_entries ≡ was.num_sub_entries
  pub sponsoring : num_sponsoring a ≡ num_sponsoring was
  pub sponsored : num_sponsored a ≡ num_sponsored was
  pub liabilities : account_liabilities a ≡ account_liabilities was
  pub signers : length a.signers ≡ length was.signers
  pub sponsors : signer_sponsors a ≡ signer_sponsors was

abbrev pub AccountChanged : Type 0
AccountChanged =
    (v : View) (id_pool : ℕ) (owed : Owed) (sum : ℤ) (m : EntryMap) (id : AccountId) (f : AccountEntry → AccountEntry)
    (a : AccountEntry) → IsLegalOwing v id_pool owed sum m → account_at m id ≡ Some a → KeepsAggregates a (f a)
    → IsAccountInRange (f a)
    → IsLegalOwing v id_pool owed (sum +ℤ (lumens_of v.asset (f a).balance -ℤ lumens_of v.asset a.balance))
    (with_account m id f)

-- ---- lines

-- a line with the same liabilities and use count: balance, limit and flags are free
pub record KeepsLineAggregates (was line : TrustLineEntry) : Type 0 where
  pub id : line.account_id ≡ was.account_id
  pub asset : line.asset ≡ was.asset
  pub liabilities : line_liabilities line ≡ line_liabilities was
  pub uses : use_count line ≡ use_count was

-- n shares of a pool, where a line is in such
abbrev pub in_shares : TrustLineAsset → ℤ → Owed
in_shares asset n Shares k = for_key k (pool_named asset) n
in_shares asset n kind k = pos 0

-- A line is changed: its pool is owed what shares it has more.
abbrev pub LineChanged : Type 0
LineChanged =
    (v : View) (id_pool : ℕ) (owed : Owed) (sum : ℤ) (m : EntryMap) (id : AccountId) (asset : TrustLineAsset)
    (f : TrustLineEntry → TrustLineEntry) (t : TrustLineEntry) → IsLegalOwing v id_pool owed sum m
    → line_at m id asset ≡ Some t → KeepsLineAggregates t (f t) → IsTrustLineInRange (f t)
    → IsBoundRightly (body.TrustLine (f t))
    → IsLegalOwing v id_pool (plus owed (in_shares t.asset ((f t).balance -ℤ t.balance)))
    (sum +ℤ (of_line v.asset t.asset (f t).balance -ℤ of_line v.asset t.asset t.balance)) (with_line m id asset f)

-- A line's use count is set: its aggregate owes what it fell by.
abbrev pub UsesCounted : Type 0
UsesCounted =
    (v : View) (id_pool : ℕ) (owed : Owed) (sum : ℤ) (m : EntryMap) (id : AccountId) (asset : TrustLineAsset) (n : ℤ)
    (t : TrustLineEntry) → IsLegalOwing v id_pool owed sum m → line_at m id asset ≡ Some t → pos 0 ≤ℤ n
    → IsLegalOwing v id_pool (plus owed (in_aggregate Uses (key.TrustLine id asset) (use_count t -ℤ n))) sum
    (with_line m id asset (with_use_count n))

-- ---- pools

-- a pool of the same assets: reserves, shares and the count of lines are free
pub record KeepsParams (was pool : LiquidityPoolEntry) : Type 0 where
  pub id : pool.pool_id ≡ was.pool_id
  pub params : pool.params ≡ was.params

-- A pool is changed: its aggregates owe what its shares and its count of lines fell by, and so much more is held of its
-- assets as its reserves rose by.
abbrev pub PoolChanged : Type 0
PoolChanged =
    (v : View) (id_pool : ℕ) (owed : Owed) (sum : ℤ) (m : EntryMap) (id : Hash)
    (f : LiquidityPoolEntry → LiquidityPoolEntry) (p : LiquidityPoolEntry) → IsLegalOwing v id_pool owed sum m
    → pool_at m id ≡ Some p → KeepsParams p (f p) → IsPoolInRange (f p) → IsFilledOrEmpty (body.LiquidityPool (f p))
    → IsLegalOwing v id_pool
    (plus owed (plus (in_aggregate Shares (key.LiquidityPool id) (p.total_pool_shares -ℤ (f p).total_pool_shares))
    (in_aggregate ShareLines (key.LiquidityPool id)
    (p.pool_shares_trust_line_count -ℤ (f p).pool_shares_trust_line_count))))
    (sum +ℤ (of_asset v.asset p.params.asset_a ((f p).reserve_a -ℤ p.reserve_a)
    +ℤ of_asset v.asset p.params.asset_b ((f p).reserve_b -ℤ p.reserve_b))) (with_pool m id f)
