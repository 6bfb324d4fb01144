-- Shares of pools, and their lines, which come, change and go with their pools, in a map of which an invariant holds.
use Rattle.entry_map.specs.EntryMap.{EntryMap, erase}
use Rattle.entry_slots.specs.Pools.{pool_at, pool_of}
use Rattle.ledger_types.proofs.Arithmetic.{sub_natural_at_most}
use Rattle.ledger_types.proofs.Booleans.{if_either}
use Rattle.ledger_types.specs.declared.asset.PoolParams.{PoolParams}
use Rattle.ledger_types.specs.declared.ids.AccountId.{AccountId}
use Rattle.ledger_types.specs.declared.ids.Hash.{Hash}
use Rattle.ledger_types.specs.declared.key.LedgerKey.{LedgerKey}
use Rattle.ledger_types.specs.declared.liquidity_pool.LiquidityPoolEntry.{LiquidityPoolEntry}
use Rattle.legal_rules.specs.PoolLaws.{new_pool}
use Rattle.legal_rules.specs.PoolShares.{needed_line}
use Rattle.legal_rules.specs.ShareLaws.{map_with_share_lines, map_with_uses, map_with_uses_at, with_lines, with_uses}
use Rattle.pool_shares.specs.ShareLines.{empty_pool, has_no_line, map_with_pool_by, map_without_share_line}
use Rattle.pool_shares.specs.Withdrawing.{map_with_shares, share_key, with_change}
use Rattle.reserve_rules.specs.Reserve.{greatest_i64}
use Rattle.sponsor_rules.specs.Removing.{map_after_removing}
use Rattle.std.proofs.Common.{ap, arith, refl, sym, ◌∙◌}
use Rattle.std.proofs.lemmas.Int.{ints}
use Rattle.std.specs.FinMap.{get}
use Rattle.std.specs.Prelude.{None, Option, Some, neg_ℤ, pos, ℕ, ℤ, ◌+ℤ◌, ◌≡◌, ◌≤ℤ◌}
use Rattle.sponsor_rules.proofs.Changes.{line_changed, pool_changed}
use Rattle.sponsor_rules.proofs.Charges.{removing_holds}
use Rattle.sponsor_rules.proofs.Entries.{AreBoundBy, Fits, Invariant, IsBoundBy}
use Rattle.trade_cross.specs.Holdings.{paying}
use Rattle.trade_cross.proofs.BoundHold.{paying_holds}
use Rattle.pool_shares.proofs.PoolsBeside.{beside_paying, beside_uses}
use Rattle.ledger_types.specs.declared.asset.TrustLineAsset.TheVariants as line
use Rattle.ledger_types.specs.declared.key.LedgerKey.TheVariants as key

-- the same pool exists where the same entry does
pub same_pool : (m n : EntryMap) (pool : Hash) → get m (key.LiquidityPool pool) ≡ get n (key.LiquidityPool pool)
    → pool_at m pool ≡ pool_at n pool
unfolding pool_at
same_pool m n pool same = ap pool_of same

-- a pool may have so much more of both assets and so many shares more, each of which may be below 0
abbrev pub MayHave : (a b shares : ℤ) → LiquidityPoolEntry → Type 0
MayHave a b shares p =
    AreBoundBy p (p.reserve_a +ℤ a) (p.reserve_b +ℤ b) (p.total_pool_shares +ℤ shares) p.pool_shares_trust_line_count

-- what a pool gives it may give
pub may_give : (a b : ℕ) (shares : ℤ) (p : LiquidityPoolEntry) → pos 0 ≤ℤ shares
    → MayHave (neg_ℤ (pos a)) (neg_ℤ (pos b)) (neg_ℤ shares) p
may_give a b shares p low = record {
  reserve_a = λ le. sub_natural_at_most p.reserve_a greatest_i64 a le;
  reserve_b = λ le. sub_natural_at_most p.reserve_b greatest_i64 b le;
  total = λ le. less_of p.total_pool_shares le;
  counted = λ le. le;
}
  where
    less_of : (was : ℤ) → was ≤ℤ greatest_i64 → (was +ℤ neg_ℤ shares) ≤ℤ greatest_i64
    less_of was le = omega (arith, ints)

-- a pool may have n lines more, which may be below 0
abbrev pub MayCount : ℤ → LiquidityPoolEntry → Type 0
MayCount n p = IsBoundBy p.pool_shares_trust_line_count (p.pool_shares_trust_line_count +ℤ n)

one_less : (was : ℤ) → IsBoundBy was (was +ℤ neg_ℤ (pos 1))
one_less was le = omega (arith, ints)

module _ (v : Invariant) where
  -- ---- shares

  pub shares_hold : (id : AccountId) (pool : Hash) (a b shares : ℤ) (m : EntryMap)
      → (v.Asks → (p : LiquidityPoolEntry) → pool_at m pool ≡ Some p → MayHave a b shares p) → v.Holds m
      → v.Holds (map_with_shares id pool a b shares m)
  shares_hold id pool a b shares m may holds =
      let had = paying (share_key id pool) shares m in
      pool_changed v had pool (with_change a b shares)
      (λ p at fits. v.pooled _ _ _ _ p
      (λ asks. may asks p (sym (same_pool had m pool (beside_paying pool (share_key id pool) shares m)) ∙ at)) fits)
      (paying_holds v (share_key id pool) shares m holds)

  -- ---- lines of shares

  uses : (n : ℤ) (o : Option LedgerKey) (m : EntryMap) → v.Holds m → v.Holds (map_with_uses_at n o m)
  uses n (Some (key.TrustLine id held)) m holds =
      line_changed v (with_uses n) (λ t fits. v.same_line t _ refl refl fits) m id held holds
  uses n other m holds = holds

  pub share_lines_hold : (n : ℤ) (id : AccountId) (pool : Hash) (params : PoolParams) (m : EntryMap)
      → ((p : LiquidityPoolEntry) → pool_at m pool ≡ Some p → MayCount n p) → v.Holds m
      → v.Holds (map_with_share_lines n id pool params m)
  share_lines_hold n id pool params m may holds =
      let first = map_with_uses n id params.asset_a m in
      let both = map_with_uses n id params.asset_b first in
      let exists = same_pool both m pool (beside_uses pool n (needed_line id params.asset_b) first
      ∙ beside_uses pool n (needed_line id params.asset_a) m) in
      pool_changed v both pool (with_lines n)
      (λ p at fits. v.pooled _ _ _ _ p (λ asks. record {
        reserve_a = λ le. le;
        reserve_b = λ le. le;
        total = λ le. le;
        counted = may p (sym exists ∙ at);
      }) fits)
      (uses n (needed_line id params.asset_b) first (uses n (needed_line id params.asset_a) m holds))

  -- a line of shares goes, and its pool with the last one
  pub share_line_removed : (id : AccountId) (pool : Hash) (params : PoolParams) (m : EntryMap) → v.Holds m
      → v.Holds (map_without_share_line id pool params m)
  share_line_removed id pool params m holds =
      let k = key.TrustLine id (line.PoolShare pool) in
      let counted = map_with_share_lines (neg_ℤ (pos 1)) id pool params (map_after_removing k m) in
      let left = share_lines_hold (neg_ℤ (pos 1)) id pool params (map_after_removing k m)
      (λ p at. one_less p.pool_shares_trust_line_count) (removing_holds v k m (v.others k tt) holds) in
      if_either v.Holds (has_no_line (pool_at counted pool)) (erase counted (key.LiquidityPool pool)) counted
      (v.erasing counted (key.LiquidityPool pool) left (v.others (key.LiquidityPool pool) tt)) left

  pub pool_made : (seq : ℕ) (id : Hash) (params : PoolParams) (m : EntryMap) (o : Option LiquidityPoolEntry)
      → Fits v.of (new_pool seq (empty_pool id params)) → v.Holds m → v.Holds (map_with_pool_by seq id params m o)
  pool_made seq id params m None fits holds = v.putting m (new_pool seq (empty_pool id params)) holds fits
  pool_made seq id params m (Some pool) fits holds = holds
