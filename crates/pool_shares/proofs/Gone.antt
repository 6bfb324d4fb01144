-- What is left legal where an account's line of a pool's shares is removed, with the pool that has no line then.
use Rattle.pool_shares.proofs.Prelude as prelude
use prelude.{◌≡◌, refl, sym, ap, subst, ◌∙◌, ℕ, Bool, true, false, Option, Some, None, ℤ, pos, neg_ℤ, if◌then◌else◌}
use prelude.{AccountId, Hash, TrustLineEntry, LiquidityPoolEntry, EntryMap, erase, line_at, pool_at, map_after_removing}
use prelude.{View, pools_in, nothing_owed, IsLegalOwing, Pools, map_with_share_lines, pool_entry, pool_erased}
use prelude.{share_line_gone, has_no_line, map_without_bare_pool, map_without_share_line, int_eq_true}
use Rattle.ledger_types.specs.declared.asset.TrustLineAsset.TheVariants as line
use Rattle.ledger_types.specs.declared.key.LedgerKey.TheVariants as key

module _ (v : View) (id_pool : ℕ) (sum : ℤ) where
  -- legal, with the pools that exist
  abbrev pub IsLegalNow : EntryMap → Type 0
  IsLegalNow m = IsLegalOwing (record v { pools = pools_in m }) id_pool nothing_owed sum m

  pub when_nothing_owed : (m : EntryMap) → IsLegalOwing v id_pool nothing_owed sum m → IsLegalNow m
  when_nothing_owed m legal =
      let known : pools_in m ≡ v.pools = λ i id. legal.params id i in
      subst (λ (p : Pools). IsLegalOwing (record v { pools = p }) id_pool nothing_owed sum m) (sym known) legal

  module _ (m : EntryMap) (legal : IsLegalOwing v id_pool nothing_owed sum m) (pool : Hash) where
    bare_by : (o : Option LiquidityPoolEntry) → pool_at m pool ≡ o → (b : Bool) → has_no_line o ≡ b
        → IsLegalNow (if b then erase m (key.LiquidityPool pool) else m)
    bare_by None is true none = absurd (cc)
    bare_by (Some p) is true none =
        let found = pool_entry m pool p is in
        pool_erased v id_pool sum m pool found.0 p legal
        (found.1.there ∙ ap Some (λ i. record found.0 { body = found.1.is i }))
        (int_eq_true p.pool_shares_trust_line_count (pos 0) none)
    bare_by o is false none = when_nothing_owed m legal

    -- without a pool that has no line
    pub bare_legal : IsLegalNow (map_without_bare_pool pool m)
    bare_legal = bare_by (pool_at m pool) refl (has_no_line (pool_at m pool)) refl

  -- without an empty line, and without the pool that has no line then
  pub gone_legal : (id : AccountId) (pool : Hash) (t : TrustLineEntry) (p : LiquidityPoolEntry) (m : EntryMap)
      → IsLegalOwing v id_pool nothing_owed sum m → line_at m id (line.PoolShare pool) ≡ Some t → t.balance ≡ pos 0
      → pool_at m pool ≡ Some p → IsLegalNow (map_without_share_line id pool p.params m)
  gone_legal id pool t p m legal exists empty pool_exists =
      bare_legal (map_with_share_lines (neg_ℤ (pos 1)) id pool p.params
      (map_after_removing (key.TrustLine id (line.PoolShare pool)) m))
      (share_line_gone v id_pool sum id pool t p m legal exists empty pool_exists) pool
