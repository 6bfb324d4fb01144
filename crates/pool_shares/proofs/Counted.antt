-- What counting a line of shares leaves: no account changes, and nothing is held that wasn't.
use Rattle.pool_shares.proofs.Prelude as prelude
use prelude.{◌≡◌, refl, sym, ap, subst, ◌∙◌, ℕ, Option, Some, None, get, ℤ, AccountId, Hash, Asset, PoolParams}
use prelude.{TrustLineAsset, TrustLineEntry, LiquidityPoolEntry, LedgerEntry, LedgerKey, key_of_body, EntryMap, put}
use prelude.{line_at, with_line, pool_at, with_pool, part, IsKeyed, none_more, needed_line, with_uses, map_with_uses_at}
use prelude.{map_with_uses, with_lines, map_with_lines, map_with_share_lines, held, with_pool_body, IsPoolEntry}
use prelude.{pool_entry, put_beside, put_same, Leaves, leaves_itself, keeps_both, accounts_kept, keyed_put, line_kept}
use prelude.{with_pool_is, lines_exact, pools_exact, with_missing}
use Rattle.ledger_types.specs.declared.entry.LedgerEntryBody.TheVariants as body
use Rattle.ledger_types.specs.declared.key.LedgerKey.TheVariants as key
use Rattle.trade_cross.specs.legal_rules.Supply.{held_in}

-- ---- what doesn't exist isn't changed

pub no_line_changed : (m : EntryMap) (id : AccountId) (a : TrustLineAsset) (change : TrustLineEntry → TrustLineEntry)
    → line_at m id a ≡ None → with_line m id a change ≡ m
unfolding line_at with_line
no_line_changed m id a change none = with_missing lines_exact m (key.TrustLine id a) change none

no_pool_changed : (m : EntryMap) (pool : Hash) (change : LiquidityPoolEntry → LiquidityPoolEntry)
    → pool_at m pool ≡ None → with_pool m pool change ≡ m
unfolding pool_at with_pool
no_pool_changed m pool change none = with_missing pools_exact m (key.LiquidityPool pool) change none

-- ---- lines and pools that count more or less

module _ (base : ℕ) (n : ℤ) where
  module _ (m : EntryMap) (keyed : IsKeyed m) (id : AccountId) (a : TrustLineAsset) where
    line_by : (o : Option TrustLineEntry) → line_at m id a ≡ o
        → Leaves base none_more m (with_line m id a (with_uses n))
    line_by None none = subst (Leaves base none_more m) (sym (no_line_changed m id a (with_uses n) none))
        (leaves_itself base m keyed)
    line_by (Some t) there = line_kept m id a (with_uses n) t there refl refl base keyed refl

  uses_left_at : (m : EntryMap) → IsKeyed m → (o : Option LedgerKey) → Leaves base none_more m (map_with_uses_at n o m)
  uses_left_at m keyed (Some (key.TrustLine id a)) = line_by m keyed id a (line_at m id a) refl
  uses_left_at m keyed other = leaves_itself base m keyed

  module _ (m : EntryMap) (keyed : IsKeyed m) (pool : Hash) where
    module _ (p : LiquidityPoolEntry) (e : LedgerEntry) (here : IsPoolEntry m pool p e) where
      abbrev put_pool : LedgerEntry
      put_pool = with_pool_body e (with_lines n p)

      its_key : key.LiquidityPool p.pool_id ≡ key.LiquidityPool pool
      its_key = sym (ap key_of_body here.is) ∙ keyed (key.LiquidityPool pool) e here.there

      held_same : (x : Asset) → held_in x (body.LiquidityPool (with_lines n p))
          ≡ part (held x) (get m (key.LiquidityPool p.pool_id))
      held_same x = sym (ap (λ q. part (held x) (get m q)) its_key ∙ ap (part (held x)) here.there
          ∙ ap (held_in x) here.is)

      pool_put : Leaves base none_more m (with_pool m pool (with_lines n))
      pool_put = subst (Leaves base none_more m) (sym (with_pool_is m pool (with_lines n) p e here))
          (accounts_kept base none_more m (put m put_pool) (keyed_put m put_pool keyed)
          (put_beside m put_pool (λ other same. absurd (cc))) (put_same m put_pool held_same))

    pool_by : (o : Option LiquidityPoolEntry) → pool_at m pool ≡ o → Leaves base none_more m (map_with_lines n pool m)
    pool_by None none = subst (Leaves base none_more m) (sym (no_pool_changed m pool (with_lines n) none))
        (leaves_itself base m keyed)
    pool_by (Some p) there = let found = pool_entry m pool p there in pool_put p found.0 found.1

    lines_left : Leaves base none_more m (map_with_lines n pool m)
    lines_left = pool_by (pool_at m pool) refl

  pub counts_left : (m : EntryMap) → IsKeyed m → (id : AccountId) (pool : Hash) (params : PoolParams)
      → Leaves base none_more m (map_with_share_lines n id pool params m)
  counts_left m keyed id pool params =
      let now = map_with_uses n id params.asset_a m in
      let then_now = map_with_uses n id params.asset_b now in
      let first = uses_left_at m keyed (needed_line id params.asset_a) in
      let second = uses_left_at now first.keyed (needed_line id params.asset_b) in
      keeps_both base m now (map_with_share_lines n id pool params m) first
      (keeps_both base now then_now (map_with_share_lines n id pool params m) second
      (lines_left then_now second.keyed pool))
