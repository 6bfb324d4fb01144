-- The pool of a new line of shares: it is made where it doesn't exist, and nothing else changes.
use Rattle.op_laws.proofs.Prelude as prelude
use prelude.{◌≡◌, refl, sym, ap, ◌∙◌, ℕ, false, not, ◌||◌, inr, Option, Some, None, arith, ints, ℤ, pos, int_eq, is_lt}
use prelude.{is_eq, get, AccountId, Hash, Asset, PoolParams, TrustLineAsset, LiquidityPoolEntry, LedgerEntry, key_of}
use prelude.{asset_cmp, is_valid_asset, EntryMap, put, pool_of, pool_at, part, View, IsKeyed, none_more, nothing_owed}
use prelude.{IsEntryLegal, IsLegalOwing, IsPoolInRange, held, put_beside, put_same, Leaves, leaves_itself}
use prelude.{accounts_kept, keyed_put, empty_pool, map_with_pool, map_with_pool_by, IsLegalNow, when_nothing_owed}
use prelude.{same_params, put_elsewhere, put_there, if_zero, int_eq_true, zeros_add_to_zero, is_lt_true_Less, not-false}
use prelude.{or_parts, nothing_under, pool_under, pools_exact}
use Rattle.op_flags.specs.ledger_types.declared.key.LedgerKey.TheVariants as key
use Rattle.op_flags.specs.legal_rules.PoolLaws.{new_pool}
use Rattle.op_flags.proofs.legal_rules_proofs.PoolsKept.{pool_put}
use Rattle.op_trust.specs.ShareTrust as spec

-- a pool with these parameters exists, and nothing else changed
pub record IsPooled (id_pool base : ℕ) (pool : Hash) (params : PoolParams) (m now : EntryMap) : Type 0 where
  pub legal : (v : View) (sum : ℤ) → IsLegalOwing v id_pool nothing_owed sum m → IsLegalNow v id_pool sum now
  pub left : Leaves base none_more m now
  pub its : LiquidityPoolEntry
  pub exists : pool_at now pool ≡ Some its
  pub same : its.params ≡ params
  pub lines : (id : AccountId) (a : TrustLineAsset) → get now (key.TrustLine id a) ≡ get m (key.TrustLine id a)

-- ---- a pool that doesn't exist

-- where no pool is under its key, nothing is
no_pool : (m : EntryMap) (pool : Hash) → IsKeyed m → pool_at m pool ≡ None → get m (key.LiquidityPool pool) ≡ None
unfolding pool_at
no_pool m pool keyed none =
    nothing_under pools_exact m (key.LiquidityPool pool) (pool_under pool) (keyed (key.LiquidityPool pool)) none

-- ---- a new pool

new_in_range : (params : PoolParams) → spec.is_pool_bad params ≡ false
    → IsPoolInRange (empty_pool (spec.pool_named_by params) params)
new_in_range params good =
    let bad_a = not (is_valid_asset params.asset_a) in
    let bad_b = not (is_valid_asset params.asset_b) in
    let bad_order = not (is_lt (asset_cmp params.asset_a params.asset_b)) in
    let bad_fee = not (int_eq params.fee (pos 30)) in
    let last = or_parts (bad_a || bad_b || bad_order) bad_fee good in
    let third = or_parts (bad_a || bad_b) bad_order last.0 in
    record {
      fee = int_eq_true params.fee (pos 30) (not-false (int_eq params.fee (pos 30)) last.1);
      assets = is_lt_true_Less (asset_cmp params.asset_a params.asset_b)
          (not-false (is_lt (asset_cmp params.asset_a params.asset_b)) third.1);
      id = refl;
      reserve_a = omega (arith, ints);
      reserve_b = omega (arith, ints);
      shares = omega (arith, ints);
      lines = omega (arith, ints);
    }

module _ (id_pool base seq : ℕ) (params : PoolParams) (m : EntryMap) (keyed : IsKeyed m)
    (good : spec.is_pool_bad params ≡ false) where
  abbrev pool : Hash
  pool = spec.pool_named_by params

  abbrev made : LedgerEntry
  made = new_pool seq (empty_pool pool params)

  module _ (free : get m (key.LiquidityPool pool) ≡ None) where
    made_legal : IsEntryLegal id_pool made
    made_legal = record {
      range = record { body = new_in_range params good; paid = refl };
      bound = tt;
      few = tt;
      fits = tt;
      filled = inr (refl, refl, refl);
    }

    holds_nothing : (x : Asset) → held x made ≡ part (held x) (get m (key_of made))
    holds_nothing x =
        zeros_add_to_zero _ _ (if_zero (is_eq (asset_cmp x params.asset_a)) (pos 0) refl)
        (if_zero (is_eq (asset_cmp x params.asset_b)) (pos 0) refl) ∙ sym (ap (part (held x)) free)

    made_exists : pool_at (put m made) pool ≡ Some (empty_pool pool params)
    unfolding pool_at
    made_exists = ap pool_of (put_there m made)

    made_so : IsPooled id_pool base pool params m (put m made)
    made_so = record {
      legal = λ v sum legal. pool_put v id_pool sum m seq (empty_pool pool params) legal free
          (record { reserve_a = refl; reserve_b = refl; shares = refl; lines = refl }) made_legal;
      left = accounts_kept base none_more m (put m made) (keyed_put m made keyed)
          (put_beside m made (λ id same. absurd (cc))) (put_same m made holds_nothing);
      its = empty_pool pool params;
      exists = made_exists;
      same = refl;
      lines = λ id a. put_elsewhere m made (key.TrustLine id a) (λ same. absurd (cc));
    }

  -- ---- whether it exists or is made

  pooled_by : (o : Option LiquidityPoolEntry) → pool_at m pool ≡ o → spec.is_taken params o ≡ false
      → IsPooled id_pool base pool params m (map_with_pool_by seq pool params m o)
  pooled_by (Some p) there free = record {
    legal = λ v sum legal. when_nothing_owed v id_pool sum m legal;
    left = leaves_itself base m keyed;
    its = p;
    exists = there;
    same = same_params p.params params free;
    lines = λ id a. refl;
  }
  pooled_by None none free = made_so (no_pool m pool keyed none)

  pub pooled : spec.is_taken params (pool_at m pool) ≡ false
      → IsPooled id_pool base pool params m (map_with_pool seq pool params m)
  pooled free = pooled_by (pool_at m pool) refl free
