-- A hop by the pool of its pair.
use Rattle.trade_cross.proofs.Prelude as prelude
use prelude.{◌≡◌, refl, ap, subst, ◌∙◌, ℕ, ◌<◌, ◌≤◌, Bool, true, false, Some, arith, [], ◌∷◌, ◌&&◌, inl, inr, ints, ℤ}
use prelude.{pos, neg_ℤ, ◌+ℤ◌, ◌-ℤ◌, ◌≤ℤ◌, ◌<ℤ◌, unsigned_abs, if◌then◌else◌, is_eq, Asset, LiquidityPoolEntry}
use prelude.{LedgerKey, asset_cmp, EntryMap, pool_at, with_pool, Amounts, IsFilledOrEmpty, Kind, Shares, ShareLines}
use prelude.{View, is_key, Owed, in_aggregate, plus, IsEntryLegal, IsLegalOwing, IsPoolInRange, of_asset, pool_changed}
use prelude.{Leaves, leaves_as, legal_as, Trade, IsCrossable, kept_in, more_in, is_sheep_first, pool_of_pair}
use prelude.{with_reserves, pool_atom, swapped, add_natural_nonnegative, add_two_zeros, sub_natural_positive}
use prelude.{same_assets, and_parts}
use Rattle.ledger_types.specs.declared.asset.PoolParams.{PoolParams}
use Rattle.ledger_types.specs.declared.entry.LedgerEntryBody.TheVariants as body
use Rattle.ledger_types.specs.declared.key.LedgerKey.TheVariants as key
use Rattle.trade_cross.proofs.PoolsLeft.{both_of, pool_left}
use Rattle.trade_cross.proofs.PoolsLegal.{IsLegalPool, pool_legal}
use Rattle.trade_cross.proofs.PoolSwaps.{DoesSwap, IsSwapping, swaps}

-- ---- numbers

owed_still : (t : Bool) (o n : ℤ) → (o +ℤ ((if t then n -ℤ n else pos 0) +ℤ pos 0)) ≡ o
owed_still true o n = omega (arith, ints)
owed_still false o n = omega (arith, ints)

also_still : (t : Bool) (o n : ℤ) → (o +ℤ (pos 0 +ℤ (if t then n -ℤ n else pos 0))) ≡ o
also_still true o n = omega (arith, ints)
also_still false o n = omega (arith, ints)

risen_by : (s t : Bool) (sum x y a b : ℤ)
    → (sum +ℤ ((if s then (x +ℤ a) -ℤ x else pos 0) +ℤ (if t then (y +ℤ b) -ℤ y else pos 0)))
    ≡ (sum +ℤ (((if s then a else pos 0) +ℤ (if t then b else pos 0)) +ℤ pos 0))
risen_by true true sum x y a b = omega (arith, ints)
risen_by true false sum x y a b = omega (arith, ints)
risen_by false true sum x y a b = omega (arith, ints)
risen_by false false sum x y a b = omega (arith, ints)

apart_by : (t : Bool) (n a b : ℤ) → n ≡ (a +ℤ b)
    → (if t then n else pos 0) ≡ (((if t then a else pos 0) +ℤ (if t then b else pos 0)) +ℤ pos 0)
apart_by true n a b is = omega (arith, ints)
apart_by false n a b is = refl

add_comm : (a b : ℤ) → (a +ℤ b) ≡ (b +ℤ a)
add_comm a b = omega (arith, ints)

falls_low : (x : ℤ) (n : ℕ) → pos 0 ≤ℤ x → n < unsigned_abs x → pos 0 ≤ℤ (x +ℤ neg_ℤ (pos n))
falls_low x n low less = omega (arith, ints)

rises_some : (x : ℤ) (n : ℕ) → pos 0 ≤ℤ x → 1 ≤ unsigned_abs x → pos 0 <ℤ (x +ℤ pos n)
rises_some x n low some = omega (arith, ints)

never_some : (x : ℤ) → x ≡ pos 0 → 1 ≤ unsigned_abs x → ⊥
never_some x none some = omega (arith, ints)

-- ---- the pair's assets

abbrev pair_by : Trade → (is_first : Bool) → PoolParams
pair_by trade is_first =
    if is_first then record { asset_a = trade.sheep; asset_b = trade.wheat; fee = pos 30 }
    else record { asset_a = trade.wheat; asset_b = trade.sheep; fee = pos 30 }

abbrev is_of : (pair params : PoolParams) → Bool
is_of pair params =
    is_eq (asset_cmp params.asset_a pair.asset_a) && is_eq (asset_cmp params.asset_b pair.asset_b)

-- ---- a pool whose reserves change

-- as much more of both reserves as the atom says
abbrev Moves : Trade → Amounts → LiquidityPoolEntry → (up down : ℤ) → Type 0
Moves trade a p up down =
    (x : Asset)
    → both_of p up down x ≡ (of_asset x trade.wheat (neg_ℤ (pos a.wheat)) +ℤ of_asset x trade.sheep (pos a.sheep))

module _ (v : View) (id_pool base : ℕ) (owed : Owed) (sum : ℤ) (trade : Trade) (a : Amounts) (m : EntryMap) where
  -- what the pool's change yields
  pub record IsMade (new : EntryMap) : Type 0 where
    pub legal : IsLegalOwing v id_pool owed (sum +ℤ kept_in v.asset (pool_atom trade a ∷ [])) new
    pub leaves : Leaves base (more_in (pool_atom trade a ∷ [])) m new

  module _ (legal : IsLegalOwing v id_pool owed sum m) (p : LiquidityPoolEntry)
      (exists : pool_at m (pool_of_pair trade) ≡ Some p) (up down : ℤ) (moves : Moves trade a p up down)
      (range : IsPoolInRange (with_reserves up down p))
      (filled : IsFilledOrEmpty (body.LiquidityPool (with_reserves up down p))) where
    abbrev at : LedgerKey
    at = key.LiquidityPool (pool_of_pair trade)

    same_owed : (kind : Kind) (k : LedgerKey)
        → plus owed (plus (in_aggregate Shares at (p.total_pool_shares -ℤ p.total_pool_shares))
        (in_aggregate ShareLines at (p.pool_shares_trust_line_count -ℤ p.pool_shares_trust_line_count))) kind k
        ≡ owed kind k
    same_owed Shares k = owed_still (is_key at k) (owed Shares k) p.total_pool_shares
    same_owed ShareLines k = also_still (is_key at k) (owed ShareLines k) p.pool_shares_trust_line_count
    same_owed kind k = add_two_zeros (owed kind k)

    its_more : (k : LedgerKey) (x : Asset)
        → (if is_key k at then both_of p up down x else pos 0) ≡ more_in (pool_atom trade a ∷ []) k x
    its_more k x = apart_by (is_key k at) (both_of p up down x) (of_asset x trade.wheat (neg_ℤ (pos a.wheat)))
        (of_asset x trade.sheep (pos a.sheep)) (moves x)

    pub pool_made : IsMade (with_pool m (pool_of_pair trade) (with_reserves up down))
    pool_made = record {
      legal = legal_as v (IsEntryLegal id_pool) _ owed _ _ (with_pool m (pool_of_pair trade) (with_reserves up down))
          (pool_changed v id_pool owed sum m (pool_of_pair trade) (with_reserves up down) p legal exists
          (record { id = refl; params = refl }) range filled)
          same_owed
          (risen_by (is_eq (asset_cmp v.asset p.params.asset_a)) (is_eq (asset_cmp v.asset p.params.asset_b)) sum
          p.reserve_a p.reserve_b up down ∙ ap (λ n. sum +ℤ (n +ℤ pos 0)) (moves v.asset));
      leaves = leaves_as base _ (more_in (pool_atom trade a ∷ [])) m
          (with_pool m (pool_of_pair trade) (with_reserves up down))
          (pool_left base m legal.keyed (pool_of_pair trade) (with_reserves up down) p exists up down
          (record { keeps = record { id = refl; params = refl }; first = refl; second = refl }))
          its_more;
    }

  -- ---- the pool that serves

  module _ (legal : IsLegalOwing v id_pool owed sum m) (its : IsSwapping trade m a) where
    abbrev p : LiquidityPoolEntry
    p = its.pool

    was : IsLegalPool (pool_of_pair trade) p
    was = pool_legal v id_pool owed sum m (pool_of_pair trade) p legal its.exists

    in_range : (up down : ℤ) → pos 0 ≤ℤ (p.reserve_a +ℤ up) → pos 0 ≤ℤ (p.reserve_b +ℤ down)
        → IsPoolInRange (with_reserves up down p)
    in_range up down first second = record {
      fee = was.range.fee;
      assets = was.range.assets;
      id = was.range.id;
      reserve_a = first;
      reserve_b = second;
      shares = was.range.shares;
      lines = was.range.lines;
    }

    filled_still : IsFilledOrEmpty (body.LiquidityPool p) → 1 ≤ unsigned_abs p.reserve_a → (up down : ℤ)
        → pos 0 <ℤ (p.reserve_a +ℤ up) → pos 0 <ℤ (p.reserve_b +ℤ down)
        → IsFilledOrEmpty (body.LiquidityPool (with_reserves up down p))
    filled_still (inl filled) some up down first second = inl (first, second, filled.2)
    filled_still (inr empty) some up down first second = absurd (never_some p.reserve_a empty.0 some)

    by_order : (t : Bool) → is_sheep_first trade ≡ t
        → IsMade (with_pool m (pool_of_pair trade) (λ pool. if t
        then with_reserves (pos a.sheep) (neg_ℤ (pos a.wheat)) pool
        else with_reserves (neg_ℤ (pos a.wheat)) (pos a.sheep) pool))
    by_order true first =
        let names = subst (λ t. is_of (pair_by trade t) p.params ≡ true) first its.pair in
        let both = and_parts (is_eq (asset_cmp p.params.asset_a trade.sheep))
        (is_eq (asset_cmp p.params.asset_b trade.wheat)) names in
        let asset_a = same_assets p.params.asset_a trade.sheep both.0 in
        let asset_b = same_assets p.params.asset_b trade.wheat both.1 in
        let does : DoesSwap (unsigned_abs p.reserve_a) (unsigned_abs p.reserve_b) a = subst (λ t. DoesSwap
        (unsigned_abs (if t then p.reserve_a else p.reserve_b)) (unsigned_abs (if t then p.reserve_b
        else p.reserve_a)) a) first (swaps trade.rounding _ _ _ a its.swap).0 in
        let low = was.range.reserve_a in
        pool_made legal p its.exists (pos a.sheep) (neg_ℤ (pos a.wheat))
        (λ x. (λ i. of_asset x (asset_a i) (pos a.sheep) +ℤ of_asset x (asset_b i) (neg_ℤ (pos a.wheat)))
        ∙ add_comm (of_asset x trade.sheep (pos a.sheep)) (of_asset x trade.wheat (neg_ℤ (pos a.wheat))))
        (in_range (pos a.sheep) (neg_ℤ (pos a.wheat)) (add_natural_nonnegative p.reserve_a a.sheep low)
        (falls_low p.reserve_b a.wheat was.range.reserve_b does.left))
        (filled_still was.filled does.some_x (pos a.sheep) (neg_ℤ (pos a.wheat))
        (rises_some p.reserve_a a.sheep low does.some_x)
        (sub_natural_positive p.reserve_b a.wheat was.range.reserve_b does.left))
    by_order false first =
        let names = subst (λ t. is_of (pair_by trade t) p.params ≡ true) first its.pair in
        let both = and_parts (is_eq (asset_cmp p.params.asset_a trade.wheat))
        (is_eq (asset_cmp p.params.asset_b trade.sheep)) names in
        let asset_a = same_assets p.params.asset_a trade.wheat both.0 in
        let asset_b = same_assets p.params.asset_b trade.sheep both.1 in
        let does : DoesSwap (unsigned_abs p.reserve_b) (unsigned_abs p.reserve_a) a = subst (λ t. DoesSwap
        (unsigned_abs (if t then p.reserve_a else p.reserve_b)) (unsigned_abs (if t then p.reserve_b
        else p.reserve_a)) a) first (swaps trade.rounding _ _ _ a its.swap).0 in
        let low = was.range.reserve_b in
        pool_made legal p its.exists (neg_ℤ (pos a.wheat)) (pos a.sheep)
        (λ x i. of_asset x (asset_a i) (neg_ℤ (pos a.wheat)) +ℤ of_asset x (asset_b i) (pos a.sheep))
        (in_range (neg_ℤ (pos a.wheat)) (pos a.sheep)
        (falls_low p.reserve_a a.wheat was.range.reserve_a does.left) (add_natural_nonnegative p.reserve_b a.sheep low))
        (filled_still was.filled does.some_y (neg_ℤ (pos a.wheat)) (pos a.sheep)
        (sub_natural_positive p.reserve_a a.wheat was.range.reserve_a does.left)
        (rises_some p.reserve_b a.sheep low does.some_x))

    pub swap_made : IsMade (swapped trade a m).entries
    swap_made = by_order (is_sheep_first trade) refl

-- a book can be crossed after it
pub still_crossable : (trade : Trade) (a : Amounts) (m : EntryMap) → IsCrossable m → IsSwapping trade m a
    → IsCrossable (swapped trade a m).entries
still_crossable trade a m k its = record {
  view = k.view;
  id_pool = k.id_pool;
  owed = k.owed;
  sum = _;
  legal = (swap_made k.view k.id_pool 0 k.owed k.sum trade a m k.legal its).legal;
  right = k.right;
}
