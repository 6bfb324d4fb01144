-- What a pool leaves whose reserves change.
use Rattle.trade_cross.proofs.Prelude.{◌≡◌, refl, sym, ap, subst, ◌∙◌, ℕ, Bool, true, false, Some, arith, ints, ℤ, pos}
use Rattle.trade_cross.proofs.Prelude.{◌+ℤ◌, if◌then◌else◌, get, is_eq, Hash, Asset, LiquidityPoolEntry, LedgerEntry}
use Rattle.trade_cross.proofs.Prelude.{LedgerKey, asset_cmp, key_of_body, EntryMap, put, pool_at, with_pool, part}
use Rattle.trade_cross.proofs.Prelude.{KeepsParams, IsKeyed, under_key, HoldsMore, of_asset, held_in, held_of}
use Rattle.trade_cross.proofs.Prelude.{put_beside, pool_entry, with_pool_body, IsPoolEntry, put_holds, Leaves}
use Rattle.trade_cross.proofs.Prelude.{accounts_kept, keyed_put, with_pool_is}
use Rattle.ledger_types.specs.declared.entry.LedgerEntryBody.TheVariants as body
use Rattle.ledger_types.specs.declared.key.LedgerKey.TheVariants as key

-- both amounts of an asset more
abbrev pub both_of : LiquidityPoolEntry → (a b : ℤ) → Asset → ℤ
both_of p a b x = of_asset x p.params.asset_a a +ℤ of_asset x p.params.asset_b b

-- a pool of the same assets, with so much more of both; each may be below 0
pub record Rises (p q : LiquidityPoolEntry) (a b : ℤ) : Type 0 where
  pub keeps : KeepsParams p q
  pub first : q.reserve_a ≡ (p.reserve_a +ℤ a)
  pub second : q.reserve_b ≡ (p.reserve_b +ℤ b)

more_of : (s t : Bool) (x y a b : ℤ)
    → ((if s then x +ℤ a else pos 0) +ℤ (if t then y +ℤ b else pos 0))
    ≡ (((if s then x else pos 0) +ℤ (if t then y else pos 0)) +ℤ ((if s then a else pos 0) +ℤ (if t then b else pos 0)))
more_of true true x y a b = omega (arith, ints)
more_of true false x y a b = omega (arith, ints)
more_of false true x y a b = omega (arith, ints)
more_of false false x y a b = refl

module _ (base : ℕ) (m : EntryMap) (keyed : IsKeyed m) (pool : Hash) (f : LiquidityPoolEntry → LiquidityPoolEntry)
    (p : LiquidityPoolEntry) (exists : pool_at m pool ≡ Some p) (a b : ℤ) (rises : Rises p (f p) a b) where
  abbrev at : LedgerKey
  at = key.LiquidityPool pool

  found : (e : LedgerEntry) × IsPoolEntry m pool p e
  found = pool_entry m pool p exists

  its_key : key.LiquidityPool (f p).pool_id ≡ at
  its_key = ap key.LiquidityPool rises.keeps.id ∙ sym (ap key_of_body found.1.is) ∙ keyed at found.0 found.1.there

  had : (x : Asset) → part (held_of x) (get m (key.LiquidityPool (f p).pool_id)) ≡ held_in x (body.LiquidityPool p)
  had x =
      ap (λ q. part (held_of x) (get m q)) its_key ∙ ap (part (held_of x)) found.1.there ∙ ap (held_in x) found.1.is

  has_more : (x : Asset) → held_in x (body.LiquidityPool (f p))
      ≡ (part (held_of x) (get m (key.LiquidityPool (f p).pool_id)) +ℤ both_of p a b x)
  has_more x =
      (λ i. of_asset x (rises.keeps.params i).asset_a (rises.first i)
      +ℤ of_asset x (rises.keeps.params i).asset_b (rises.second i))
      ∙ more_of (is_eq (asset_cmp x p.params.asset_a)) (is_eq (asset_cmp x p.params.asset_b)) p.reserve_a p.reserve_b
      a b
      ∙ ap (λ n. n +ℤ both_of p a b x) (sym (had x))

  -- No account changes, and the pool holds so much more.
  pub pool_left : Leaves base (under_key at (both_of p a b)) m (with_pool m pool f)
  pool_left =
      let e = with_pool_body found.0 (f p) in
      subst (Leaves base (under_key at (both_of p a b)) m) (sym (with_pool_is m pool f p found.0 found.1))
      (accounts_kept base (under_key at (both_of p a b)) m (put m e) (keyed_put m e keyed)
      (put_beside m e (λ other same. absurd (cc)))
      (subst (λ q. HoldsMore (under_key q (both_of p a b)) m (put m e)) its_key
      (put_holds m e (both_of p a b) has_more)))
