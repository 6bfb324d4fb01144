-- Shares of a pool that an account takes or gives back, with amounts of both assets: the state stays legal.
use Rattle.pool_shares.proofs.Prelude as prelude
use prelude.{◌≡◌, refl, ap, subst, ◌∙◌, ℕ, ◌%◌, Bool, true, false, Some, arith, ints, ℤ, pos, ◌+ℤ◌, ◌-ℤ◌, ◌≤ℤ◌}
use prelude.{if◌then◌else◌, is_eq, AccountId, Hash, Asset, TrustLineAsset, TrustLineEntry, LiquidityPoolEntry}
use prelude.{LedgerKey, asset_cmp, EntryMap, line_liabilities, line_at, pool_of, pool_at, with_pool, IsFilledOrEmpty}
use prelude.{Kind, Shares, ShareLines, View, is_key, IsKeyed, none_more, under_key, nothing_owed, in_aggregate, plus}
use prelude.{IsEntryLegal, IsLegalOwing, of_line, line_changed, pool_changed, Leaves, leaves_as, keeps_then}
use prelude.{IsLegalLine, line_left, line_legal, line_paid, paying, share_key, with_change, map_with_shares, if_zeros}
use Rattle.trade_cross.specs.legal_rules.ChangeLaws.{in_shares}
use Rattle.trade_cross.proofs.legal_rules_proofs.Steps.{legal_as}
use Rattle.ledger_types.specs.declared.asset.TrustLineAsset.TheVariants as line
use Rattle.ledger_types.specs.declared.entry.LedgerEntryBody.TheVariants as body
use Rattle.ledger_types.specs.declared.key.LedgerKey.TheVariants as key
use Rattle.trade_cross.specs.legal_rules.Ranges.{AreLineFlags, IsTrustLineInRange, IsPoolInRange}
pub use Rattle.trade_cross.proofs.PoolsLeft.{both_of}
use Rattle.trade_cross.proofs.PoolsLeft.{pool_left as pool_rises}
use Rattle.pool_shares.proofs.Beside.{paying_beside, paying_keyed}

-- ---- a line of shares that is changed

covered_still : (s n : ℤ) → s ≡ pos 0 → pos 0 ≤ℤ n → s ≤ℤ n
covered_still s n none low = omega (arith, ints)

fits_still : (n b limit : ℤ) → b ≡ pos 0 → n ≤ℤ limit → (n +ℤ b) ≤ℤ limit
fits_still n b limit none le = omega (arith, ints)

-- no offer binds a line of shares, which has no flag
pub shares_unbound : (id : AccountId) (pool : Hash) (t : TrustLineEntry) → IsLegalLine id (line.PoolShare pool) t
    → ((line_liabilities t).selling ≡ pos 0) × ((line_liabilities t).buying ≡ pos 0)
shares_unbound id pool t its =
    let flags : t.flags ≡ 0 = subst (λ a. AreLineFlags a t.flags) its.asset its.range.flags in
    its.bound (ap (λ (f : ℕ). f % 4) flags)

shares_in_range : (id : AccountId) (pool : Hash) (t : TrustLineEntry) (shares : ℤ)
    → IsLegalLine id (line.PoolShare pool) t → pos 0 ≤ℤ (t.balance +ℤ shares) → (t.balance +ℤ shares) ≤ℤ t.limit
    → IsTrustLineInRange (line_paid shares t)
shares_in_range id pool t shares its low le =
    let unbound = shares_unbound id pool t its in
    let was = its.range in
    record {
      range = record {
        balance = low;
        buying = was.range.buying;
        selling = was.range.selling;
        covered = covered_still (line_liabilities t).selling (t.balance +ℤ shares) unbound.0 low;
        fits = fits_still (t.balance +ℤ shares) (line_liabilities t).buying t.limit unbound.1 le;
      };
      limit = was.limit;
      greatest = was.greatest;
      held = was.held;
      flags = was.flags;
      uses = was.uses;
    }

-- ---- what aggregates owe, and what is held in all

cancels : (t : Bool) (b p s : ℤ)
    → ((pos 0 +ℤ (if t then (b +ℤ s) -ℤ b else pos 0)) +ℤ ((if t then p -ℤ (p +ℤ s) else pos 0) +ℤ pos 0)) ≡ pos 0
cancels true b p s = omega (arith, ints)
cancels false b p s = refl

counts_still : (t : Bool) (n : ℤ)
    → ((pos 0 +ℤ pos 0) +ℤ (pos 0 +ℤ (if t then n -ℤ n else pos 0))) ≡ pos 0
counts_still true n = omega (arith, ints)
counts_still false n = refl

-- the pool and the line have so many shares more
nothing_left : (pool : Hash) (held : TrustLineAsset) → held ≡ line.PoolShare pool → (b p s lines : ℤ) (kind : Kind)
    (k : LedgerKey)
    → plus (plus nothing_owed (in_shares held ((b +ℤ s) -ℤ b)))
    (plus (in_aggregate Shares (key.LiquidityPool pool) (p -ℤ (p +ℤ s)))
    (in_aggregate ShareLines (key.LiquidityPool pool) (lines -ℤ lines))) kind k ≡ nothing_owed kind k
nothing_left pool held is b p s lines Shares k =
    ap (λ a. (pos 0 +ℤ in_shares a ((b +ℤ s) -ℤ b) Shares k)
    +ℤ (in_aggregate Shares (key.LiquidityPool pool) (p -ℤ (p +ℤ s)) Shares k +ℤ pos 0)) is
    ∙ cancels (is_key (key.LiquidityPool pool) k) b p s
nothing_left pool held is b p s lines ShareLines k = counts_still (is_key (key.LiquidityPool pool) k) lines
nothing_left pool held is b p s lines kind k = refl

sum_so : (s t : Bool) (sum line_new line_old x y a b : ℤ) → line_new ≡ pos 0 → line_old ≡ pos 0
    → ((sum +ℤ (line_new -ℤ line_old))
    +ℤ ((if s then (x +ℤ a) -ℤ x else pos 0) +ℤ (if t then (y +ℤ b) -ℤ y else pos 0)))
    ≡ (sum +ℤ ((if s then a else pos 0) +ℤ (if t then b else pos 0)))
sum_so true true sum new old x y a b none nothing = omega (arith, ints)
sum_so true false sum new old x y a b none nothing = omega (arith, ints)
sum_so false true sum new old x y a b none nothing = omega (arith, ints)
sum_so false false sum new old x y a b none nothing = omega (arith, ints)

-- a line of shares holds no asset
no_asset_in : (x : Asset) (pool : Hash) (held : TrustLineAsset) (n : ℤ) → held ≡ line.PoolShare pool
    → of_line x held n ≡ pos 0
no_asset_in x pool held n is = ap (λ a. of_line x a n) is

-- ---- the change

-- Shares that an account takes of a pool, or gives back, with amounts of both assets: what they may be.
pub record CanShare (t : TrustLineEntry) (p : LiquidityPoolEntry) (a b shares : ℤ) : Type 0 where
  pub low : pos 0 ≤ℤ (t.balance +ℤ shares)
  pub within : (t.balance +ℤ shares) ≤ℤ t.limit
  pub range : IsPoolInRange (with_change a b shares p)
  pub filled : IsFilledOrEmpty (body.LiquidityPool (with_change a b shares p))

module _ (m : EntryMap) (keyed : IsKeyed m) (id : AccountId) (pool : Hash) (shares : ℤ) where
  abbrev line_now : EntryMap
  line_now = paying (share_key id pool) shares m

  -- the pool stays as it was once the line is changed
  pub pool_still : (p : LiquidityPoolEntry) → pool_at m pool ≡ Some p → pool_at line_now pool ≡ Some p
  unfolding pool_at
  pool_still p exists =
      ap pool_of (paying_beside m keyed (share_key id pool) shares (key.LiquidityPool pool) (λ same. absurd (cc)))
      ∙ exists

module _ (v : View) (id_pool : ℕ) (sum : ℤ) (m : EntryMap) (id : AccountId) (pool : Hash) (t : TrustLineEntry)
    (p : LiquidityPoolEntry) (a b shares : ℤ) where
  -- The state stays legal, with so much more of both assets in all.
  pub sharing_legal : IsLegalOwing v id_pool nothing_owed sum m → line_at m id (line.PoolShare pool) ≡ Some t
      → pool_at m pool ≡ Some p → CanShare t p a b shares
      → IsLegalOwing v id_pool nothing_owed (sum +ℤ both_of p a b v.asset) (map_with_shares id pool a b shares m)
  sharing_legal legal has exists can =
      let its = line_legal v id_pool nothing_owed sum m id (line.PoolShare pool) t legal has in
      let first = line_changed v id_pool nothing_owed sum m id (line.PoolShare pool) (line_paid shares) t legal has
      (record { id = refl; asset = refl; liabilities = refl; uses = refl })
      (shares_in_range id pool t shares its can.low can.within) its.bound in
      legal_as v (IsEntryLegal id_pool) _ nothing_owed _ _ (map_with_shares id pool a b shares m)
      (pool_changed v id_pool _ _ (paying (share_key id pool) shares m) pool (with_change a b shares) p first
      (pool_still m legal.keyed id pool shares p exists) (record { id = refl; params = refl }) can.range can.filled)
      (nothing_left pool t.asset its.asset t.balance p.total_pool_shares shares p.pool_shares_trust_line_count)
      (sum_so (is_eq (asset_cmp v.asset p.params.asset_a)) (is_eq (asset_cmp v.asset p.params.asset_b)) sum
      (of_line v.asset t.asset (t.balance +ℤ shares)) (of_line v.asset t.asset t.balance) p.reserve_a p.reserve_b a b
      (no_asset_in v.asset pool t.asset (t.balance +ℤ shares) its.asset)
      (no_asset_in v.asset pool t.asset t.balance its.asset))

-- ---- what is left

pool_left : (base : ℕ) (m : EntryMap) → IsKeyed m → (pool : Hash) (p : LiquidityPoolEntry)
    → pool_at m pool ≡ Some p → (a b shares : ℤ)
    → Leaves base (under_key (key.LiquidityPool pool) (both_of p a b)) m (with_pool m pool (with_change a b shares))
pool_left base m keyed pool p exists a b shares = pool_rises base m keyed pool (with_change a b shares) p exists a b
    (record { keeps = record { id = refl; params = refl }; first = refl; second = refl })

module _ (base : ℕ) (m : EntryMap) (keyed : IsKeyed m) (id : AccountId) (pool : Hash) (t : TrustLineEntry)
    (p : LiquidityPoolEntry) (has : line_at m id (line.PoolShare pool) ≡ Some t) (exists : pool_at m pool ≡ Some p)
    (a b shares : ℤ) where
  -- The account's line holds shares, and no asset.
  line_holds_none : Leaves base none_more m (paying (share_key id pool) shares m)
  line_holds_none = leaves_as base
      (under_key (key.TrustLine id (line.PoolShare pool))
      (λ x. of_line x (line.PoolShare pool) ((t.balance +ℤ shares) -ℤ t.balance))) none_more m
      (paying (share_key id pool) shares m)
      (line_left m id (line.PoolShare pool) (line_paid shares) t has refl refl base keyed)
      (λ k x. if_zeros (is_key k (key.TrustLine id (line.PoolShare pool))))

  -- No account changes, and the pool holds so much more of both assets.
  pub sharing_left : Leaves base (under_key (key.LiquidityPool pool) (both_of p a b)) m
      (map_with_shares id pool a b shares m)
  sharing_left = keeps_then base (under_key (key.LiquidityPool pool) (both_of p a b)) m
      (paying (share_key id pool) shares m) (map_with_shares id pool a b shares m) line_holds_none
      (pool_left base (paying (share_key id pool) shares m) (paying_keyed m keyed (share_key id pool) shares) pool p
      (pool_still m keyed id pool shares p exists) a b shares)
