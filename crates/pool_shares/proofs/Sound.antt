-- Each legal state has its pools and the lines of their shares in order.
use Rattle.pool_shares.proofs.Prelude as prelude
use prelude.{◌≡◌, ◌≢◌, refl, sym, ap, subst, ◌∙◌, ℕ, Option, Some, None, arith, ints, ℤ, pos, neg_ℤ, ◌+ℤ◌, ◌≤ℤ◌}
use prelude.{if◌then◌else◌, get, Less, Equal, AccountId, Hash, PoolParams, TrustLineAsset, TrustLineEntry}
use prelude.{LiquidityPoolEntry, LedgerEntry, LedgerEntryBody, LedgerKey, asset_cmp, EntryMap, use_count, line_in}
use prelude.{line_of, line_at, pool_in, pool_of, pool_at, total, Kind, Shares, ShareLines, Uses, View, counted, stated}
use prelude.{stated_at, for_key, view, nothing_owed, IsLegalOwing, pool_named, needed_line, shares_in, share_lines}
use prelude.{uses, uses_by, uses_of, held, pool_entry, IsLineEntry, line_entry, IsLegalLine, line_legal, params_known}
use prelude.{DoUsesFitAt, DoShareLinesFit, add_positive_first, add_positive_second, natural_nonnegative}
use prelude.{natural_positive, one_not_at_most_zero}
use Rattle.entry_map.proofs.KeyMaps.{same_itself}
use Rattle.trade_cross.proofs.legal_rules_proofs.Covered.{minimum_not_below}
use Rattle.ledger_types.specs.declared.asset.Asset.TheVariants as asset
use Rattle.ledger_types.specs.declared.asset.TrustLineAsset.TheVariants as line
use Rattle.ledger_types.specs.declared.entry.LedgerEntryBody.TheVariants as body
use Rattle.ledger_types.specs.declared.key.LedgerKey.TheVariants as key
use Rattle.entry_map.proofs.Pairs.{tied}
use Rattle.trade_cross.proofs.legal_rules_proofs.Lows.{for_key_low}
use Rattle.trade_cross.proofs.legal_rules_proofs.Needed.{for_itself}
use Rattle.trade_cross.proofs.legal_rules_proofs.Existing.{counted_stated}
pub use Rattle.trade_cross.proofs.PoolsLegal.{IsLegalPool, pool_legal}
use Rattle.pool_shares.specs.Laws.{EntriesSound}
use Rattle.pool_shares.specs.Premises.{ArePoolsSound}

-- ---- a pool that exists

-- the two assets of a pool are two
pub assets_apart : (params : PoolParams) → asset_cmp params.asset_a params.asset_b ≡ Less
    → params.asset_a ≢ params.asset_b
assets_apart params below same = let equal : asset_cmp params.asset_a params.asset_b ≡ Equal =
    tied params.asset_a params.asset_b same in absurd (cc)

-- ---- numbers

at_most_from_equal : (x y : ℤ) → x ≡ y → y ≤ℤ x
at_most_from_equal x y same = omega (arith, ints)

one_of : (x n : ℤ) → x ≡ n → pos 1 ≤ℤ n → pos 1 ≤ℤ x
one_of x n same some = omega (arith, ints)

one_less : (states n : ℤ) → states ≡ n → pos 1 ≤ℤ states → pos 0 ≤ℤ (n +ℤ neg_ℤ (pos 1))
one_less states n same some = omega (arith, ints)

never_more : pos 1 ≤ℤ neg_ℤ (pos 1) → ⊥
never_more more = omega (arith, ints)

-- all is for the one that is named
entire : (k : LedgerKey) (n : ℤ) → for_key k (Some k) n ≡ n
entire k n = ap (λ t. if t then n else pos 0) (same_itself k)

-- ---- what is stated

-- what states a line of shares is a pool
pool_by : (b : LedgerEntryBody) → pos 1 ≤ℤ stated ShareLines b → pool_in b ≢ None
pool_by (body.LiquidityPool p) some missing = absurd (cc)
pool_by other some missing = one_not_at_most_zero some

pool_there : (o : Option LedgerEntry) → pos 1 ≤ℤ stated_at ShareLines o → pool_of o ≢ None
pool_there None some missing = one_not_at_most_zero some
pool_there (Some e) some missing = pool_by e.body some missing

pub pool_exists_so : (m : EntryMap) (pool : Hash) → pos 1 ≤ℤ stated_at ShareLines (get m (key.LiquidityPool pool))
    → pool_at m pool ≢ None
unfolding pool_at
pool_exists_so m pool some = pool_there (get m (key.LiquidityPool pool)) some

pool_states : (m : EntryMap) (pool : Hash) (p : LiquidityPoolEntry) (kind : Kind) → pool_at m pool ≡ Some p
    → stated_at kind (get m (key.LiquidityPool pool)) ≡ stated kind (body.LiquidityPool p)
pool_states m pool p kind exists =
    let found = pool_entry m pool p exists in
    ap (stated_at kind) found.1.there ∙ ap (stated kind) found.1.is

line_states : (m : EntryMap) (id : AccountId) (held : TrustLineAsset) (t : TrustLineEntry) (kind : Kind)
    → line_at m id held ≡ Some t
    → stated_at kind (get m (key.TrustLine id held)) ≡ stated kind (body.TrustLine t)
line_states m id held t kind exists =
    let found = line_entry m id held t exists in
    ap (stated_at kind) found.1.there ∙ ap (stated kind) found.1.is

-- what states a use is a line
line_by : (b : LedgerEntryBody) → pos 1 ≤ℤ stated Uses b → (t : TrustLineEntry) × (line_in b ≡ Some t)
line_by (body.TrustLine t) some = (t, refl)
line_by other some = absurd (one_not_at_most_zero some)

line_there : (o : Option LedgerEntry) → pos 1 ≤ℤ stated_at Uses o → (t : TrustLineEntry) × (line_of o ≡ Some t)
line_there None some = absurd (one_not_at_most_zero some)
line_there (Some e) some = line_by e.body some

pub line_exists_so : (m : EntryMap) (id : AccountId) (held : TrustLineAsset)
    → pos 1 ≤ℤ stated_at Uses (get m (key.TrustLine id held)) → (t : TrustLineEntry) × (line_at m id held ≡ Some t)
unfolding line_at
line_exists_so m id held some = line_there (get m (key.TrustLine id held)) some

-- a line that states a use can be used once less
uses_fit : (m : EntryMap) (o : Option LedgerKey)
    → ((k : LedgerKey) → o ≡ Some k → pos 1 ≤ℤ stated_at Uses (get m k)) → DoUsesFitAt (neg_ℤ (pos 1)) m o
uses_fit m (Some (key.TrustLine id held)) some = λ t exists. record {
  low = one_less (stated_at Uses (get m (key.TrustLine id held))) (use_count t) (line_states m id held t Uses exists)
      (some (key.TrustLine id held) refl);
  high = λ more. absurd (never_more more);
}
uses_fit m other some = tt

-- ---- a line of shares

module _ (v : View) (id_pool : ℕ) (sum : ℤ) (m : EntryMap) (legal : IsLegalOwing v id_pool nothing_owed sum m) where
  module _ (id : AccountId) (pool : Hash) (t : TrustLineEntry) (exists : line_at m id (line.PoolShare pool) ≡ Some t)
    where
      abbrev k : LedgerKey
      k = key.LiquidityPool pool

      its : IsLegalLine id (line.PoolShare pool) t
      its = line_legal v id_pool nothing_owed sum m id (line.PoolShare pool) t legal exists

      found : (e : LedgerEntry) × IsLineEntry m id (line.PoolShare pool) t e
      found = line_entry m id (line.PoolShare pool) t exists

      -- what it counts is stated
      states : (kind : Kind) (q : LedgerKey) (n : ℤ) → n ≤ℤ counted v kind q found.0 → n ≤ℤ stated_at kind (get m q)
      states kind q n le = counted_stated v id_pool nothing_owed sum m legal kind q
          (key.TrustLine id (line.PoolShare pool)) found.0 n (natural_nonnegative 0) found.1.there le

      counts_shares : counted v Shares k found.0 ≡ t.balance
      counts_shares =
          ap (shares_in k) found.1.is ∙ ap (λ a. for_key k (pool_named a) t.balance) its.asset ∙ entire k t.balance

      counts_itself : counted v ShareLines k found.0 ≡ pos 1
      counts_itself =
          ap (share_lines k) found.1.is ∙ ap (λ a. for_key k (pool_named a) (pos 1)) its.asset ∙ entire k (pos 1)

      pub line_counted : pos 1 ≤ℤ stated_at ShareLines (get m k)
      line_counted = states ShareLines k (pos 1)
          (one_of (counted v ShareLines k found.0) (pos 1) counts_itself (natural_positive 1 (omega arith)))

      module _ (p : LiquidityPoolEntry) (beside : pool_at m pool ≡ Some p) where
        -- its pool has as many shares
        shares_within : t.balance ≤ℤ p.total_pool_shares
        shares_within = subst (λ n. t.balance ≤ℤ n) (pool_states m pool p Shares beside)
            (states Shares k t.balance (at_most_from_equal (counted v Shares k found.0) t.balance counts_shares))

        counts_uses : (q : LedgerKey) → counted v Uses q found.0
            ≡ (for_key q (needed_line id p.params.asset_a) (pos 1) +ℤ for_key q (needed_line id p.params.asset_b)
            (pos 1))
        counts_uses q =
            ap (uses v.pools q) found.1.is ∙ (λ i. uses_by v.pools q (its.owner i) (its.asset i))
            ∙ ap (uses_of q id) (sym (legal.params pool) ∙ params_known m pool p beside)

        uses_stated : (q : LedgerKey) → pos 1 ≤ℤ (for_key q (needed_line id p.params.asset_a) (pos 1)
            +ℤ for_key q (needed_line id p.params.asset_b) (pos 1)) → pos 1 ≤ℤ stated_at Uses (get m q)
        uses_stated q some = states Uses q (pos 1) (one_of (counted v Uses q found.0) _ (counts_uses q) some)

        -- the lines that its account needs state that they are used
        pub first_used : (q : LedgerKey) → needed_line id p.params.asset_a ≡ Some q → pos 1 ≤ℤ stated_at Uses (get m q)
        first_used q is = uses_stated q (add_positive_first (for_key q (needed_line id p.params.asset_a) (pos 1))
            (for_key q (needed_line id p.params.asset_b) (pos 1))
            (for_itself q (needed_line id p.params.asset_a) (pos 1) is (natural_positive 1 (omega arith)))
            (for_key_low q (needed_line id p.params.asset_b) (pos 1) (natural_nonnegative 1)))

        pub second_used : (q : LedgerKey) → needed_line id p.params.asset_b ≡ Some q
            → pos 1 ≤ℤ stated_at Uses (get m q)
        second_used q is = uses_stated q (add_positive_second (for_key q (needed_line id p.params.asset_a) (pos 1))
            (for_key q (needed_line id p.params.asset_b) (pos 1))
            (for_key_low q (needed_line id p.params.asset_a) (pos 1) (natural_nonnegative 1))
            (for_itself q (needed_line id p.params.asset_b) (pos 1) is (natural_positive 1 (omega arith))))

        -- it can be counted once less
        counts_fit : DoShareLinesFit (neg_ℤ (pos 1)) id pool p.params m
        counts_fit = record {
          keyed = legal.keyed;
          apart = assets_apart p.params (pool_legal v id_pool nothing_owed sum m pool p legal beside).range.assets;
          a = uses_fit m (needed_line id p.params.asset_a) first_used;
          b = uses_fit m (needed_line id p.params.asset_b) second_used;
          lines = λ q there. record {
            low = one_less (stated_at ShareLines (get m k)) q.pool_shares_trust_line_count
                (pool_states m pool q ShareLines there) line_counted;
            high = λ more. absurd (never_more more);
          };
        }

  -- Pools and lines of their shares are in order where nothing is owed.
  pub sound_of : ArePoolsSound m
  sound_of = record {
    keyed = legal.keyed;
    ranges = λ id p exists. (pool_legal v id_pool nothing_owed sum m id p legal exists).range;
    filled = λ id p exists. (pool_legal v id_pool nothing_owed sum m id p legal exists).filled;
    shares = λ id pool t p exists beside. shares_within id pool t exists p beside;
    limits = λ id x t exists. (line_legal v id_pool nothing_owed sum m id x t legal exists).range.greatest;
    minimums = λ id a base_reserve exists.
        minimum_not_below v id_pool nothing_owed sum m id a base_reserve legal (natural_nonnegative 0) exists;
    uses = λ id x t exists. (line_legal v id_pool nothing_owed sum m id x t legal exists).range.uses;
    pooled = λ id pool t exists. pool_exists_so m pool (line_counted id pool t exists);
    counted = λ id pool t p exists beside. counts_fit id pool t exists p beside;
  }

pub entries_sound : EntriesSound
entries_sound id_pool m legal = sound_of (view m) id_pool (total (held asset.Native) m) m legal
