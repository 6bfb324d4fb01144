-- Pools that are made and removed.
use Rattle.legal_rules.proofs.Prelude as prelude
use prelude.{◌≡◌, inl, inr, refl, sym, ap, ◌∙◌, ℕ, Bool, true, false, Option, Some, None, arith, ints, ℤ, pos, ◌+ℤ◌}
use prelude.{◌-ℤ◌, ◌≤ℤ◌, ◌<ℤ◌, if◌then◌else◌, get, Hash, TrustLineAsset, LiquidityPoolEntry, LedgerEntry}
use prelude.{LedgerEntryBody, LedgerKey, key_of, EntryMap, put, erase, sponsor_of, total, part, EachEntry, put_each}
use prelude.{erase_each, total_put, total_erase, total_same, total_none, is_key, for_key, for_account, Pools}
use prelude.{pool_named, shares_in, share_lines, uses, uses_by, uses_of, Kind, Sponsoring, Shares, ShareLines, Uses}
use prelude.{View, stated, counted, stated_at, held, offer_with, IsFilledOrEmpty, params_of, view, pools_in, weight}
use prelude.{nothing_owed, IsEntryLegal, IsLegalOwing, erase_get, put_get, if_zero, zero_sub_if_zero, zeros_add_to_zero}
use Rattle.hash_ids.specs.ledger_types.declared.asset.TrustLineAsset.TheVariants as line
use Rattle.hash_ids.specs.ledger_types.declared.entry.LedgerEntryBody.TheVariants as body
use Rattle.hash_ids.specs.ledger_types.declared.key.LedgerKey.TheVariants as key
use Rattle.legal_rules.specs.PoolLaws.{new_pool, IsNewPool, NewPoolsKeep, RemovedPoolsKeep}
use Rattle.legal_rules.proofs.Changed.{pool_entry, with_pool_body}
use Rattle.legal_rules.proofs.Legality.{owing_nothing, legal_of}
use Rattle.legal_rules.proofs.Merging.{nothing_counts}
use Rattle.legal_rules.proofs.Weighing.{total_of}

one_if : (t : Bool) → (if t then pos 1 else pos 0) ≡ pos 0 → t ≡ false
one_if true none = absurd (omega (arith, ints))
one_if false none = refl

added : (new was old is : ℤ) → (new +ℤ was) ≡ (old +ℤ is) → was ≡ pos 0 → is ≡ pos 0 → new ≡ old
added new was old is put nothing none = omega (arith, ints)

still_one : (new was old is : ℤ) → (new +ℤ was) ≡ (old +ℤ is) → was ≡ pos 0 → is ≡ pos 0 → old ≤ℤ pos 1 → new ≤ℤ pos 1
still_one new was old is put nothing none le = omega (arith, ints)

same_without_zero : (new was old : ℤ) → (new +ℤ was) ≡ old → was ≡ pos 0 → new ≡ old
same_without_zero new was old erased none = omega (arith, ints)

at_most_one_without_zero : (new was old : ℤ) → (new +ℤ was) ≡ old → was ≡ pos 0 → old ≤ℤ pos 1 → new ≤ℤ pos 1
at_most_one_without_zero new was old erased none le = omega (arith, ints)

-- ---- lines don't use a pool that none is of

module _ (old now : Pools) (its_key : LedgerKey)
    (same : (id : Hash) → is_key (key.LiquidityPool id) its_key ≡ false → now id ≡ old id) where
  same_uses : (k : LedgerKey) (b : LedgerEntryBody) → share_lines its_key b ≡ pos 0 → uses now k b ≡ uses old k b
  same_uses k (body.TrustLine t) none = by_asset t.asset none
    where
      by_asset : (a : TrustLineAsset) → share_lines its_key (body.TrustLine (record t { asset = a })) ≡ pos 0
          → uses_by now k t.account_id a ≡ uses_by old k t.account_id a
      by_asset (line.PoolShare id) none = ap (uses_of k t.account_id) (same id (one_if _ none))
      by_asset other none = refl
  same_uses k other none = refl

  same_weight : (v : View) → v.pools ≡ old → (kind : Kind) (k : LedgerKey) (x : LedgerEntry)
      → share_lines its_key x.body ≡ pos 0 → weight (record v { pools = now }) kind k x ≡ weight v kind k x
  same_weight v is Uses k x none = ap (λ n. n -ℤ (if is_key (key_of x) k then stated Uses x.body else pos 0))
      (same_uses k x.body none ∙ ap (λ p. uses p k x.body) (sym is))
  same_weight v is kind k x none = refl

-- a pool counts for nothing, and states its shares and lines
pool_weighs : (v : View) (e : LedgerEntry) (p : LiquidityPoolEntry) → sponsor_of e ≡ None → p.total_pool_shares ≡ pos 0
    → p.pool_shares_trust_line_count ≡ pos 0 → (kind : Kind) (k : LedgerKey)
    → weight v kind k (with_pool_body e p) ≡ pos 0
pool_weighs v e p unpaid shares lines Shares k = zero_sub_if_zero
    (is_key (key.LiquidityPool p.pool_id) k) p.total_pool_shares shares
pool_weighs v e p unpaid shares lines ShareLines k = zero_sub_if_zero (is_key (key.LiquidityPool p.pool_id) k)
    p.pool_shares_trust_line_count lines
pool_weighs v e p unpaid shares lines Sponsoring k =
    (λ i. (for_account k (unpaid i) 0 +ℤ pos 0) -ℤ (if is_key (key.LiquidityPool p.pool_id) k then pos 0 else pos 0))
    ∙ zero_sub_if_zero (is_key (key.LiquidityPool p.pool_id) k) (pos 0) refl
pool_weighs v e p unpaid shares lines kind k = zero_sub_if_zero (is_key (key.LiquidityPool p.pool_id) k) (pos 0) refl

pool_holds : (v : View) (e : LedgerEntry) (p : LiquidityPoolEntry) → p.reserve_a ≡ pos 0 → p.reserve_b ≡ pos 0
    → held v.asset (with_pool_body e p) ≡ pos 0
pool_holds v e p a b = zeros_add_to_zero _ _ (if_zero _ p.reserve_a a) (if_zero _ p.reserve_b b)

-- ---- a new pool

module _ (v : View) (id_pool : ℕ) (sum : ℤ) (m : EntryMap) (seq : ℕ) (pool : LiquidityPoolEntry)
    (legal : IsLegalOwing v id_pool nothing_owed sum m) (free : get m (key.LiquidityPool pool.pool_id) ≡ None)
    (new : IsNewPool pool) where
  abbrev its_key : LedgerKey
  its_key = key.LiquidityPool pool.pool_id

  abbrev e : LedgerEntry
  e = new_pool seq pool

  abbrev now : Pools
  now = pools_in (put m e)

  abbrev later : View
  later = record v { pools = now }

  same_elsewhere : (id : Hash) → is_key (key.LiquidityPool id) its_key ≡ false → now id ≡ v.pools id
  same_elsewhere id apart = ap params_of (put_get m e (key.LiquidityPool id))
      ∙ (λ i. params_of (if apart i then Some e else get m (key.LiquidityPool id))) ∙ legal.params id

  -- no line is of the pool yet, so no weight changes
  no_lines : EachEntry (λ k x. share_lines its_key x.body ≡ pos 0) m
  no_lines = nothing_counts v id_pool sum m legal ShareLines its_key (ap (stated_at ShareLines) free)

  weighs : (kind : Kind) (k : LedgerKey) → weight later kind k e ≡ pos 0
  weighs = pool_weighs later e pool refl new.shares new.lines

  pub pool_put : IsEntryLegal id_pool e → IsLegalOwing later id_pool nothing_owed sum (put m e)
  pool_put range = record {
    params = λ id. refl;
    keyed = put_each (λ k x. key_of x ≡ k) m e legal.keyed refl;
    entries = put_each (λ k x. IsEntryLegal id_pool x) m e legal.entries range;
    offers = λ id. still_one _ _ _ (offer_with id e) (total_put (offer_with id) m e)
        (ap (part (offer_with id)) free) refl
        (legal.offers id);
    aggregates = λ kind k. added _ _ _ (weight later kind k e) (total_put (weight later kind k) m e)
        (ap (part (weight later kind k)) free) (weighs kind k)
        ∙ total_same (weight later kind k) (weight v kind k) m
        (λ q x there. same_weight v.pools now its_key same_elsewhere v refl kind k x (no_lines q x there))
        ∙ legal.aggregates kind k;
    supply = added _ _ _ (held v.asset e) (total_put (held v.asset) m e) (ap (part (held v.asset)) free)
        (pool_holds v e pool new.reserve_a new.reserve_b) ∙ legal.supply;
  }

pub new_pools_keep : NewPoolsKeep
new_pools_keep h m seq pool legal free range new =
    let coins = h.total_coins -ℤ h.fee_pool in
    legal_of h (pools_in (put m (new_pool seq pool))) _ legal.header
    (pool_put (view m) h.id_pool coins m seq pool (owing_nothing h m legal) free new (record {
      range = record { body = range; paid = refl };
      bound = tt;
      few = tt;
      fits = tt;
      filled = inr (new.reserve_a, new.reserve_b, new.shares);
    }))

-- ---- a pool that is erased

named_none : (o : Option LedgerKey) (k : LedgerKey) (n : ℤ) → for_key k o (pos 1) ≡ pos 0 → for_key k o n ≡ pos 0
named_none None k n none = refl
named_none (Some q) k n none = ap (λ t. if t then n else pos 0) (one_if (is_key q k) none)

no_shares : (k : LedgerKey) (b : LedgerEntryBody) → share_lines k b ≡ pos 0 → shares_in k b ≡ pos 0
no_shares k (body.TrustLine t) none = named_none (pool_named t.asset) k t.balance none
no_shares k other none = refl

is_stated : (all states n : ℤ) → all ≡ (pos 0 +ℤ states) → states ≡ n → all ≡ pos 0 → n ≡ pos 0
is_stated all states n is same none = omega (arith, ints)

low_apart : (n : ℤ) → pos 0 <ℤ n → n ≡ pos 0 → ⊥
low_apart n low none = omega (arith, ints)

module _ (v : View) (id_pool : ℕ) (sum : ℤ) (m : EntryMap) (id : Hash) (e : LedgerEntry) (pool : LiquidityPoolEntry)
    (legal : IsLegalOwing v id_pool nothing_owed sum m)
    (there : get m (key.LiquidityPool id) ≡ Some (with_pool_body e pool))
    (lines : pool.pool_shares_trust_line_count ≡ pos 0) where
  abbrev k0 : LedgerKey
  k0 = key.LiquidityPool id

  abbrev e0 : LedgerEntry
  e0 = with_pool_body e pool

  abbrev after : Pools
  after = pools_in (erase m k0)

  abbrev later_on : View
  later_on = record v { pools = after }

  was : IsEntryLegal id_pool e0
  was = legal.entries k0 e0 there

  without_lines : EachEntry (λ k x. share_lines k0 x.body ≡ pos 0) m
  without_lines = nothing_counts v id_pool sum m legal ShareLines k0 (ap (stated_at ShareLines) there ∙ lines)

  shares : pool.total_pool_shares ≡ pos 0
  shares = is_stated (total (counted v Shares k0) m) (stated_at Shares (get m k0)) pool.total_pool_shares
      (total_of v (IsEntryLegal id_pool) nothing_owed sum m legal Shares k0) (ap (stated_at Shares) there)
      (total_none (counted v Shares k0) m (λ q x at. no_shares k0 x.body (without_lines q x at)))

  empty_by : IsFilledOrEmpty (body.LiquidityPool pool) → (pool.reserve_a ≡ pos 0) × (pool.reserve_b ≡ pos 0)
  empty_by (inl filled) = absurd (low_apart pool.total_pool_shares filled.2 shares)
  empty_by (inr nothing) = (nothing.0, nothing.1)

  same_after : (i : Hash) → is_key (key.LiquidityPool i) k0 ≡ false → after i ≡ v.pools i
  same_after i apart = ap params_of (erase_get m k0 (key.LiquidityPool i))
      ∙ (λ j. params_of (if apart j then None else get m (key.LiquidityPool i))) ∙ legal.params i

  holds_nothing : held v.asset e0 ≡ pos 0
  holds_nothing = pool_holds v e pool (empty_by was.filled).0 (empty_by was.filled).1

  pub pool_erased : IsLegalOwing later_on id_pool nothing_owed sum (erase m k0)
  pool_erased = record {
    params = λ i. refl;
    keyed = erase_each (λ k x. key_of x ≡ k) m k0 legal.keyed;
    entries = erase_each (λ k x. IsEntryLegal id_pool x) m k0 legal.entries;
    offers = λ n. at_most_one_without_zero (total (offer_with n) (erase m k0)) (part (offer_with n) (get m k0))
        (total (offer_with n) m)
        (total_erase (offer_with n) m k0) (ap (part (offer_with n)) there) (legal.offers n);
    aggregates = λ kind k. same_without_zero _ _ _ (total_erase (weight later_on kind k) m k0)
        (ap (part (weight later_on kind k)) there ∙ pool_weighs later_on e pool was.range.paid shares lines kind k)
        ∙ total_same (weight later_on kind k) (weight v kind k) m
        (λ q x at. same_weight v.pools after k0 same_after v refl kind k x (without_lines q x at))
        ∙ legal.aggregates kind k;
    supply = same_without_zero _ _ _ (total_erase (held v.asset) m k0) (ap (part (held v.asset)) there ∙ holds_nothing)
        ∙ legal.supply;
  }

pub removed_pools_keep : RemovedPoolsKeep
removed_pools_keep h m id pool legal exists lines =
    let found = pool_entry m id pool exists in
    legal_of h (pools_in (erase m (key.LiquidityPool id))) _ legal.header
    (pool_erased (view m) h.id_pool (h.total_coins -ℤ h.fee_pool) m id found.0 pool (owing_nothing h m legal)
    (found.1.there ∙ ap Some (λ i. record found.0 { body = found.1.is i })) lines)
