-- That what counts a line of shares can count one less where the line exists, and one more where no count is full.
use Rattle.op_trust.proofs.Prelude.{◌≡◌, ◌≢◌, refl, sym, ap, subst, ◌∙◌, ℕ, Bool, true, false, if◌then◌else◌, not, ◌||◌}
use Rattle.op_trust.proofs.Prelude.{Option, Some, None, Ok, arith, LedgerEntry, line_at, pool_of, pool_at}
use Rattle.op_trust.proofs.Prelude.{map_after_adding, map_after_counting, sponsored_entry, open_sponsor}
use Rattle.op_trust.proofs.Prelude.{subentry_tests_at, IsReady, needed_line, DoesCountFit, DoUsesFitAt, DoLinesFit}
use Rattle.op_trust.proofs.Prelude.{DoShareLinesFit, empty_pool, map_with_pool, map_with_pool_by, are_same_params}
use Rattle.op_trust.proofs.Prelude.{is_taken, is_pool_bad, is_used_fully, is_used_fully_at, is_held_fully}
use Rattle.std.proofs.lemmas.Int.{ints}
use Rattle.std.specs.Ordering.{int_eq, is_eq, is_lt}
use Rattle.std.specs.FinMap.{get}
use Rattle.ledger_types.specs.KeyOrder.{asset_cmp}
use Rattle.ledger_types.specs.Keys.{key_of}
use Rattle.entry_map.specs.EntryMap.{EntryMap, put}
use Rattle.entry_slots.specs.Accounts.{account_of, account_at}
use Rattle.entry_slots.specs.LineExtensions.{use_count}
use Rattle.sponsor_rules.specs.reserve_rules.Reserve.{greatest_i64}
use Rattle.sponsor_rules.specs.Counting.{with_more}
use Rattle.sponsor_rules.specs.Paying.{map_after_charging, with_subentry, with_more_paid}
use Rattle.sponsor_rules.proofs.Keeping.{with_count_core}
use Rattle.trade_cross.proofs.sponsor_laws_proofs.Bounds.{done_by}
use Rattle.trade_cross.specs.legal_rules.Holdings.{IsKeyed}
use Rattle.trade_cross.specs.legal_rules.ShareLaws.{share_line}
use Rattle.entry_map.proofs.Lookups.{put_elsewhere, put_there}
use Rattle.ledger_types.proofs.Arithmetic.{int_eq_true}
use Rattle.std.specs.Prelude.{int_le, ℤ, pos, neg_ℤ, ◌≤ℤ◌}
use Rattle.ledger_types.specs.declared.ids.AccountId.{AccountId}
use Rattle.ledger_types.specs.declared.ids.Hash.{Hash}
use Rattle.ledger_types.specs.declared.asset.PoolParams.{PoolParams}
use Rattle.ledger_types.specs.declared.asset.TrustLineAsset.TheVariants as line
use Rattle.ledger_types.specs.declared.account.AccountEntry.{AccountEntry}
use Rattle.ledger_types.specs.declared.trust_line.TrustLineEntry.{TrustLineEntry}
use Rattle.ledger_types.specs.declared.liquidity_pool.LiquidityPoolEntry.{LiquidityPoolEntry}
use Rattle.ledger_types.specs.declared.key.LedgerKey.{LedgerKey}
use Rattle.ledger_types.specs.declared.key.LedgerKey.TheVariants as key
use Rattle.valid_values.specs.Assets.{is_valid_asset}
use Rattle.entry_map.proofs.Pairs.{tied}
use Rattle.sponsor_rules.specs.declared.context.Ctx.{Ctx}
use Rattle.sponsor_rules.specs.declared.count.Count.TheVariants.{SubEntries, Sponsoring, Sponsored}
use Rattle.trade_cross.specs.legal_rules.PoolLaws.{new_pool}
use Rattle.trade_cross.proofs.legal_rules_proofs.Leaving.{keyed_put}
use Rattle.trade_cross.specs.Locations.{DoesFit}
use Rattle.pool_shares.specs.Premises.{ArePoolsSound}
use Rattle.pool_shares.proofs.Beside.{account_beside, account_keyed}
use Rattle.pool_shares.proofs.Uses.{IsPlain, fits_beside, lines_still}
use Rattle.ledger_types.proofs.KeyOrdering.{same_assets}

-- ---- one line less

both_asked : (a b : Bool) (c : Bool) → not (if a then (if b then c else false) else false) ≡ false
    → (a ≡ true) × (b ≡ true) × (c ≡ true)
both_asked true true true is = (refl, refl, refl)
both_asked true true false is = absurd (cc)
both_asked true false c is = absurd (cc)
both_asked false b c is = absurd (cc)

pub same_params : (a b : PoolParams) → not (are_same_params a b) ≡ false → a ≡ b
same_params a b is =
    let same = both_asked (is_eq (asset_cmp a.asset_a b.asset_a)) (is_eq (asset_cmp a.asset_b b.asset_b))
    (int_eq a.fee b.fee) is in
    let first = same_assets a.asset_a b.asset_a same.0 in
    let second = same_assets a.asset_b b.asset_b same.1 in
    let fee = int_eq_true a.fee b.fee same.2 in
    λ i. record { asset_a = first i; asset_b = second i; fee = fee i }

module _ (params : PoolParams) (id : AccountId) (pool : Hash) (m : EntryMap) (t : TrustLineEntry)
    (sound : ArePoolsSound m) (exists : line_at m id (line.PoolShare pool) ≡ Some t) where
  counted_by : (o : Option LiquidityPoolEntry) → pool_at m pool ≡ o → is_taken params o ≡ false
      → DoShareLinesFit (neg_ℤ (pos 1)) id pool params m
  counted_by None is free = absurd (sound.pooled id pool t exists is)
  counted_by (Some p) is free = subst (λ x. DoShareLinesFit (neg_ℤ (pos 1)) id pool x m)
      (same_params p.params params free) (sound.counted id pool t p exists is)

  pub one_less : is_taken params (pool_at m pool) ≡ false → DoShareLinesFit (neg_ℤ (pos 1)) id pool params m
  one_less free = counted_by (pool_at m pool) refl free

-- ---- one line more, where no count is full

not_full : (n most : ℤ) → int_le most n ≡ false → pos 0 ≤ℤ n → most ≡ pos 2147483647 → DoesCountFit n (pos 1)
not_full n most below low is = record {
  low = omega (arith, ints);
  high = λ some. omega (arith, ints);
}

more_uses_at : (m : EntryMap) → ArePoolsSound m → (o : Option LedgerKey) → is_used_fully_at m o ≡ false
    → DoUsesFitAt (pos 1) m o
more_uses_at m sound (Some (key.TrustLine id held)) below = λ t exists.
    not_full (use_count t) (pos 2147483647) (sym (ap is_used_fully exists) ∙ below) (sound.uses id held t exists) refl
more_uses_at m sound other below = tt

more_lines : (m : EntryMap) → ArePoolsSound m → (pool : Hash) → is_held_fully (pool_at m pool) ≡ false
    → DoLinesFit (pos 1) pool m
more_lines m sound pool below p exists =
    let low = (sound.ranges pool p exists).lines in
    let free : int_le greatest_i64 p.pool_shares_trust_line_count ≡ false = sym (ap is_held_fully exists) ∙ below in
    lines_below p.pool_shares_trust_line_count free low
  where
    lines_below : (n : ℤ) → int_le greatest_i64 n ≡ false → pos 0 ≤ℤ n → DoesFit n (pos 1)
    lines_below n free low = record { low = omega (arith, ints); high = λ some. omega (arith, ints) }

either_bad : (a b c d : Bool) → (a || b || not c || d) ≡ false → c ≡ true
either_bad false false true false is = refl
either_bad true b c d is = absurd (cc)
either_bad false true c d is = absurd (cc)
either_bad false false false d is = absurd (cc)
either_bad false false true true is = absurd (cc)

assets_apart : (params : PoolParams) → is_pool_bad params ≡ false → params.asset_a ≢ params.asset_b
assets_apart params good same =
    let below = either_bad (not (is_valid_asset params.asset_a)) (not (is_valid_asset params.asset_b))
    (is_lt (asset_cmp params.asset_a params.asset_b)) (not (int_eq params.fee (pos 30))) good in
    let tie = ap is_lt (tied params.asset_a params.asset_b same) in
    absurd (cc)

pub one_more : (params : PoolParams) (id : AccountId) (pool : Hash) (m : EntryMap) → ArePoolsSound m
    → is_pool_bad params ≡ false → is_used_fully_at m (needed_line id params.asset_a) ≡ false
    → is_used_fully_at m (needed_line id params.asset_b) ≡ false → is_held_fully (pool_at m pool) ≡ false
    → DoShareLinesFit (pos 1) id pool params m
one_more params id pool m sound good a b lines = record {
  keyed = sound.keyed;
  apart = assets_apart params good;
  a = more_uses_at m sound (needed_line id params.asset_a) a;
  b = more_uses_at m sound (needed_line id params.asset_b) b;
  lines = more_lines m sound pool lines;
}

-- ---- the pool that is made where it doesn't exist

module _ (seq : ℕ) (pool : Hash) (params : PoolParams) (m : EntryMap) where
  abbrev made : LedgerEntry
  made = new_pool seq (empty_pool pool params)

  empty_lines : DoLinesFit (pos 1) pool (put m made)
  unfolding pool_at
  empty_lines p exists =
      let here : Some (empty_pool pool params) ≡ Some p = sym (ap pool_of (put_there m made)) ∙ exists in
      let same : empty_pool pool params ≡ p = cc in
      subst (λ (x : LiquidityPoolEntry). DoesFit x.pool_shares_trust_line_count (pos 1)) same
      (record { low = omega (arith, ints); high = λ some. omega (arith, ints) })

  pool_by : (id : AccountId) → DoShareLinesFit (pos 1) id pool params m → (o : Option LiquidityPoolEntry)
      → DoShareLinesFit (pos 1) id pool params (map_with_pool_by seq pool params m o)
  pool_by id fits (Some p) = fits
  pool_by id fits None =
      fits_beside (pos 1) id pool params m (put m made) fits (keyed_put m made fits.keyed)
      (λ owner held plain. put_elsewhere m made (key.TrustLine owner held) (λ same. absurd (cc))) empty_lines

  pub with_pool_fits : (id : AccountId) → DoShareLinesFit (pos 1) id pool params m
      → DoShareLinesFit (pos 1) id pool params (map_with_pool seq pool params m)
  with_pool_fits id fits = pool_by id fits (pool_at m pool)

  ready_by : (id : AccountId) → IsReady m id → (o : Option LiquidityPoolEntry)
      → IsReady (map_with_pool_by seq pool params m o) id
  unfolding account_at
  ready_by id ready (Some p) = ready
  ready_by id ready None = λ a exists. ready a
      (sym (ap account_of (put_elsewhere m made (key.Account id) (λ same. absurd (cc)))) ∙ exists)

  pub still_ready : (id : AccountId) → IsReady m id → IsReady (map_with_pool seq pool params m) id
  still_ready id ready = ready_by id ready (pool_at m pool)

-- ---- the line that is added

more_paid : (k : ℕ) (sponsor : Option AccountId) (a : AccountEntry)
    → (with_more_paid k sponsor a).account_id ≡ a.account_id
more_paid k None a = refl
more_paid k (Some sponsor) a = (with_count_core Sponsored _ a).id

one_subentry : (k : ℕ) (sponsor : Option AccountId) (a : AccountEntry)
    → (with_subentry k sponsor a).account_id ≡ a.account_id
one_subentry k sponsor a = more_paid k sponsor (with_more SubEntries k a) ∙ (with_count_core SubEntries _ a).id

charged_beside : (k : ℕ) (sponsor : Option AccountId) (m : EntryMap) → IsKeyed m → (q : LedgerKey)
    → ((x : AccountId) → q ≢ key.Account x) → get (map_after_charging k sponsor m) q ≡ get m q
charged_beside k None m keyed q plain = refl
charged_beside k (Some sponsor) m keyed q plain =
    account_beside m keyed sponsor (with_more Sponsoring k) (λ a. (with_count_core Sponsoring _ a).id) q
    (plain sponsor)

charged_keyed : (k : ℕ) (sponsor : Option AccountId) (m : EntryMap) → IsKeyed m
    → IsKeyed (map_after_charging k sponsor m)
charged_keyed k None m keyed = keyed
charged_keyed k (Some sponsor) m keyed = account_keyed m sponsor (with_more Sponsoring k) keyed

module _ (ctx : Ctx) (seq : ℕ) (id : AccountId) (pool : Hash) (limit : ℤ) (m : EntryMap) (keyed : IsKeyed m) where
  abbrev new_line : LedgerEntry
  new_line = share_line seq None id pool (pos 0) limit

  abbrev sponsor : Option AccountId
  sponsor = open_sponsor ctx id

  abbrev counted : EntryMap
  counted = map_after_counting id 2 sponsor m

  abbrev put_line : LedgerEntry
  put_line = sponsored_entry sponsor new_line

  same_key : (s : Option AccountId) → key_of (sponsored_entry s new_line) ≡ key.TrustLine id (line.PoolShare pool)
  same_key None = refl
  same_key (Some x) = refl

  counted_keyed : IsKeyed counted
  counted_keyed = account_keyed (map_after_charging 2 sponsor m) id (with_subentry 2 sponsor)
      (charged_keyed 2 sponsor m keyed)

  added_beside : (q : LedgerKey) → ((x : AccountId) → q ≢ key.Account x) → q ≢ key.TrustLine id (line.PoolShare pool)
      → get (put counted put_line) q ≡ get m q
  added_beside q plain apart =
      put_elsewhere counted put_line q (λ same. apart (same ∙ same_key sponsor))
      ∙ account_beside (map_after_charging 2 sponsor m) (charged_keyed 2 sponsor m keyed) id (with_subentry 2 sponsor)
      (one_subentry 2 sponsor) q (plain id)
      ∙ charged_beside 2 sponsor m keyed q plain

  pub with_line_fits : (params : PoolParams) (new : EntryMap) → map_after_adding ctx id new_line m ≡ Ok new
      → DoShareLinesFit (pos 1) id pool params m → DoShareLinesFit (pos 1) id pool params new
  with_line_fits params new is fits =
      let done = done_by (subentry_tests_at ctx m id 2) (put counted put_line) new is in
      subst (DoShareLinesFit (pos 1) id pool params) done
      (fits_beside (pos 1) id pool params m (put counted put_line) fits (keyed_put counted put_line counted_keyed)
      (λ owner held plain. added_beside (key.TrustLine owner held) (λ x same. absurd (cc))
      (λ same. subst IsPlain same plain))
      (lines_still (pos 1) m (put counted put_line) pool
      (added_beside (key.LiquidityPool pool) (λ x same. absurd (cc)) (λ same. absurd (cc))) fits.lines))
