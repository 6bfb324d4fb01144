-- What remains of a pool and of an account's line of its shares, once these have changed.
use Rattle.pool_shares.proofs.Prelude as prelude
use prelude.{◌≡◌, ◌≢◌, refl, sym, ap, subst, ◌∙◌, Some, get, ℤ, AccountId, Hash, TrustLineEntry, LiquidityPoolEntry}
use prelude.{LedgerKey, EntryMap, line_of, line_at, pool_at, IsKeyed, line_paid, paying, DoesFit, DoLinesFit}
use prelude.{DoShareLinesFit, share_key, with_change, map_with_shares, option_map, own_key, with_there, lines_exact}
use prelude.{pools_exact, with_line, with_pool}
use Rattle.ledger_types.specs.declared.asset.TrustLineAsset.TheVariants as line
use Rattle.ledger_types.specs.declared.key.LedgerKey.TheVariants as key
use Rattle.pool_shares.proofs.Beside.{paying_beside, paying_keyed, pool_beside, pool_keyed}
use Rattle.pool_shares.proofs.Sharing.{pool_still}
use Rattle.pool_shares.proofs.Uses.{IsPlain, fits_beside}

module _ (m : EntryMap) (keyed : IsKeyed m) (id : AccountId) (pool : Hash) (a b shares : ℤ) where
  abbrev paid : EntryMap
  paid = paying (share_key id pool) shares m

  abbrev now : EntryMap
  now = map_with_shares id pool a b shares m

  paid_keyed : IsKeyed paid
  paid_keyed = paying_keyed m keyed (share_key id pool) shares

  pub shared_keyed : IsKeyed now
  shared_keyed = pool_keyed paid pool (with_change a b shares) paid_keyed

  -- each other entry stays as it was
  pub shared_beside : (q : LedgerKey) → q ≢ key.LiquidityPool pool → q ≢ key.TrustLine id (line.PoolShare pool)
      → get now q ≡ get m q
  shared_beside q no_pool no_line =
      pool_beside paid paid_keyed pool (with_change a b shares) (λ p. refl) q no_pool
      ∙ paying_beside m keyed (share_key id pool) shares q (λ same. no_line (cc))

  pub line_now : (t : TrustLineEntry) → line_at m id (line.PoolShare pool) ≡ Some t
      → line_at now id (line.PoolShare pool) ≡ Some (line_paid shares t)
  unfolding line_at with_line
  line_now t has =
      let k = key.TrustLine id (line.PoolShare pool) in
      ap line_of (pool_beside paid paid_keyed pool (with_change a b shares) (λ p. refl) k (λ same. absurd (cc)))
      ∙ with_there lines_exact m k (line_paid shares) (λ x. own_key lines_exact m k x (keyed k))
      ∙ ap (option_map (line_paid shares)) has

  module _ (p : LiquidityPoolEntry) (exists : pool_at m pool ≡ Some p) where
    pub pool_now : pool_at now pool ≡ Some (with_change a b shares p)
    unfolding pool_at with_pool
    pool_now =
        let k = key.LiquidityPool pool in
        with_there pools_exact paid k (with_change a b shares) (λ x. own_key pools_exact paid k x (paid_keyed k))
        ∙ ap (option_map (with_change a b shares)) (pool_still m keyed id pool shares p exists)

    -- what counts a line of shares can count as many more as it could
    pub shared_fits : (n : ℤ) → DoShareLinesFit n id pool p.params m → DoShareLinesFit n id pool p.params now
    shared_fits n fits = fits_beside n id pool p.params m now fits shared_keyed
        (λ owner held plain. shared_beside (key.TrustLine owner held) (λ same. absurd (cc))
        (λ same. subst IsPlain same plain)) lines
      where
        lines : DoLinesFit n pool now
        lines x there =
            let same : with_change a b shares p ≡ x = (let is : Some (with_change a b shares p) ≡ Some x =
            sym pool_now ∙ there in cc) in
            subst (λ (q : LiquidityPoolEntry). DoesFit q.pool_shares_trust_line_count n) same (fits.lines p exists)
