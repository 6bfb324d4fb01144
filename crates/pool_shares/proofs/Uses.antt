-- That the counts of a line of pool shares fit, one after another.
use Rattle.pool_shares.proofs.Prelude.{◌≡◌, ◌≢◌, refl, sym, ap, subst, ◌∙◌, Option, Some, None, ℤ, if◌then◌else◌, get}
use Rattle.pool_shares.proofs.Prelude.{AccountId, Hash, Asset, PoolParams, TrustLineAsset, LedgerKey, EntryMap, line_of}
use Rattle.pool_shares.proofs.Prelude.{line_at, pool_of, pool_at, is_same_account, map_after_removing, IsKeyed}
use Rattle.pool_shares.proofs.Prelude.{with_uses, map_with_uses_at, map_with_uses, DoUsesFitAt, DoUsesFit, DoLinesFit}
use Rattle.pool_shares.proofs.Prelude.{DoShareLinesFit}
use Rattle.trade_cross.specs.legal_rules.Trades.{holder}
use Rattle.std.specs.Prelude.{Bool, true, false}
use Rattle.ledger_types.specs.declared.asset.Asset.TheVariants as asset
use Rattle.ledger_types.specs.declared.asset.TrustLineAsset.TheVariants as line
use Rattle.ledger_types.specs.declared.key.LedgerKey.TheVariants as key
use Rattle.trade_cross.proofs.HoldersApart.{holders_apart}
use Rattle.pool_shares.proofs.Beside.{line_beside, line_keyed, removing_beside, removing_keyed}

-- ---- where an account has an asset

pub uses_by_holder : (n : ℤ) (id : AccountId) (x : Asset) (m : EntryMap)
    → map_with_uses n id x m ≡ map_with_uses_at n (holder id x) m
uses_by_holder n id asset.Native m = refl
uses_by_holder n id (asset.Alphanum4 code issuer) m = refl
uses_by_holder n id (asset.Alphanum12 code issuer) m = refl

pub fits_by_holder : (n : ℤ) (id : AccountId) (x : Asset) (m : EntryMap) → DoUsesFit n id x m
    → DoUsesFitAt n m (holder id x)
fits_by_holder n id asset.Native m fits = tt
fits_by_holder n id (asset.Alphanum4 code issuer) m fits = fits
fits_by_holder n id (asset.Alphanum12 code issuer) m fits = fits

fits_needed : (n : ℤ) (id : AccountId) (x : Asset) (m : EntryMap) → DoUsesFitAt n m (holder id x)
    → DoUsesFit n id x m
fits_needed n id asset.Native m fits = tt
fits_needed n id (asset.Alphanum4 code issuer) m fits = fits
fits_needed n id (asset.Alphanum12 code issuer) m fits = fits

-- ---- a line that is used more

uses_beside : (m : EntryMap) → IsKeyed m → (n : ℤ) (k : Option LedgerKey) (q : LedgerKey) → k ≢ Some q
    → get (map_with_uses_at n k m) q ≡ get m q
uses_beside m keyed n (Some (key.TrustLine id held)) q apart =
    line_beside m keyed id held (with_uses n) (λ t. refl) q (λ same. apart (ap Some (sym same)))
uses_beside m keyed n other q apart = refl

uses_keyed : (m : EntryMap) → IsKeyed m → (n : ℤ) (k : Option LedgerKey) → IsKeyed (map_with_uses_at n k m)
uses_keyed m keyed n (Some (key.TrustLine id held)) = line_keyed m id held (with_uses n) keyed
uses_keyed m keyed n other = keyed

-- ---- what stays as it was

-- uses fit where the line stays as it was
fit_still : (n : ℤ) (m new : EntryMap) (k : Option LedgerKey)
    → ((q : LedgerKey) → k ≡ Some q → get new q ≡ get m q) → DoUsesFitAt n m k → DoUsesFitAt n new k
unfolding line_at
fit_still n m new (Some (key.TrustLine id held)) still fits =
    λ t exists. fits t (sym (ap line_of (still (key.TrustLine id held) refl)) ∙ exists)
fit_still n m new other still fits = tt

pub lines_still : (n : ℤ) (m new : EntryMap) (pool : Hash)
    → get new (key.LiquidityPool pool) ≡ get m (key.LiquidityPool pool) → DoLinesFit n pool m → DoLinesFit n pool new
unfolding pool_at
lines_still n m new pool still fits = λ p exists. fits p (sym (ap pool_of still) ∙ exists)

-- no account has an asset under a pool's key, or in a line of shares
abbrev pub IsPlain : LedgerKey → Type 0
IsPlain (key.LiquidityPool pool) = ⊥
IsPlain (key.TrustLine id (line.PoolShare pool)) = ⊥
IsPlain other = Unit {0}

plain_or_none : (b : Bool) (id : AccountId) (held : TrustLineAsset) (q : LedgerKey) → IsPlain (key.TrustLine id held)
    → (if b then None else Some (key.TrustLine id held)) ≡ Some q → IsPlain q
plain_or_none true id held q plain is = absurd (cc)
plain_or_none false id held q plain is = let same : key.TrustLine id held ≡ q = cc in subst IsPlain same plain

pub holder_plain : (id : AccountId) (x : Asset) (q : LedgerKey) → holder id x ≡ Some q → IsPlain q
holder_plain id asset.Native q is = let same : key.Account id ≡ q = cc in subst IsPlain same tt
holder_plain id (asset.Alphanum4 code issuer) q is =
    plain_or_none (is_same_account issuer id) id (line.Alphanum4 code issuer) q tt is
holder_plain id (asset.Alphanum12 code issuer) q is =
    plain_or_none (is_same_account issuer id) id (line.Alphanum12 code issuer) q tt is

pub no_pool : (id : AccountId) (x : Asset) (pool : Hash) → holder id x ≢ Some (key.LiquidityPool pool)
no_pool id x pool is = holder_plain id x (key.LiquidityPool pool) is

pub no_shares : (id owner : AccountId) (x : Asset) (pool : Hash)
    → holder id x ≢ Some (key.TrustLine owner (line.PoolShare pool))
no_shares id owner x pool is = holder_plain id x (key.TrustLine owner (line.PoolShare pool)) is

-- ---- one count after another

module _ (n : ℤ) (id : AccountId) (pool : Hash) (params : PoolParams) (m : EntryMap)
    (fits : DoShareLinesFit n id pool params m) where
  abbrev first : EntryMap
  first = map_with_uses_at n (holder id params.asset_a) m

  first_is : map_with_uses n id params.asset_a m ≡ first
  first_is = uses_by_holder n id params.asset_a m

  pub second_fits : DoUsesFit n id params.asset_b (map_with_uses n id params.asset_a m)
  second_fits = subst (DoUsesFit n id params.asset_b) (sym first_is)
      (fits_needed n id params.asset_b first (fit_still n m first (holder id params.asset_b)
      (λ q is. uses_beside m fits.keyed n (holder id params.asset_a) q
      (λ same. holders_apart id params.asset_a params.asset_b fits.apart q same is))
      (fits_by_holder n id params.asset_b m fits.b)))

  pub lines_fit : DoLinesFit n pool (map_with_uses n id params.asset_b (map_with_uses n id params.asset_a m))
  lines_fit = subst (DoLinesFit n pool) (sym (ap (map_with_uses n id params.asset_b) first_is
      ∙ uses_by_holder n id params.asset_b first))
      (lines_still n m _ pool
      (uses_beside first (uses_keyed m fits.keyed n (holder id params.asset_a)) n (holder id params.asset_b)
      (key.LiquidityPool pool) (no_pool id params.asset_b pool)
      ∙ uses_beside m fits.keyed n (holder id params.asset_a) (key.LiquidityPool pool) (no_pool id params.asset_a pool))
      fits.lines)

-- ---- counts that fit where lines and the pool stay as they were

module _ (n : ℤ) (m new : EntryMap)
    (still : (owner : AccountId) (held : TrustLineAsset) → IsPlain (key.TrustLine owner held)
    → get new (key.TrustLine owner held) ≡ get m (key.TrustLine owner held)) where
  fits_after : (o : Option LedgerKey) → ((q : LedgerKey) → o ≡ Some q → IsPlain q) → DoUsesFitAt n m o
      → DoUsesFitAt n new o
  unfolding line_at
  fits_after (Some (key.TrustLine owner held)) plain fit = λ t exists. fit t
      (sym (ap line_of (still owner held (plain (key.TrustLine owner held) refl))) ∙ exists)
  fits_after other plain fit = tt

  pub uses_after : (id : AccountId) (x : Asset) → DoUsesFit n id x m → DoUsesFit n id x new
  uses_after id x fits = fits_needed n id x new
      (fits_after (holder id x) (λ q is. holder_plain id x q is) (fits_by_holder n id x m fits))

pub fits_beside : (n : ℤ) (id : AccountId) (pool : Hash) (params : PoolParams) (m new : EntryMap)
    → DoShareLinesFit n id pool params m → IsKeyed new
    → ((owner : AccountId) (held : TrustLineAsset) → IsPlain (key.TrustLine owner held)
    → get new (key.TrustLine owner held) ≡ get m (key.TrustLine owner held))
    → DoLinesFit n pool new → DoShareLinesFit n id pool params new
fits_beside n id pool params m new fits keyed still lines = record {
  keyed = keyed;
  apart = fits.apart;
  a = uses_after n m new still id params.asset_a fits.a;
  b = uses_after n m new still id params.asset_b fits.b;
  lines = lines;
}

-- ---- after the line is removed

pub still_fits : (n : ℤ) (id : AccountId) (pool : Hash) (params : PoolParams) (m : EntryMap)
    → DoShareLinesFit n id pool params m
    → DoShareLinesFit n id pool params (map_after_removing (key.TrustLine id (line.PoolShare pool)) m)
still_fits n id pool params m fits =
    let k = key.TrustLine id (line.PoolShare pool) in
    fits_beside n id pool params m (map_after_removing k m) fits (removing_keyed k m fits.keyed)
    (λ owner held plain. removing_beside k m fits.keyed (key.TrustLine owner held) (λ same. subst IsPlain same plain)
    (λ other same. absurd (cc)))
    (lines_still n m _ pool (removing_beside k m fits.keyed (key.LiquidityPool pool)
    (λ same. absurd (cc)) (λ other same. absurd (cc))) fits.lines)
