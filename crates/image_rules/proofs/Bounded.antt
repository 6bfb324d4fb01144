-- What entries have where they are in their ranges.
use Rattle.image_rules.proofs.Prelude.{◌≡◌, ℕ, refl, ap, subst, ◌∙◌, ℤ, pos, Less, Asset, LedgerEntryBody}
use Rattle.image_rules.proofs.Prelude.{LiquidityPoolEntry, asset_cmp, IsBodyInRange, of_asset, held_in}
use Rattle.image_rules.proofs.Prelude.{AreTerms, add_nothing, nonnegative_from_positive}
use Rattle.ledger_types.specs.declared.asset.Asset.TheVariants as asset
use Rattle.ledger_types.specs.declared.entry.LedgerEntryBody.TheVariants as body

-- ---- terms

pub terms_in : (id_pool : ℕ) (b : LedgerEntryBody) → IsBodyInRange id_pool b → AreTerms b
terms_in id_pool (body.Offer offer) range =
    record { amount = nonnegative_from_positive offer.amount range.amount; price = record { n = range.n; d = range.d } }
terms_in id_pool (body.TrustLine line) range = range.range.balance
terms_in id_pool (body.LiquidityPool pool) range = range.assets
terms_in id_pool other range = tt

-- ---- lumens are never the second asset of a pool

none_of : (first second : Asset) (n : ℤ) → asset_cmp first second ≡ Less → of_asset asset.Native second n ≡ pos 0
none_of asset.Native asset.Native n below = absurd (cc)
none_of (asset.Alphanum4 code issuer) asset.Native n below = absurd (cc)
none_of (asset.Alphanum12 code issuer) asset.Native n below = absurd (cc)
none_of first (asset.Alphanum4 code issuer) n below = refl
none_of first (asset.Alphanum12 code issuer) n below = refl

pub lumens_of_pool : (b : LedgerEntryBody) (p : LiquidityPoolEntry) (n : ℤ) → b ≡ body.LiquidityPool p → AreTerms b
    → of_asset asset.Native p.params.asset_a p.reserve_a ≡ n → held_in asset.Native b ≡ n
lumens_of_pool b p n is terms first =
    ap (held_in asset.Native) is
    ∙ add_nothing (of_asset asset.Native p.params.asset_a p.reserve_a)
    (of_asset asset.Native p.params.asset_b p.reserve_b)
    (none_of p.params.asset_a p.params.asset_b p.reserve_b (ordered b is terms)) ∙ first
  where
    ordered : (c : LedgerEntryBody) → c ≡ body.LiquidityPool p → AreTerms c
        → asset_cmp p.params.asset_a p.params.asset_b ≡ Less
    ordered c same has = subst AreTerms same has
