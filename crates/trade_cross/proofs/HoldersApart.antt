-- An account has two assets under two keys.
use Rattle.trade_cross.proofs.Prelude.{◌≡◌, ◌≢◌, sym, ap, subst, ◌∙◌, Bool, true, false, Option, Some, None}
use Rattle.trade_cross.proofs.Prelude.{if◌then◌else◌, AccountId, Asset, TrustLineAsset, LedgerKey, is_same_account}
use Rattle.trade_cross.proofs.Prelude.{holder, offer_key, OfferEntry}
use Rattle.ledger_types.specs.declared.asset.Asset.TheVariants as asset
use Rattle.ledger_types.specs.declared.asset.TrustLineAsset.TheVariants as line
use Rattle.ledger_types.specs.declared.key.LedgerKey.TheVariants as key
use Rattle.trade_cross.proofs.Altering.{AreApart}
use Rattle.trade_cross.proofs.Passing.{IsOwnKey, holder_own}

abbrev asset_of_line : TrustLineAsset → Option Asset
asset_of_line line.Native = None
asset_of_line (line.Alphanum4 code issuer) = Some (asset.Alphanum4 code issuer)
asset_of_line (line.Alphanum12 code issuer) = Some (asset.Alphanum12 code issuer)
asset_of_line (line.PoolShare pool) = None

-- the asset that is held under a key
abbrev asset_under : LedgerKey → Option Asset
asset_under (key.Account id) = Some asset.Native
asset_under (key.TrustLine id held) = asset_of_line held
asset_under other = None

line_or_none : (b : Bool) (id : AccountId) (held : TrustLineAsset) (x : LedgerKey)
    → (if b then None else Some (key.TrustLine id held)) ≡ Some x → asset_under x ≡ asset_of_line held
line_or_none true id held x is = absurd (cc)
line_or_none false id held x is = let same : key.TrustLine id held ≡ x = cc in ap asset_under (sym same)

held_under : (id : AccountId) (a : Asset) (x : LedgerKey) → holder id a ≡ Some x → asset_under x ≡ Some a
held_under id asset.Native x is = let same : key.Account id ≡ x = cc in ap asset_under (sym same)
held_under id (asset.Alphanum4 code issuer) x is =
    line_or_none (is_same_account issuer id) id (line.Alphanum4 code issuer) x is
held_under id (asset.Alphanum12 code issuer) x is =
    line_or_none (is_same_account issuer id) id (line.Alphanum12 code issuer) x is

pub holders_apart : (id : AccountId) (a b : Asset) → a ≢ b → AreApart (holder id a) (holder id b)
holders_apart id a b apart x is also =
    let both : Some a ≡ Some b = sym (held_under id a x is) ∙ held_under id b x also in
    apart (cc)

-- neither is an offer's
pub not_an_offer : (id : AccountId) (a : Asset) (o : OfferEntry) → holder id a ≢ Some (offer_key o)
not_an_offer id a o same = subst (IsOwnKey id) same (holder_own id a)
