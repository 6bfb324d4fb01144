-- The offers of an account in an asset that go with an authorisation: what is left, in which no offer binds its line.
use Rattle.op_flags.proofs.Prelude as prelude
use prelude.{◌≡◌, refl, sym, ap, subst, ◌∙◌, ℕ, Bool, true, false, List, Option, Some, None, arith, ints, get, filter}
use prelude.{is_eq, ℤ, pos, ◌+ℤ◌, if◌then◌else◌, AccountId, Asset, TrustLineAsset, OfferEntry, TrustLineEntry}
use prelude.{LedgerEntry, LedgerEntryBody, LedgerKey, key_of_body, asset_cmp, EntryMap, line_liabilities, line_at}
use prelude.{total, is_same_account, offers_by, Selling, Buying, View, counted, stated, stated_at, is_key, for_key}
use prelude.{none_more, nothing_owed, IsEntryLegal, IsLegalOwing, Leaves, line_entry, offer_key, line_asset_of}
use prelude.{trades_in, map_after_cancelling_all, map_without_offers, AreExisting, same_keys, or_left, or_right}
use Rattle.trade_cross.proofs.entry_sums_proofs.Summing.{total_none}
use Rattle.trade_cross.specs.legal_rules.OfferLiabilities.{bound_of}
use Rattle.trade_cross.specs.legal_rules.Trades.{holder, sells, buys}
use Rattle.ledger_types.specs.declared.asset.Asset.TheVariants as asset
use Rattle.ledger_types.specs.declared.asset.TrustLineAsset.TheVariants as line
use Rattle.ledger_types.specs.declared.entry.LedgerEntryBody.TheVariants as body
use Rattle.ledger_types.specs.declared.key.LedgerKey.TheVariants as key
use Rattle.trade_cross.proofs.legal_rules_proofs.Weighing.{total_of}
use Rattle.trade_cross.proofs.Passing.{IsOwnKey, holder_own}
use Rattle.op_flags.proofs.Cancelling.{IsGone, all_legal, all_left, all_existed, all_gone}
use Rattle.op_flags.proofs.OwnOffers.{filtered_existing, offers_existing, holds_of_own}
use Rattle.trade_cross.proofs.legal_rules_proofs.MayOwe.{nothing_right}
use Rattle.entry_map.proofs.Pairs.{same_assets_tied}

-- ---- which line holds an asset

asset_of_line : TrustLineAsset → Asset
asset_of_line line.Native = asset.Native
asset_of_line (line.Alphanum4 code issuer) = asset.Alphanum4 code issuer
asset_of_line (line.Alphanum12 code issuer) = asset.Alphanum12 code issuer
asset_of_line (line.PoolShare pool) = asset.Native

back_again : (a : Asset) → asset_of_line (line_asset_of a) ≡ a
unfolding asset_of_line
back_again asset.Native = refl
back_again (asset.Alphanum4 code issuer) = refl
back_again (asset.Alphanum12 code issuer) = refl

same_line : (a b : Asset) → line_asset_of a ≡ line_asset_of b → a ≡ b
same_line a b same = sym (back_again a) ∙ ap asset_of_line same ∙ back_again b

by_issuer : (t : Bool) (id other : AccountId) (a b : TrustLineAsset)
    → (if t then None else Some (key.TrustLine id a)) ≡ Some (key.TrustLine other b) → a ≡ b
by_issuer true id other a b is = absurd (cc)
by_issuer false id other a b is = cc

-- an account has an asset in the line in that asset alone
its_line : (id other : AccountId) (a held : Asset) → holder id a ≡ Some (key.TrustLine other (line_asset_of held))
    → a ≡ held
its_line id other asset.Native held is = absurd (cc)
its_line id other (asset.Alphanum4 code issuer) held is =
    same_line (asset.Alphanum4 code issuer) held (by_issuer (is_same_account issuer id) id other _ _ is)
its_line id other (asset.Alphanum12 code issuer) held is =
    same_line (asset.Alphanum12 code issuer) held (by_issuer (is_same_account issuer id) id other _ _ is)

its_owner : (id other : AccountId) (a held : Asset) → holder id a ≡ Some (key.TrustLine other (line_asset_of held))
    → id ≡ other
its_owner id other a held is = sym (subst (IsOwnKey id) is (holder_own id a))

-- ---- tests

sells_it : (o : OfferEntry) (held : Asset) → o.selling ≡ held → trades_in held o ≡ true
sells_it o held same = or_left (is_eq (asset_cmp o.selling held)) (is_eq (asset_cmp o.buying held))
    (same_assets_tied o.selling held same)

buys_it : (o : OfferEntry) (held : Asset) → o.buying ≡ held → trades_in held o ≡ true
buys_it o held same = or_right (is_eq (asset_cmp o.selling held)) (is_eq (asset_cmp o.buying held))
    (same_assets_tied o.buying held same)

stated_none : (counts states is : ℤ) → counts ≡ pos 0 → counts ≡ (pos 0 +ℤ states) → states ≡ is → is ≡ pos 0
stated_none counts states is none all same = omega (arith, ints)

-- ---- what is left

module _ (v : View) (id_pool : ℕ) (sum : ℤ) (m : EntryMap) (legal : IsLegalOwing v id_pool nothing_owed sum m)
    (trustor : AccountId) (held : Asset) where
  abbrev offers : List OfferEntry
  offers = filter (trades_in held) (offers_by m trustor)

  abbrev left : EntryMap
  left = map_after_cancelling_all offers m

  existing : AreExisting m offers
  existing = filtered_existing (trades_in held) m (offers_by m trustor)
      (offers_existing v id_pool nothing_owed sum m legal trustor)

  left_legal : IsLegalOwing v id_pool nothing_owed sum left
  left_legal = all_legal v id_pool nothing_owed nothing_right sum offers m legal existing

  pub revoked_legal : IsLegalOwing v id_pool nothing_owed sum (map_without_offers trustor held m)
  unfolding map_without_offers
  revoked_legal = left_legal

  -- All accounts keep what they have.
  pub revoked_left : (base : ℕ) → Leaves base none_more m (map_without_offers trustor held m)
  unfolding map_without_offers
  revoked_left base = all_left v id_pool nothing_owed nothing_right sum base offers m legal existing

  -- no offer of the account in the asset exists
  none_trades : (k : LedgerKey) (e : LedgerEntry) (x : OfferEntry) → get left k ≡ Some e → e.body ≡ body.Offer x
      → x.seller_id ≡ trustor → trades_in held x ≡ true → ⊥
  none_trades k e x there is own passes =
      let named : offer_key x ≡ k = sym (ap key_of_body is) ∙ left_legal.keyed k e there in
      let at : get left (offer_key x) ≡ Some e = ap (get left) named ∙ there in
      let existed = all_existed v id_pool nothing_owed nothing_right sum offers m legal existing x e at in
      let gone : get left (offer_key x) ≡ None =
      holds_of_own (IsGone left) m trustor (trades_in held)
      (all_gone v id_pool nothing_owed nothing_right sum offers m legal existing) (offer_key x) e x existed is own
      passes in
      absurd (cc)

  -- ---- the line

  abbrev at : LedgerKey
  at = key.TrustLine trustor (line_asset_of held)

  none_for : (o : Option LedgerKey) (n : ℤ) → (o ≡ Some at → ⊥) → for_key at o n ≡ pos 0
  none_for None n never = refl
  none_for (Some named) n never = elim (is_key named at) as (λ t. is_key named at ≡ t
      → (if t then n else pos 0) ≡ pos 0) [
        | true ↦ λ tied. absurd (never (ap Some (same_keys named at tied)))
        | false ↦ λ apart. refl
      ] refl

  none_sold : (k : LedgerKey) (e : LedgerEntry) → get left k ≡ Some e → (b : LedgerEntryBody) → e.body ≡ b
      → sells at b ≡ pos 0
  none_sold k e there (body.Offer x) is = none_for (holder x.seller_id x.selling) (pos (bound_of x).wheat) (λ same.
      none_trades k e x there is (its_owner x.seller_id trustor x.selling held same)
      (sells_it x held (its_line x.seller_id trustor x.selling held same)))
  none_sold k e there other is = refl

  none_bought : (k : LedgerKey) (e : LedgerEntry) → get left k ≡ Some e → (b : LedgerEntryBody) → e.body ≡ b
      → buys at b ≡ pos 0
  none_bought k e there (body.Offer x) is = none_for (holder x.seller_id x.buying) (pos (bound_of x).sheep) (λ same.
      none_trades k e x there is (its_owner x.seller_id trustor x.buying held same)
      (buys_it x held (its_line x.seller_id trustor x.buying held same)))
  none_bought k e there other is = refl

  abbrev AreNone : TrustLineEntry → Type 0
  AreNone t = ((line_liabilities t).selling ≡ pos 0) × ((line_liabilities t).buying ≡ pos 0)

  left_unbound : (t : TrustLineEntry) → line_at left trustor (line_asset_of held) ≡ Some t → AreNone t
  left_unbound t exists =
      let found = line_entry left trustor (line_asset_of held) t exists in
      let all = total_of v (IsEntryLegal id_pool) nothing_owed sum left left_legal in (
        stated_none (total (counted v Selling at) left) (stated_at Selling (get left at)) (line_liabilities t).selling
            (total_none (counted v Selling at) left (λ k e there. none_sold k e there e.body refl)) (all Selling at)
            (ap (stated_at Selling) found.1.there ∙ ap (stated Selling) found.1.is),
        stated_none (total (counted v Buying at) left) (stated_at Buying (get left at)) (line_liabilities t).buying
            (total_none (counted v Buying at) left (λ k e there. none_bought k e there e.body refl)) (all Buying at)
            (ap (stated_at Buying) found.1.there ∙ ap (stated Buying) found.1.is),
      )

  -- No offer binds the account's line in the asset.
  pub revoked_unbound : (t : TrustLineEntry)
      → line_at (map_without_offers trustor held m) trustor (line_asset_of held) ≡ Some t → AreNone t
  unfolding map_without_offers
  revoked_unbound = left_unbound
