-- What a crossed offer leaves of the other offers: they stay as they were.
use Rattle.op_laws.proofs.Prelude as prelude
use prelude.{◌≡◌, ◌≢◌, refl, sym, ap, subst, ◌∙◌, ℕ, zero, suc, ◌-◌, Bool, true, false, cond, Option, Some, None, get}
use prelude.{eq_by_cmp, unsigned_abs, AccountId, Asset, AccountEntry, OfferEntry, LedgerEntry, key_cmp, EntryMap, put}
use prelude.{account_at, with_account, sponsor_of, offer_of, offer_at, with_offer, Rounding, Amounts, Bounds, exchanged}
use prelude.{wheat_stays, with_less, map_after_releasing, without_subentry, map_after_removing}
use prelude.{map_after_removing_entry, View, IsKeyed, IsOwedRightly, Owed, IsLegalOwing, holder, releasing_kept}
use prelude.{no_account_changed, keyed_put, offer_entry, with_offer_body, with_offer_is, IsOfferEntry, kept_elsewhere}
use prelude.{pays_less, no_subentry_core, Left, seller_gives_at, seller_takes_at, map_after_trade, offer_key, meeting}
use prelude.{amount_at, with_amount, map_after_rest, step_by, step, erase_get, put_get}
use Rattle.op_flags.specs.legal_rules.Binding.{acquiring, releasing, binding}
use Rattle.op_flags.specs.legal_rules.OfferLiabilities.{bound_of}
use Rattle.op_flags.specs.trade_cross.Plans.{giving_change, taking_change}
use Rattle.std.proofs.Common.{ℤ, pos}
use Rattle.op_flags.specs.ledger_types.declared.key.LedgerKey.TheVariants as key
use Rattle.op_flags.specs.sponsor_rules.declared.count.Count.TheVariants as count
use Rattle.op_flags.proofs.trade_cross_proofs.Altering.{AreApart, altered_opt, opt_keyed, opt_elsewhere}
use Rattle.op_flags.proofs.trade_cross_proofs.Changing.{changed_entry, changed_keeps, bound_entry, bound_keeps}
use Rattle.op_flags.proofs.trade_cross_proofs.Changing.{bound_altered}
use Rattle.op_flags.proofs.trade_cross_proofs.Once.{gone_altered}
use Rattle.op_flags.proofs.trade_cross_proofs.Passing.{IsOwnKey, holder_own}
use Rattle.op_flags.proofs.trade_cross_proofs.StepIs.{apart}
use Rattle.op_laws.proofs.OfferLists.{IsGone, IsReplaced}

-- what is under the keys of offers is as before
abbrev KeepsOffers : (old new : EntryMap) → Type 0
KeepsOffers old new = (s : AccountId) (i : ℤ) → get new (key.Offer s i) ≡ get old (key.Offer s i)

-- ---- accounts and lines

account_changed : (m : EntryMap) → IsKeyed m → (id : AccountId) (f : AccountEntry → AccountEntry)
    → ((a : AccountEntry) → (f a).account_id ≡ a.account_id) → (x : Option AccountEntry) → account_at m id ≡ x
    → KeepsOffers m (with_account m id f)
account_changed m keyed id f named None none s i =
    ap (λ n. get n (key.Offer s i)) (no_account_changed m id f none)
account_changed m keyed id f named (Some a) exists s i =
    kept_elsewhere m id f a keyed exists (named a) (key.Offer s i) (λ same. absurd (cc))

payer_released : (m : EntryMap) → IsKeyed m → (sponsor : Option AccountId)
    → KeepsOffers m (map_after_releasing 1 sponsor m)
payer_released m keyed None s i = refl
payer_released m keyed (Some id) s i =
    account_changed m keyed id (with_less count.Sponsoring 1) (λ a. (pays_less 1 a).core.id) (account_at m id) refl s i

holder_beside : (id : AccountId) (held : Asset) (s : AccountId) (i : ℤ) → holder id held ≢ Some (key.Offer s i)
holder_beside id held s i same = subst (IsOwnKey id) same (holder_own id held)

-- ---- an offer that is removed

removed_gone : (m : EntryMap) → IsKeyed m → (o : OfferEntry) (e : LedgerEntry)
    → get m (offer_key o) ≡ Some (with_offer_body e o) → IsGone (offer_key o) m (map_after_removing (offer_key o) m)
removed_gone m keyed o e there s i =
    let payer = sponsor_of (with_offer_body e o) in
    let now = map_after_releasing 1 payer m in
    let last = with_account now o.seller_id (without_subentry 1 payer) in
    ap (λ x. get (map_after_removing_entry (offer_key o) m x) (key.Offer s i)) there
    ∙ erase_get last (offer_key o) (key.Offer s i)
    ∙ ap (λ x. cond (eq_by_cmp key_cmp (key.Offer s i) (offer_key o)) None x)
    (account_changed now (releasing_kept 0 1 payer m keyed).keyed o.seller_id (without_subentry 1 payer)
    (λ a. (no_subentry_core 1 payer a).id) (account_at now o.seller_id) refl s i
    ∙ payer_released m keyed payer s i)

-- ---- an offer of which something rests

bound_keyed : (m : EntryMap) → IsKeyed m → (id : AccountId) (held : Asset) (selling buying : ℤ)
    → IsKeyed (binding (holder id held) selling buying m)
bound_keyed m keyed id held selling buying =
    subst IsKeyed (sym (bound_altered m keyed id (holder id held) (holder_own id held) selling buying))
    (opt_keyed m keyed (holder id held) (bound_entry selling buying) (bound_keeps selling buying))

bound_beside : (m : EntryMap) → IsKeyed m → (id : AccountId) (held : Asset) (selling buying : ℤ)
    → KeepsOffers m (binding (holder id held) selling buying m)
bound_beside m keyed id held selling buying s i =
    ap (λ n. get n (key.Offer s i)) (bound_altered m keyed id (holder id held) (holder_own id held) selling buying)
    ∙ opt_elsewhere m keyed (holder id held) (bound_entry selling buying) (bound_keeps selling buying) (key.Offer s i)
    (holder_beside id held s i)

module _ (m : EntryMap) (keyed : IsKeyed m) (o : OfferEntry) (e : LedgerEntry)
    (here : IsOfferEntry m o.seller_id o.offer_id o e) (n : ℕ) where
  abbrev rested : OfferEntry
  rested = with_amount n o

  abbrev resized : EntryMap
  resized = with_offer m o.seller_id o.offer_id (λ was. rested)

  resized_is : resized ≡ put m (with_offer_body e rested)
  resized_is = with_offer_is m o.seller_id o.offer_id (λ was. rested) o e here

  resized_keyed : IsKeyed resized
  resized_keyed = subst IsKeyed (sym resized_is) (keyed_put m (with_offer_body e rested) keyed)

  abbrev sold : EntryMap
  sold = binding (holder o.seller_id o.selling) (pos (bound_of rested).wheat) (pos 0) resized

  sold_keyed : IsKeyed sold
  sold_keyed = bound_keyed resized resized_keyed o.seller_id o.selling (pos (bound_of rested).wheat) (pos 0)

  acquired_replaced : IsReplaced (offer_key o) (with_offer_body e rested) m (acquiring rested resized)
  acquired_replaced s i =
      bound_beside sold sold_keyed o.seller_id o.buying (pos 0) (pos (bound_of rested).sheep) s i
      ∙ bound_beside resized resized_keyed o.seller_id o.selling (pos (bound_of rested).wheat) (pos 0) s i
      ∙ ap (λ x. get x (key.Offer s i)) resized_is
      ∙ put_get m (with_offer_body e rested) (key.Offer s i)

-- so much rests of an offer
abbrev pub IsRested : OfferEntry → ℕ → (old new : EntryMap) → Type 0
IsRested o zero old new = IsGone (offer_key o) old new
IsRested o (suc n) old new =
    (e : LedgerEntry) × IsReplaced (offer_key o) (with_offer_body e (with_amount (suc n) o)) old new

-- ---- the step

module _ (v : View) (id_pool base : ℕ) (owed : Owed) (right : IsOwedRightly owed) (o : OfferEntry) (sum : ℤ)
    (m : EntryMap) (legal : IsLegalOwing v id_pool owed sum m) (exists : offer_at m o.seller_id o.offer_id ≡ Some o)
  where
    holders : AreApart (seller_gives_at o) (seller_takes_at o)
    holders = apart v id_pool base owed right o sum m legal exists

    module _ (a : Amounts) where
      abbrev giver : EntryMap
      giver = altered_opt (seller_gives_at o) (changed_entry (giving_change o a 0)) m

      abbrev both : EntryMap
      both = altered_opt (seller_takes_at o) (changed_entry (taking_change o a 0)) giver

      abbrev traded : EntryMap
      traded = map_after_trade o a (releasing o m)

      traded_is : traded ≡ both
      traded_is = gone_altered m legal.keyed o holders a

      giver_keyed : IsKeyed giver
      giver_keyed = opt_keyed m legal.keyed (seller_gives_at o) (changed_entry (giving_change o a 0))
          (changed_keeps (giving_change o a 0))

      traded_keyed : IsKeyed traded
      traded_keyed = subst IsKeyed (sym traded_is) (opt_keyed giver giver_keyed (seller_takes_at o)
          (changed_entry (taking_change o a 0)) (changed_keeps (taking_change o a 0)))

      traded_keeps : KeepsOffers m traded
      traded_keeps s i =
          ap (λ n. get n (key.Offer s i)) traded_is
          ∙ opt_elsewhere giver giver_keyed (seller_takes_at o) (changed_entry (taking_change o a 0))
          (changed_keeps (taking_change o a 0)) (key.Offer s i) (holder_beside o.seller_id o.buying s i)
          ∙ opt_elsewhere m legal.keyed (seller_gives_at o) (changed_entry (giving_change o a 0))
          (changed_keeps (giving_change o a 0)) (key.Offer s i) (holder_beside o.seller_id o.selling s i)

      found : (e : LedgerEntry) × IsOfferEntry m o.seller_id o.offer_id o e
      found = offer_entry m o.seller_id o.offer_id o exists

      still_there : get traded (offer_key o) ≡ Some (with_offer_body found.0 o)
      still_there = traded_keeps o.seller_id o.offer_id ∙ found.1.there
          ∙ ap Some (λ i. record found.0 { body = found.1.is i })

      still_exists : offer_at traded o.seller_id o.offer_id ≡ Some o
      unfolding offer_at
      still_exists = ap offer_of (traded_keeps o.seller_id o.offer_id) ∙ exists

      traded_gone : IsGone (offer_key o) m (map_after_removing (offer_key o) traded)
      traded_gone s i = removed_gone traded traded_keyed o found.0 still_there s i
          ∙ ap (λ x. cond (eq_by_cmp key_cmp (key.Offer s i) (offer_key o)) None x) (traded_keeps s i)

      traded_replaced : (n : ℕ)
          → (e : LedgerEntry) × IsReplaced (offer_key o) (with_offer_body e (with_amount (suc n) o)) m
          (map_after_rest o (suc n) traded)
      traded_replaced n =
          let at = offer_entry traded o.seller_id o.offer_id o still_exists in
          let e = with_offer_body at.0 (with_amount (suc n) o) in (
            at.0,
            λ s i. acquired_replaced traded traded_keyed o at.0 at.1 (suc n) s i
                ∙ ap (λ x. cond (eq_by_cmp key_cmp (key.Offer s i) (offer_key o)) (Some e) x) (traded_keeps s i),
          )

      traded_rested : (n : ℕ) → IsRested o n m (map_after_rest o n traded)
      traded_rested zero = traded_gone
      traded_rested (suc n) = traded_replaced n

    module _ (rounding : Rounding) (left : Left) where
      abbrev bounds : Bounds
      bounds = meeting base (releasing o m) o left

      abbrev amounts : Amounts
      amounts = exchanged rounding (unsigned_abs o.price.n) (unsigned_abs o.price.d) bounds

      by_stays : (t : Bool) → (step_by base o bounds amounts t (traded amounts)).stays ≡ false
          → IsGone (offer_key o) m (step_by base o bounds amounts t (traded amounts)).entries
      by_stays true gone = absurd (cc)
      by_stays false gone = traded_gone amounts

      -- An offer that goes leaves the others as they were.
      pub step_gone : (step base rounding left o m).stays ≡ false
          → IsGone (offer_key o) m (step base rounding left o m).entries
      unfolding step
      step_gone gone = by_stays (wheat_stays (unsigned_abs o.price.n) (unsigned_abs o.price.d) bounds) gone

      rests_by : (t : Bool) → (step_by base o bounds amounts t (traded amounts)).stays ≡ true
          → (n : ℕ) × IsRested o n m (step_by base o bounds amounts t (traded amounts)).entries
      rests_by true stays =
          let n = amount_at base (traded amounts) o (bounds.wheat_send - amounts.wheat) in
          (n, traded_rested amounts n)
      rests_by false stays = absurd (cc)

      -- So does one that stays.
      pub step_rests : (step base rounding left o m).stays ≡ true
          → (n : ℕ) × IsRested o n m (step base rounding left o m).entries
      unfolding step
      step_rests stays = rests_by (wheat_stays (unsigned_abs o.price.n) (unsigned_abs o.price.d) bounds) stays
