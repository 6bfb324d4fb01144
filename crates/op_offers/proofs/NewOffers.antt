-- A new offer whose reserve is counted can be sold.
use Rattle.op_offers.proofs.Prelude as prelude
use prelude.{◌≡◌, ◌≢◌, refl, sym, ap, subst, ◌∙◌, ℕ, ◌+◌, ◌≤◌, Option, Some, None, Ok, arith, ints, ℤ, pos, ◌≤ℤ◌, get}
use prelude.{AccountId, TrustLineAsset, LedgerEntry, LedgerEntryBody, LedgerKey, key_of_body, EntryMap, account_at}
use prelude.{HasAccount, sponsor_of, line_of, line_at, Ctx, sponsored_entry, map_after_counting}
use prelude.{map_after_counting_subentry, with_subentry, View, none_more, one_more, nothing_owed, IsLegalOwing}
use prelude.{IsOfferInRange, IsBodyInRange, holder, charged_kept, Leaves, IsHeld, IsOwnKey, holder_own, Ask, sell_fault}
use prelude.{buy_fault, new_asked, Asked, IsAskedRightly, unless_first_ok}
use Rattle.ledger_types.specs.declared.entry.LedgerEntryBody.TheVariants as body
use Rattle.ledger_types.specs.declared.key.LedgerKey.TheVariants as key
use Rattle.sponsor_rules.specs.Payers.{open_sponsor, subentry_tests_at}
use Rattle.trade_cross.specs.legal_rules.Sponsorships.{IsSponsorReady}
use Rattle.trade_cross.proofs.legal_rules_proofs.Counted.{subentries_counted}
use Rattle.trade_cross.proofs.legal_rules_proofs.Sponsors.{recorded}
use Rattle.op_offers.proofs.Tested.{IsValidAsk, sells_held, buys_held}

sponsor_is : (t : Option AccountId) (e : LedgerEntry) → sponsor_of e ≡ None → sponsor_of (sponsored_entry t e) ≡ t
sponsor_is None e none = none
sponsor_is (Some x) e none = recorded (Some x) e

too_high : (id : ℤ) (n : ℕ) → id ≡ pos (n + 1) → id ≤ℤ pos n → ⊥
too_high id n is le = omega (arith, ints)

module _ (ctx : Ctx) (ask : Ask) (m : EntryMap) (v : View) (sum : ℤ)
    (legal : IsLegalOwing v ctx.id_pool nothing_owed sum m) (exists : HasAccount m ctx.op_source)
    (ready : IsSponsorReady ctx ctx.op_source m) where
  abbrev next : ℕ
  next = ctx.id_pool + 1

  abbrev asked : Asked
  asked = new_asked ctx ask

  its_sponsor : sponsor_of asked.entry ≡ open_sponsor ctx ctx.op_source
  its_sponsor = sponsor_is (open_sponsor ctx ctx.op_source) _ refl

  ids : (i j : ℤ) (p q : AccountId) → key.Offer p i ≡ key.Offer q j → i ≡ j
  ids i j p q same = cc

  -- no offer has the next id
  next_free : (seller : AccountId) (o : Option LedgerEntry) → get m (key.Offer seller (pos next)) ≡ o → o ≡ None
  next_free seller None is = refl
  next_free seller (Some e) is = absurd (by_body e.body refl (legal.keyed _ e is))
    where
      by_body : (b : LedgerEntryBody) → e.body ≡ b → key_of_body b ≡ key.Offer seller (pos next) → ⊥
      by_body (body.Offer o) same own =
          let range : IsOfferInRange ctx.id_pool o = subst (IsBodyInRange ctx.id_pool) same
          (legal.entries _ e is).range.body in
          too_high o.offer_id ctx.id_pool (ids o.offer_id (pos next) o.seller_id seller own) range.id_high
      by_body other same own = absurd (cc)

  module _ (new : EntryMap) (counted : map_after_counting_subentry ctx ctx.op_source 1 m ≡ Ok new) where
    both : IsLegalOwing v ctx.id_pool (one_more ctx.op_source (open_sponsor ctx ctx.op_source)) sum new
        × ((k : LedgerKey) → ((x : AccountId) → k ≢ key.Account x) → get new k ≡ get m k)
    both = subentries_counted v ctx.id_pool sum ctx ctx.op_source m new legal exists ready counted

    -- It is counted and doesn't exist.
    pub new_counted : IsLegalOwing v ctx.id_pool (one_more ctx.op_source (sponsor_of asked.entry)) sum new
    new_counted = subst (λ t. IsLegalOwing v ctx.id_pool (one_more ctx.op_source t) sum new) (sym its_sponsor) both.0

    -- To all accounts that leaves what they have.
    pub new_left : Leaves ctx.base_reserve none_more m new
    new_left =
        let test = unless_first_ok (subentry_tests_at ctx m ctx.op_source 1)
        (map_after_counting ctx.op_source 1 (open_sponsor ctx ctx.op_source) m) new counted in
        subst (Leaves ctx.base_reserve none_more m) test.1
        (charged_kept ctx m ctx.op_source 1 legal.keyed test.0
        (with_subentry 1 (open_sponsor ctx ctx.op_source)) (λ a there on. on))

    still_exists : HasAccount new ctx.op_source
    still_exists = new_left.exist ctx.op_source exists

    line_still : (id : AccountId) (x : TrustLineAsset) → line_at new id x ≡ line_at m id x
    unfolding line_at
    line_still id x = ap line_of (both.1 (key.TrustLine id x) (λ y same. absurd (cc)))

    held_still : (k : Option LedgerKey) → IsOwnKey ctx.op_source k → IsHeld m k → IsHeld new k
    held_still None own has = tt
    held_still (Some (key.Account id)) own has = (still_exists.0, ap (account_at new) own ∙ still_exists.1)
    held_still (Some (key.TrustLine id x)) own has = (has.0, line_still id x ∙ has.1, has.2)
    held_still (Some other) own has = absurd own

    -- What passed the tests of its fields and lines can be sold under the next id.
    pub new_rightly : IsValidAsk ask → ask.flags ≤ 1 → sell_fault m (holder ctx.op_source ask.selling) ≡ None
        → buy_fault m (holder ctx.op_source ask.buying) ≡ None → IsAskedRightly next asked new
    new_rightly valid flags gives takes =
        let sells = holder ctx.op_source ask.selling in
        let buys = holder ctx.op_source ask.buying in
        record {
          gives = held_still sells (holder_own ctx.op_source ask.selling)
              (sells_held m ctx.op_source exists sells (holder_own ctx.op_source ask.selling) gives);
          takes = held_still buys (holder_own ctx.op_source ask.buying)
              (buys_held m ctx.op_source exists buys (holder_own ctx.op_source ask.buying) takes);
          free = λ seller. both.1 (key.Offer seller (pos next)) (λ x same. absurd (cc)) ∙ next_free seller _ refl;
          paid = λ x is. ready.other x (sym its_sponsor ∙ is);
          n = valid.n;
          d = valid.d;
          id_low = omega (arith, ints);
          id_high = omega (arith, ints);
          selling = valid.selling;
          buying = valid.buying;
          assets = valid.assets;
          flags = flags;
        }
