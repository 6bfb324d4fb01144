-- The offers of an account exist, with distinct ids of at least 1, and are all that it has.
use Rattle.op_flags.proofs.Prelude.{◌≡◌, refl, sym, ap, subst, ◌∙◌, ℕ, Bool, true, false, cond, List, [], ◌∷◌, All}
use Rattle.op_flags.proofs.Prelude.{Some, All-nil, All-cons, All-head, All-tail, All-filter, get, entries, get-entries}
use Rattle.op_flags.proofs.Prelude.{filter, cons_option, is_eq, ℤ, pos, ◌≤ℤ◌, map, AccountId, OfferEntry, LedgerEntry}
use Rattle.op_flags.proofs.Prelude.{LedgerEntryBody, LedgerKey, key_of, key_of_body, account_cmp, key_cmp, EntryMap}
use Rattle.op_flags.proofs.Prelude.{offer_at, offers_by, AreNumbered, View, Owed, IsLegalOwing, IsBodyInRange}
use Rattle.op_flags.proofs.Prelude.{IsOfferInRange, IsCrossable, IsThere, AreExisting, if_some_from}
use Rattle.std.specs.Cmp.{tied_itself}
use Rattle.std.proofs.lemmas.Cmp.{nat_list_cmp_total}
use Rattle.std.specs.FinMap.Entries.{find}
use Rattle.ledger_types.specs.declared.entry.LedgerEntryBody.TheVariants as body
use Rattle.entry_map.specs.Book.{offer_in, offer_of, offers_in, offers_of}
use Rattle.entry_map.specs.EntryMap.{IsKeyed}
use Rattle.trade_cross.proofs.Book.{each_offer}
use Rattle.trade_cross.proofs.OffersSound.{offers_sound}
use Rattle.entry_map.proofs.Ranked.{apart_filter}

-- ---- parts of a list

pub filtered_existing : (p : OfferEntry → Bool) (m : EntryMap) (os : List OfferEntry) → AreExisting m os
    → AreExisting m (filter p os)
filtered_existing p m os all = record {
  there = All-filter p (IsThere m) os all.there;
  apart = apart_filter p os all.apart;
}

-- what holds of each that passes
all_passing : (p : OfferEntry → Bool) (P : OfferEntry → Type 0) (os : List OfferEntry) → All P (filter p os)
    → All (λ o. p o ≡ true → P o) os
all_passing p P [] all = All-nil (λ o. p o ≡ true → P o)
all_passing p P (o ∷ os) all = by (p o) refl all (all_passing p P os)
  where
    by : (t : Bool) → p o ≡ t → All P (cond t (o ∷ filter p os) (filter p os))
        → (All P (filter p os) → All (λ x. p x ≡ true → P x) os) → All (λ x. p x ≡ true → P x) (o ∷ os)
    by true is all later = All-cons (λ x. p x ≡ true → P x) o os (λ yes. All-head P o (filter p os) all)
        (later (All-tail P o (filter p os) all))
    by false is all later = All-cons (λ x. p x ≡ true → P x) o os (λ yes. absurd (cc)) (later all)

-- ---- each existing offer is among the offers

module _ (P : OfferEntry → Type 0) (x : OfferEntry) where
  head_of : (b : LedgerEntryBody) (rest : List OfferEntry) → b ≡ body.Offer x → All P (cons_option (offer_in b) rest)
      → P x
  head_of b rest is all = All-head P x rest (subst (λ c. All P (cons_option (offer_in c) rest)) is all)

  tail_of : (b : LedgerEntryBody) (rest : List OfferEntry) → All P (cons_option (offer_in b) rest) → All P rest
  tail_of (body.Offer o) rest all = All-tail P o rest all
  tail_of other rest all = all

  found_in : (es : List (LedgerKey × LedgerEntry)) (k : LedgerKey) (e : LedgerEntry) → find key_cmp k es ≡ Some e
      → e.body ≡ body.Offer x → All P (offers_in (map (λ p. p.1) es)) → P x
  found_in [] k e there is all = absurd (cc)
  found_in (p ∷ es) k e there is all = by (is_eq (key_cmp k p.0)) there (λ later.
      found_in es k e later is (tail_of p.1.body (offers_in (map (λ q. q.1) es)) all))
    where
      by : (t : Bool) → cond t (Some p.1) (find key_cmp k es) ≡ Some e → (find key_cmp k es ≡ Some e → P x) → P x
      by true here among =
          let same : p.1 ≡ e = cc in
          head_of p.1.body (offers_in (map (λ q. q.1) es)) (ap (λ (y : LedgerEntry). y.body) same ∙ is) all
      by false later among = among later

pub holds_of : (P : OfferEntry → Type 0) (m : EntryMap) (k : LedgerKey) (e : LedgerEntry) (x : OfferEntry)
    → get m k ≡ Some e → e.body ≡ body.Offer x → All P (offers_of m) → P x
holds_of P m k e x there is all = found_in P x (entries m) k e (sym (get-entries m k) ∙ there) is all

same_seller : (x : OfferEntry) (seller : AccountId) → x.seller_id ≡ seller
    → is_eq (account_cmp x.seller_id seller) ≡ true
same_seller x seller same = subst (λ id. is_eq (account_cmp x.seller_id id) ≡ true) same (itself x.seller_id)
  where
    itself : (id : AccountId) → is_eq (account_cmp id id) ≡ true
    itself id = ap is_eq (tied_itself nat_list_cmp_total id.0)

-- What holds of each of an account's offers that passes, holds of each of them that exists and passes.
pub holds_of_own : (P : OfferEntry → Type 0) (m : EntryMap) (seller : AccountId) (p : OfferEntry → Bool)
    → All P (filter p (offers_by m seller)) → (k : LedgerKey) (e : LedgerEntry) (x : OfferEntry) → get m k ≡ Some e
    → e.body ≡ body.Offer x → x.seller_id ≡ seller → p x ≡ true → P x
unfolding offers_by
holds_of_own P m seller p all k e x there is own passes =
    holds_of (λ o. is_eq (account_cmp o.seller_id seller) ≡ true → p o ≡ true → P o) m k e x there is
    (all_passing (λ o. is_eq (account_cmp o.seller_id seller)) (λ o. p o ≡ true → P o) (offers_of m)
    (all_passing p P (offers_by m seller) all)) (same_seller x seller own) passes

-- ---- of a legal state

module _ (v : View) (id_pool : ℕ) (owed : Owed) (sum : ℤ) (m : EntryMap) (legal : IsLegalOwing v id_pool owed sum m)
  where
    own_keys : IsKeyed m
    own_keys k = if_some_from (λ e. key_of e ≡ k) (get m k) (legal.keyed k)

    pub offers_numbered : AreNumbered m
    offers_numbered = record {
      keyed = own_keys;
      low = each_offer m (λ o. pos 1 ≤ℤ o.offer_id) (λ k e o there is.
          let its : IsOfferInRange id_pool o = subst (IsBodyInRange id_pool) is (legal.entries k e there).range.body in
          its.id_low);
    }

    all_exist : All (IsThere m) (offers_of m)
    unfolding offer_at
    all_exist = each_offer m (IsThere m) (λ k e o there is.
        ap (λ q. offer_of (get m q)) (sym (ap key_of_body is) ∙ legal.keyed k e there)
        ∙ ap offer_of there ∙ ap offer_in is)

    pub offers_existing : (seller : AccountId) → AreExisting m (offers_by m seller)
    unfolding offers_by
    offers_existing seller = filtered_existing (λ o. is_eq (account_cmp o.seller_id seller)) m (offers_of m)
        (record { there = all_exist; apart = (offers_sound v id_pool owed sum m legal).apart })

pub numbered : (m : EntryMap) → IsCrossable m → AreNumbered m
numbered m c = offers_numbered c.view c.id_pool c.owed c.sum m c.legal

pub existing : (m : EntryMap) (seller : AccountId) → IsCrossable m → AreExisting m (offers_by m seller)
existing m seller c = offers_existing c.view c.id_pool c.owed c.sum m c.legal seller
