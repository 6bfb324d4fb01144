-- An offer that is crossed leaves the rest of its book.
use Rattle.op_laws.proofs.Prelude as prelude
use prelude.{◌≡◌, ◌≢◌, refl, sym, ap, subst, ◌∙◌, ℕ, zero, suc, Bool, true, false, cond, not, All, List, [], ◌∷◌, Some}
use prelude.{All-nil, All-cons, All-head, All-tail, All-weaker, All-filter, filter_passes, ◌+ℤ◌, get, filter, eq_by_cmp}
use prelude.{Asset, OfferEntry, LedgerEntry, key_of, key_cmp, IsPriced, EntryMap, erase, IsOwnKeyed, offers_of}
use prelude.{AreApart, AreOffersSound, inserted, ranked, head, is_of_pair, book_in, same_itself, all_ranked, offer_of}
use prelude.{offer_at, book, best, Rounding, View, IsKeyed, IsOwedRightly, Owed, IsLegalOwing, offer_entry}
use prelude.{with_offer_body, Left, with_amount, offer_key, atom_of, Step, step, kept_by, IsInBook, best_exists}
use prelude.{step_legal, CrossedOffersGo, CrossedOffersRest, IsRestedBook, apart_filter, same_keys}
use Rattle.std.proofs.Common.{ℤ}
use Rattle.op_flags.proofs.entry_sums_proofs.Lookups.{erase_each}
use Rattle.op_flags.proofs.trade_cross_proofs.OffersSound.{offers_sound}
use Rattle.op_flags.proofs.OwnOffers.{holds_of}
use Rattle.op_laws.proofs.OfferLists.{is_elsewhere, IsGone, IsReplaced, offers_left, erased_gone, replaced_gone}
use Rattle.op_laws.proofs.OffersBeside.{IsRested, step_gone, step_rests}
use Rattle.op_laws.proofs.InsertedOffers.{IsDistinctFrom, ranked_among, first_of, resized_first}
use Rattle.op_flags.proofs.ledger_types_proofs.Lists.{if_some_from}

-- ---- filters

module _ (p q : OfferEntry → Bool) where
  by_tests : (t u : Bool) (o : OfferEntry) (os : List OfferEntry) → p o ≡ t → q o ≡ u
      → filter p (filter q os) ≡ filter q (filter p os)
      → filter p (cond u (o ∷ filter q os) (filter q os)) ≡ filter q (cond t (o ∷ filter p os) (filter p os))
  by_tests true true o os x y later =
      ap (λ t. cond t (o ∷ filter p (filter q os)) (filter p (filter q os))) x ∙ ap (λ l. o ∷ l) later
      ∙ sym (ap (λ t. cond t (o ∷ filter q (filter p os)) (filter q (filter p os))) y)
  by_tests true false o os x y later =
      later ∙ sym (ap (λ t. cond t (o ∷ filter q (filter p os)) (filter q (filter p os))) y)
  by_tests false true o os x y later =
      ap (λ t. cond t (o ∷ filter p (filter q os)) (filter p (filter q os))) x ∙ later
  by_tests false false o os x y later = later

  filtered_both : (os : List OfferEntry) → filter p (filter q os) ≡ filter q (filter p os)
  filtered_both [] = refl
  filtered_both (o ∷ os) = by_tests (p o) (q o) o os refl refl (filtered_both os)

apart_by : (t : Bool) (o : OfferEntry) (os : List OfferEntry) → All (λ x. o.offer_id ≢ x.offer_id) os → AreApart os
    → AreApart (cond t (o ∷ os) os)
apart_by true o os apart rest = (apart, rest)
apart_by false o os apart rest = rest

-- ---- offers with distinct ids

abbrev IsSame : OfferEntry → OfferEntry → Type 0
IsSame a b = a.offer_id ≡ b.offer_id → a ≡ b

abbrev AreSame : List OfferEntry → OfferEntry → Type 0
AreSame os a = All (IsSame a) os

after_another : (x : OfferEntry) (os rest : List OfferEntry) → All (λ a. x.offer_id ≢ a.offer_id) rest
    → All (AreSame os) rest → All (AreSame (x ∷ os)) rest
after_another x os [] apart all = All-nil (AreSame (x ∷ os))
after_another x os (a ∷ rest) apart all = All-cons (AreSame (x ∷ os)) a rest
    (All-cons (IsSame a) x os (λ same. absurd (All-head (λ b. x.offer_id ≢ b.offer_id) a rest apart (sym same)))
    (All-head (AreSame os) a rest all))
    (after_another x os rest (All-tail (λ b. x.offer_id ≢ b.offer_id) a rest apart)
    (All-tail (AreSame os) a rest all))

all_same : (os : List OfferEntry) → AreApart os → All (AreSame os) os
all_same [] apart = All-nil (AreSame [])
all_same (x ∷ os) apart = All-cons (AreSame (x ∷ os)) x os
    (All-cons (IsSame x) x os (λ same. refl)
    (All-weaker (λ a. x.offer_id ≢ a.offer_id) (IsSame x) (λ a beside same. absurd (beside same)) os apart.0))
    (after_another x os os apart.0 (all_same os apart.1))

-- ---- the offer at the head, distinguished from the others by its key

module _ (o : OfferEntry) where
  abbrev other : OfferEntry → Bool
  other = is_elsewhere (offer_key o)

  own : other o ≡ false
  own = ap not (same_itself (offer_key o))

  ids : (x : OfferEntry) → offer_key x ≡ offer_key o → x.offer_id ≡ o.offer_id
  ids x same = cc

  tied : (t : Bool) → not t ≡ false → t ≡ true
  tied true e = refl
  tied false e = absurd (cc)

  described : (x : OfferEntry) → IsPriced x.price × IsSame o x → IsDistinctFrom o other x
  described x both = record {
    itself = λ e. sym (both.1 (sym (ids x (same_keys (offer_key x) (offer_key o)
        (tied (eq_by_cmp key_cmp (offer_key x) (offer_key o)) e)))));
    apart = λ e same.
        let is : other x ≡ false = ap other (sym (both.1 (sym same))) ∙ own in
        absurd (cc (e, is));
    priced = both.0;
  }

  all_described : (os : List OfferEntry) → All (λ x. IsPriced x.price) os → All (IsSame o) os
      → All (IsDistinctFrom o other) os
  all_described [] priced same = All-nil (IsDistinctFrom o other)
  all_described (x ∷ os) priced same = All-cons (IsDistinctFrom o other) x os
      (described x (All-head (λ y. IsPriced y.price) x os priced, All-head (IsSame o) x os same))
      (all_described os (All-tail (λ y. IsPriced y.price) x os priced) (All-tail (IsSame o) x os same))

-- ---- a book that contains an offer

own_keys : (m : EntryMap) → IsKeyed m → IsOwnKeyed m
own_keys m keyed q = if_some_from (λ e. key_of e ≡ q) (get m q) (keyed q)

module _ (p : OfferEntry → Bool) (P : OfferEntry → Type 0) where
  -- what holds of all that a filter lets through holds of all that pass
  with_first : (t : Bool) (o : OfferEntry) (os : List OfferEntry) → p o ≡ t
      → All P (cond t (o ∷ filter p os) (filter p os)) → (All P (filter p os) → All (λ x. p x ≡ true → P x) os)
      → All (λ x. p x ≡ true → P x) (o ∷ os)
  with_first true o os is all later = All-cons (λ x. p x ≡ true → P x) o os
      (λ passes. All-head P o (filter p os) all) (later (All-tail P o (filter p os) all))
  with_first false o os is all later = All-cons (λ x. p x ≡ true → P x) o os (λ passes. absurd (cc)) (later all)

  all_that_pass : (os : List OfferEntry) → All P (filter p os) → All (λ x. p x ≡ true → P x) os
  all_that_pass [] all = All-nil (λ x. p x ≡ true → P x)
  all_that_pass (o ∷ os) all = with_first (p o) o os refl all (all_that_pass os)

module _ (v : View) (id_pool : ℕ) (owed : Owed) (sum : ℤ) (m : EntryMap) (legal : IsLegalOwing v id_pool owed sum m)
    (selling buying : Asset) (o : OfferEntry) (here : IsInBook m selling buying o) where
  abbrev offers : List OfferEntry
  offers = offers_of m

  abbrev pair : OfferEntry → Bool
  pair = is_of_pair selling buying

  abbrev others : List OfferEntry
  others = filter (other o) (filter pair offers)

  sound : AreOffersSound m
  sound = offers_sound v id_pool owed sum m legal

  -- what holds of each offer holds of this one
  holds : (P : OfferEntry → Type 0) → All P offers → P o
  holds P all =
      let found = offer_entry m o.seller_id o.offer_id o here.exists in
      holds_of P m (offer_key o) found.0 o found.1.there found.1.is all

  described_all : All (IsDistinctFrom o (other o)) offers
  described_all = all_described o offers sound.priced (holds (AreSame offers) (all_same offers sound.apart))

  is_among : All (λ x. other o x ≡ true) (filter pair offers) → ⊥
  is_among all =
      let passes = holds (λ x. pair x ≡ true → other o x ≡ true)
      (all_that_pass pair (λ x. other o x ≡ true) offers all) here.pair in
      cc (passes, own o)

  among : ranked (filter pair offers) ≡ inserted o (ranked others)
  among = ranked_among o (holds (λ x. IsPriced x.price) sound.priced) (other o) (filter pair offers)
      (All-filter pair (IsDistinctFrom o (other o)) offers described_all)
      (apart_filter pair offers sound.apart) is_among

  module _ (n : EntryMap) (keyed : IsKeyed n) (gone : IsGone (offer_key o) m n) where
    others_are : ranked others ≡ book n selling buying
    unfolding book book_in
    others_are = ap ranked (filtered_both (other o) pair offers
        ∙ ap (filter pair) (sym (offers_left (offer_key o) m n (own_keys m legal.keyed) (own_keys n keyed) gone)))

    -- it is placed in the book that is without it
    pub book_with : book m selling buying ≡ inserted o (book n selling buying)
    unfolding book book_in
    book_with = among ∙ ap (inserted o) others_are

    pub others_pass : All (λ x. other o x ≡ true) (book n selling buying)
    others_pass = subst (λ l. All (λ x. other o x ≡ true) l) others_are
        (all_ranked (λ x. other o x ≡ true) others (filter_passes (other o) (filter pair offers)))

-- ---- the step

module _ (v : View) (id_pool base : ℕ) (owed : Owed) (right : IsOwedRightly owed) (sum : ℤ) (m : EntryMap)
    (legal : IsLegalOwing v id_pool owed sum m) (selling buying : Asset) (o : OfferEntry)
    (first : best m selling buying ≡ Some o) (rounding : Rounding) (left : Left) where
  here : IsInBook m selling buying o
  here = best_exists m legal.keyed selling buying o first

  abbrev x : Step
  x = step base rounding left o m

  abbrev sum_then : ℤ
  sum_then = sum +ℤ kept_by v.asset (atom_of o x.amounts)

  legal_then : IsLegalOwing v id_pool owed sum_then x.entries
  legal_then = step_legal v id_pool base owed right o sum m legal here.exists rounding left

  module _ (n : EntryMap) (keyed : IsKeyed n) (gone : IsGone (offer_key o) m n) where
    with_it : book m selling buying ≡ inserted o (book n selling buying)
    with_it = book_with v id_pool owed sum m legal selling buying o here n keyed gone

    none_itself : All (λ y. other o y ≡ true) (book n selling buying)
    none_itself = others_pass v id_pool owed sum m legal selling buying o here n keyed gone

    at_head : head (inserted o (book n selling buying)) ≡ Some o
    unfolding best
    at_head = ap head (sym with_it) ∙ first

    after_it : book m selling buying ≡ o ∷ book n selling buying
    after_it = with_it ∙ first_of o (other o) (own o) (book n selling buying) none_itself at_head

  pub book_left : x.stays ≡ false → book m selling buying ≡ o ∷ book x.entries selling buying
  book_left goes = after_it x.entries legal_then.keyed
      (step_gone v id_pool base owed right o sum m legal here.exists rounding left goes)

  module _ (n : ℕ) (e : LedgerEntry)
      (replaced : IsReplaced (offer_key o) (with_offer_body e (with_amount (suc n) o)) m x.entries) where
    abbrev rested : OfferEntry
    rested = with_amount (suc n) o

    abbrev lone : EntryMap
    lone = erase x.entries (offer_key o)

    lone_keyed : IsKeyed lone
    lone_keyed = erase_each (λ q f. key_of f ≡ q) x.entries (offer_key o) legal_then.keyed

    lone_gone : IsGone (offer_key o) m lone
    lone_gone = replaced_gone (offer_key o) (with_offer_body e rested) m x.entries replaced

    rested_exists : offer_at x.entries o.seller_id o.offer_id ≡ Some rested
    unfolding offer_at
    rested_exists = ap offer_of (replaced o.seller_id o.offer_id
        ∙ ap (λ t. cond t (Some (with_offer_body e rested)) (get m (offer_key o))) (same_itself (offer_key o)))

    with_rested : book x.entries selling buying ≡ inserted rested (book lone selling buying)
    with_rested = book_with v id_pool owed sum_then x.entries legal_then selling buying rested
        (record { exists = rested_exists; pair = here.pair }) lone lone_keyed (erased_gone (offer_key o) x.entries)

    rested_book : IsRestedBook o (book m selling buying) (book x.entries selling buying)
    rested_book = record {
      rest = suc n;
      others = book lone selling buying;
      was = after_it lone lone_keyed lone_gone;
      now = with_rested ∙ resized_first o (other o) (own o) (suc n) (book lone selling buying)
          (none_itself lone lone_keyed lone_gone) (at_head lone lone_keyed lone_gone);
    }

  rested_by : (n : ℕ) → IsRested o n m x.entries
      → IsRestedBook o (book m selling buying) (book x.entries selling buying)
  rested_by zero gone = record {
    rest = 0;
    others = book x.entries selling buying;
    was = after_it x.entries legal_then.keyed gone;
    now = refl;
  }
  rested_by (suc n) rests = rested_book n rests.0 rests.1

  pub book_rests : x.stays ≡ true → IsRestedBook o (book m selling buying) (book x.entries selling buying)
  book_rests stays =
      let rests = step_rests v id_pool base owed right o sum m legal here.exists rounding left stays in
      rested_by rests.0 rests.1

pub crossed_offers_go : CrossedOffersGo
crossed_offers_go base rounding left m selling buying o k first goes =
    book_left k.view k.id_pool base k.owed k.right k.sum m k.legal selling buying o first rounding left goes

pub crossed_offers_rest : CrossedOffersRest
crossed_offers_rest base rounding left m selling buying o k first stays =
    book_rests k.view k.id_pool base k.owed k.right k.sum m k.legal selling buying o first rounding left stays
