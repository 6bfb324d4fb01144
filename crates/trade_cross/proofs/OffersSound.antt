-- The offers of a legal state are sound: prices of parts of at least 1, and distinct ids.
use Rattle.trade_cross.proofs.Prelude as prelude
use prelude.{◌≡◌, ◌≢◌, refl, sym, ap, subst, ◌∙◌, Bool, true, false, All, List, [], ◌∷◌, arith, ints, All-nil, All-cons}
use prelude.{entries, cons_option, is_eq, int_cmp, ℤ, pos, ◌+ℤ◌, ◌≤ℤ◌, map, if◌then◌else◌, OfferEntry, LedgerEntry}
use prelude.{LedgerEntryBody, LedgerKey, IsPriced, offer_in, offers_in, AreApart, AreOffersSound, EntryMap, sum_over}
use prelude.{total, View, Owed, IsLegalOwing, IsOfferInRange, IsBodyInRange, add_nonnegative, int_cmp_same}
use Rattle.std.specs.Prelude.{ℕ}
use Rattle.ledger_types.specs.declared.entry.LedgerEntryBody.TheVariants as body
use Rattle.legal_rules.specs.OfferIds.{AreOffersApart, offer_with, offer_with_in}
use Rattle.trade_cross.proofs.Book.{each_offer}

abbrev Pairs : Type 0
Pairs = List (LedgerKey × LedgerEntry)

abbrev offers_at : Pairs → List OfferEntry
offers_at es = offers_in (map (λ p. p.1) es)

counted_low : (b : LedgerEntryBody) (id : ℤ) → pos 0 ≤ℤ offer_with_in id b
counted_low (body.Offer o) id = by_test (is_eq (int_cmp o.offer_id id))
  where
    by_test : (t : Bool) → pos 0 ≤ℤ (if t then pos 1 else pos 0)
    by_test true = omega (arith, ints)
    by_test false = omega (arith, ints)
counted_low other id = omega (arith, ints)

sum_low : (id : ℤ) (es : Pairs) → pos 0 ≤ℤ sum_over (offer_with id) es
sum_low id [] = omega (arith, ints)
sum_low id (e ∷ es) =
    add_nonnegative (offer_with id e.1) (sum_over (offer_with id) es) (counted_low e.1.body id) (sum_low id es)

-- an offer counts 1 for its own id
counts_itself : (o : OfferEntry) (id : ℤ) → o.offer_id ≡ id → offer_with_in id (body.Offer o) ≡ pos 1
counts_itself o id is = ap (λ t. if t then pos 1 else pos 0) (ap (λ x. is_eq (int_cmp o.offer_id x)) (sym is)
    ∙ int_cmp_same o.offer_id)

too_many : (x y : ℤ) → (x +ℤ y) ≤ℤ pos 0 → x ≡ pos 1 → pos 0 ≤ℤ y → ⊥
too_many x y none one low = omega (arith, ints)

rest_none : (x y : ℤ) → (x +ℤ y) ≤ℤ pos 0 → pos 0 ≤ℤ x → y ≤ℤ pos 0
rest_none x y none low = omega (arith, ints)

none_by : (id : ℤ) (b : LedgerEntryBody) (es : Pairs) → (offer_with_in id b +ℤ sum_over (offer_with id) es) ≤ℤ pos 0
    → All (λ other. id ≢ other.offer_id) (offers_at es)
    → All (λ other. id ≢ other.offer_id) (cons_option (offer_in b) (offers_at es))
none_by id (body.Offer o) es none all = All-cons (λ other. id ≢ other.offer_id) o (offers_at es)
    (λ same. too_many (offer_with_in id (body.Offer o)) (sum_over (offer_with id) es) none
    (counts_itself o id (sym same)) (sum_low id es)) all
none_by id other es none all = all

-- none has this id where none is counted
none_with : (id : ℤ) (es : Pairs) → sum_over (offer_with id) es ≤ℤ pos 0
    → All (λ other. id ≢ other.offer_id) (offers_at es)
none_with id [] none = All-nil (λ other. id ≢ other.offer_id)
none_with id (e ∷ es) none = none_by id e.1.body es none
    (none_with id es (rest_none (offer_with id e.1) (sum_over (offer_with id) es) none (counted_low e.1.body id)))

rest_few : (x y : ℤ) → (x +ℤ y) ≤ℤ pos 1 → pos 0 ≤ℤ x → y ≤ℤ pos 1
rest_few x y few low = omega (arith, ints)

rest_after : (x y : ℤ) → (x +ℤ y) ≤ℤ pos 1 → x ≡ pos 1 → y ≤ℤ pos 0
rest_after x y few one = omega (arith, ints)

apart_by : (b : LedgerEntryBody) (es : Pairs)
    → ((id : ℤ) → (offer_with_in id b +ℤ sum_over (offer_with id) es) ≤ℤ pos 1) → AreApart (offers_at es)
    → AreApart (cons_option (offer_in b) (offers_at es))
apart_by (body.Offer o) es few apart = (
  none_with o.offer_id es (rest_after (offer_with_in o.offer_id (body.Offer o)) (sum_over (offer_with o.offer_id) es)
      (few o.offer_id) (counts_itself o o.offer_id refl)),
  apart,
)
apart_by other es few apart = apart

are_apart : (es : Pairs) → ((id : ℤ) → sum_over (offer_with id) es ≤ℤ pos 1) → AreApart (offers_at es)
are_apart [] few = tt
are_apart (e ∷ es) few = apart_by e.1.body es few
    (are_apart es (λ id. rest_few (offer_with id e.1) (sum_over (offer_with id) es) (few id) (counted_low e.1.body id)))

apart_in : (m : EntryMap) → AreOffersApart m → AreApart (offers_at (entries m))
unfolding total
apart_in m few = are_apart (entries m) few

-- Offers of a legal state are sound.
pub offers_sound : (v : View) (id_pool : ℕ) (owed : Owed) (sum : ℤ) (m : EntryMap) → IsLegalOwing v id_pool owed sum m
    → AreOffersSound m
offers_sound v id_pool owed sum m legal = record {
  priced = each_offer m (λ o. IsPriced o.price) (λ k e o there is.
      let its : IsOfferInRange id_pool o = subst (IsBodyInRange id_pool) is (legal.entries k e there).range.body in
      record { n = its.n; d = its.d });
  apart = apart_in m legal.offers;
}
