-- That offers have distinct ids, as far as the entries were gone through.
use Rattle.image_rules.proofs.Prelude.{◌≡◌, refl, sym, ap, subst, ◌∙◌, ℕ, zero, suc, ◌+◌, ◌≤◌, Bool, true, false, not}
use Rattle.image_rules.proofs.Prelude.{List, [], ◌∷◌, length, take, cond, Some, arith, ints, ℤ, pos, ◌+ℤ◌, ◌≤ℤ◌}
use Rattle.image_rules.proofs.Prelude.{if◌then◌else◌, int_cmp_total, tied_itself, slice_get, list_any, is_eq, int_cmp}
use Rattle.image_rules.proofs.Prelude.{entries, values, OfferEntry, LedgerEntry, LedgerEntryBody, EntryMap, Weight}
use Rattle.image_rules.proofs.Prelude.{sum_over, total, Pairs, offer_with_in, offer_with, AreOffersApart, id_among}
use Rattle.image_rules.proofs.Prelude.{Brings, add_nonnegative, indicator_at_most_one, int_cmp_equal}
use Rattle.std.specs.BTreeSet.{BTreeSet, contains, Updates, IsEmpty}
use Rattle.std.specs.BTreeMap.{is_at}
use Rattle.ledger_types.specs.declared.entry.LedgerEntryBody.TheVariants as body
use Rattle.image_rules.proofs.Listed.{sum_before, sum_more, sum_of_all}
use Rattle.close_rules.proofs.legal_rules_proofs.Putting.{offer_with_in_nonnegative}

-- ---- sums of what is at least 0

same_first : (a b c : ℤ) → b ≤ℤ c → (a +ℤ b) ≤ℤ (a +ℤ c)
same_first a b c le = omega (arith, ints)

sum_not_below : (f : Weight) (es : Pairs) → ((e : LedgerEntry) → pos 0 ≤ℤ f e) → pos 0 ≤ℤ sum_over f es
sum_not_below f [] low = omega (arith, ints)
sum_not_below f (p ∷ es) low = add_nonnegative (f p.1) (sum_over f es) (low p.1) (sum_not_below f es low)

prefix_at_most : (f : Weight) (es : Pairs) (i : ℕ) → ((e : LedgerEntry) → pos 0 ≤ℤ f e)
    → sum_over f (take i es) ≤ℤ sum_over f es
prefix_at_most f [] zero low = omega (arith, ints)
prefix_at_most f [] (suc i) low = omega (arith, ints)
prefix_at_most f (p ∷ es) zero low = sum_not_below f (p ∷ es) low
prefix_at_most f (p ∷ es) (suc i) low =
    same_first (f p.1) (sum_over f (take i es)) (sum_over f es) (prefix_at_most f es i low)

before_at_most : (f : Weight) (m : EntryMap) (i : ℕ) → ((e : LedgerEntry) → pos 0 ≤ℤ f e)
    → sum_before f m i ≤ℤ total f m
unfolding total
before_at_most f m i low = prefix_at_most f (entries m) i low

-- ---- one offer more

two_at_most_one : (before all : ℤ) → before ≡ (pos 1 +ℤ pos 1) → before ≤ℤ all → all ≤ℤ pos 1 → ⊥
two_at_most_one before all two le few = omega (arith, ints)

-- an id that is there already is that of two offers
pub brought_twice : (m : EntryMap) (ids new : BTreeSet ℤ) (i : ℕ) (e : LedgerEntry)
    → ((id : ℤ) → sum_before (offer_with id) m i ≡ id_among ids id) → slice_get (values m) i ≡ Some e
    → Brings ids new e.body false → AreOffersApart m → ⊥
brought_twice m ids new i e before at twice apart =
    let id : ℤ = twice.0 in
    let f : Weight = offer_with id in
    two_at_most_one (sum_before f m (i + 1)) (total f m)
    (sum_more f m i e at ∙ ap (λ n. n +ℤ f e) (before id ∙ twice.1) ∙ ap (λ n. pos 1 +ℤ n) twice.2)
    (before_at_most f m (i + 1) (λ x. offer_with_in_nonnegative id x.body)) (apart id)

pub brought_once : (m : EntryMap) (ids new : BTreeSet ℤ) (i : ℕ) (e : LedgerEntry)
    → ((id : ℤ) → sum_before (offer_with id) m i ≡ id_among ids id) → slice_get (values m) i ≡ Some e
    → Brings ids new e.body true → (id : ℤ) → sum_before (offer_with id) m (i + 1) ≡ id_among new id
brought_once m ids new i e before at brings id =
    sum_more (offer_with id) m i e at ∙ ap (λ n. n +ℤ offer_with id e) (before id) ∙ sym (brings id)

pub apart_of_all : (m : EntryMap) (ids : BTreeSet ℤ) (n : ℕ) → length (entries m) ≤ n
    → ((id : ℤ) → sum_before (offer_with id) m n ≡ id_among ids id) → AreOffersApart m
apart_of_all m ids n le all id =
    subst (λ s. s ≤ℤ pos 1) (sym (all id) ∙ sum_of_all (offer_with id) m n le)
    (indicator_at_most_one (contains int_cmp ids id))

-- ---- sets

pub none_among : (ids : BTreeSet ℤ) → IsEmpty ids → (id : ℤ) → pos 0 ≡ id_among ids id
none_among ids none id = ap (λ (ks : List ℤ). if list_any (is_at (int_cmp id)) ks then pos 1 else pos 0) (sym none)

pub brings_none : (ids : BTreeSet ℤ) (b : LedgerEntryBody) → ((id : ℤ) → offer_with_in id b ≡ pos 0)
    → Brings ids ids b true
brings_none ids b none id = plus_none (id_among ids id) (offer_with_in id b) (none id)
  where
    plus_none : (a n : ℤ) → n ≡ pos 0 → a ≡ (a +ℤ n)
    plus_none a n is = omega (arith, ints)

-- the number of a test
abbrev number_of : Bool → ℤ
number_of b = if b then pos 1 else pos 0

one_more : (old new tied : Bool) → new ≡ cond tied true old → (tied ≡ true → old ≡ false)
    → number_of new ≡ (number_of old +ℤ number_of tied)
one_more old new true is fresh =
    ap number_of is ∙ ap (λ b. number_of b +ℤ pos 1) (sym (fresh refl))
one_more true new false is fresh = ap number_of is
one_more false new false is fresh = ap number_of is

not_true : (b : Bool) → true ≡ not b → b ≡ false
not_true true is = absurd (cc)
not_true false is = refl

not_false : (b : Bool) → false ≡ not b → b ≡ true
not_false true is = refl
not_false false is = absurd (cc)

-- an offer's id is put into a set
brought : (old new : BTreeSet ℤ) (offer : OfferEntry) (added : Bool)
    → added ≡ not (contains int_cmp old offer.offer_id) → Updates int_cmp old new offer.offer_id true
    → Brings old new (body.Offer offer) added
brought old new offer true is updates = λ id.
    one_more (contains int_cmp old id) (contains int_cmp new id) (is_eq (int_cmp offer.offer_id id)) (updates.0 id)
    (λ tied. ap (contains int_cmp old) (sym (int_cmp_equal offer.offer_id id tied))
    ∙ not_true (contains int_cmp old offer.offer_id) is)
brought old new offer false is updates = (
  offer.offer_id,
  ap number_of (not_false (contains int_cmp old offer.offer_id) is),
  ap (λ r. number_of (is_eq r)) (tied_itself int_cmp_total offer.offer_id),
)

pub brought_as : (old new : BTreeSet ℤ) (offer : OfferEntry) (id : ℤ) (added : Bool) → id ≡ offer.offer_id
    → added ≡ not (contains int_cmp old id) → Updates int_cmp old new id true → Brings old new (body.Offer offer) added
brought_as old new offer id added same is updates =
    brought old new offer added (subst (λ (x : ℤ). added ≡ not (contains int_cmp old x)) same is)
    (subst (λ (x : ℤ). Updates int_cmp old new x true) same updates)
