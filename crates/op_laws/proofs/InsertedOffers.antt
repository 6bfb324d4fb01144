-- Offers that are placed among others, in whichever sequence.
use Rattle.op_laws.proofs.Prelude.{◌≡◌, ◌≢◌, ◌⊎◌, inl, inr, refl, sym, ap, subst, ◌∙◌, Bool, true, false, cond, not}
use Rattle.op_laws.proofs.Prelude.{All, ℕ, List, [], ◌∷◌, Some, All-nil, All-cons, All-head, All-tail, All-weaker}
use Rattle.op_laws.proofs.Prelude.{All-filter, filter, if◌then◌else◌, OfferEntry, IsPriced, AreApart, goes_before}
use Rattle.op_laws.proofs.Prelude.{inserted, ranked, head, all_ranked, with_amount}
use Rattle.op_laws.proofs.PricedOrder.{one_before, before_both}

before : (o first : OfferEntry) (others : List OfferEntry) → goes_before o first ≡ true
    → inserted o (first ∷ others) ≡ o ∷ first ∷ others
before o first others h = ap (λ t. if t then o ∷ first ∷ others else first ∷ inserted o others) h

after : (o first : OfferEntry) (others : List OfferEntry) → goes_before o first ≡ false
    → inserted o (first ∷ others) ≡ first ∷ inserted o others
after o first others h = ap (λ t. if t then o ∷ first ∷ others else first ∷ inserted o others) h

-- ---- two offers that are placed

-- the one comes before a third offer, if it goes before the other and that before the third
record IsOrderly (a b c : OfferEntry) : Type 0 where
  first : goes_before a b ≡ true → goes_before b c ≡ true → goes_before a c ≡ true
  second : goes_before b a ≡ true → goes_before a c ≡ true → goes_before b c ≡ true

false_from_implied_false : (x : Bool) → (x ≡ true → false ≡ true) → x ≡ false
false_from_implied_false true h = sym (h refl)
false_from_implied_false false h = refl

none_else : (a b : OfferEntry) → goes_before b a ≡ not (goes_before a b)
    → inserted a (inserted b []) ≡ inserted b (inserted a [])
none_else a b one = elim (goes_before a b) as (λ t. goes_before b a ≡ not t
    → (if t then a ∷ b ∷ [] else b ∷ a ∷ []) ≡ inserted b (a ∷ [])) [
      | true ↦ λ e. sym (after b a [] e)
      | false ↦ λ e. sym (before b a [] e)
    ] one

module _ (a b c : OfferEntry) (others : List OfferEntry) where
  -- both go before the first of the others
  both_first : goes_before b a ≡ not (goes_before a b) → goes_before a c ≡ true → goes_before b c ≡ true
      → inserted a (inserted b (c ∷ others)) ≡ inserted b (inserted a (c ∷ others))
  both_first one a_first b_first =
      ap (inserted a) (before b c others b_first)
      ∙ elim (goes_before a b) as (λ t. goes_before a b ≡ t → goes_before b a ≡ not t
      → inserted a (b ∷ c ∷ others) ≡ inserted b (a ∷ c ∷ others)) [
        | true ↦ λ e f. before a b (c ∷ others) e ∙ ap (λ l. a ∷ l) (sym (before b c others b_first))
            ∙ sym (after b a (c ∷ others) f)
        | false ↦ λ e f. after a b (c ∷ others) e ∙ ap (λ l. b ∷ l) (before a c others a_first)
            ∙ sym (before b a (c ∷ others) f)
      ] refl one
      ∙ sym (ap (inserted b) (before a c others a_first))

  -- only one does, which goes before the other then
  one_first : goes_before a b ≡ false → goes_before a c ≡ false → goes_before b c ≡ true
      → inserted a (inserted b (c ∷ others)) ≡ inserted b (inserted a (c ∷ others))
  one_first one a_later b_first =
      ap (inserted a) (before b c others b_first) ∙ after a b (c ∷ others) one
      ∙ ap (λ l. b ∷ l) (after a c others a_later)
      ∙ sym (ap (inserted b) (after a c others a_later) ∙ before b c (inserted a others) b_first)

  none_first : goes_before a c ≡ false → goes_before b c ≡ false
      → inserted a (inserted b others) ≡ inserted b (inserted a others)
      → inserted a (inserted b (c ∷ others)) ≡ inserted b (inserted a (c ∷ others))
  none_first a_later b_later later =
      ap (inserted a) (after b c others b_later) ∙ after a c (inserted b others) a_later
      ∙ ap (λ l. c ∷ l) later
      ∙ sym (ap (inserted b) (after a c others a_later) ∙ after b c (inserted a others) b_later)

swapped : (a b : OfferEntry) (l : List OfferEntry) → goes_before b a ≡ not (goes_before a b) → All (IsOrderly a b) l
    → inserted a (inserted b l) ≡ inserted b (inserted a l)
swapped a b [] one all = none_else a b one
swapped a b (c ∷ others) one all = by_tests (goes_before a c) (goes_before b c) refl refl
    (swapped a b others one (All-tail (IsOrderly a b) c others all))
  where
    its : IsOrderly a b c
    its = All-head (IsOrderly a b) c others all

    by_tests : (t u : Bool) → goes_before a c ≡ t → goes_before b c ≡ u
        → inserted a (inserted b others) ≡ inserted b (inserted a others)
        → inserted a (inserted b (c ∷ others)) ≡ inserted b (inserted a (c ∷ others))
    by_tests true true x y later = both_first a b c others one x y
    by_tests false true x y later =
        one_first a b c others (false_from_implied_false (goes_before a b) (λ e. sym x ∙ its.first e y)) x y
    by_tests true false x y later =
        sym (one_first b a c others (false_from_implied_false (goes_before b a) (λ e. sym y ∙ its.second e x)) y x)
    by_tests false false x y later = none_first a b c others x y later

-- ---- one offer of a list

-- a test distinguishes an offer from the others, by its id
pub record IsDistinctFrom (o : OfferEntry) (other : OfferEntry → Bool) (x : OfferEntry) : Type 0 where
  pub itself : other x ≡ false → x ≡ o
  pub apart : other x ≡ true → x.offer_id ≢ o.offer_id
  pub priced : IsPriced x.price

module _ (o : OfferEntry) (priced : IsPriced o.price) (other : OfferEntry → Bool) where
  abbrev IsDistinguished : OfferEntry → Type 0
  IsDistinguished x = IsDistinctFrom o other x

  abbrev Passes : OfferEntry → Type 0
  Passes x = other x ≡ true

  passing : (os : List OfferEntry) → All Passes os → filter other os ≡ os
  passing [] all = refl
  passing (x ∷ os) all =
      ap (λ t. cond t (x ∷ filter other os) (filter other os)) (All-head Passes x os all)
      ∙ ap (λ l. x ∷ l) (passing os (All-tail Passes x os all))

  passes_by : (x : OfferEntry) → IsDistinguished x → o.offer_id ≢ x.offer_id → (t : Bool) → other x ≡ t → t ≡ true
  passes_by x described apart true is = refl
  passes_by x described apart false is =
      absurd (apart (ap (λ (y : OfferEntry). y.offer_id) (sym (described.itself is))))

  all_passing : (os : List OfferEntry) → All IsDistinguished os → All (λ x. o.offer_id ≢ x.offer_id) os → All Passes os
  all_passing [] described apart = All-nil Passes
  all_passing (x ∷ os) described apart = All-cons Passes x os
      (passes_by x (All-head IsDistinguished x os described) (All-head (λ y. o.offer_id ≢ y.offer_id) x os apart)
      (other x) refl)
      (all_passing os (All-tail IsDistinguished x os described) (All-tail (λ y. o.offer_id ≢ y.offer_id) x os apart))

  orderly : (x : OfferEntry) → IsDistinguished x → (c : OfferEntry) → IsDistinguished c → IsOrderly x o c
  orderly x described c also = record {
    first = before_both x o c described.priced priced also.priced;
    second = before_both o x c priced described.priced also.priced;
  }

  module _ (x : OfferEntry) (os : List OfferEntry) (described : IsDistinguished x) (all : All IsDistinguished os) where
    -- after an offer that isn't this one
    after_other : other x ≡ true → ranked os ≡ inserted o (ranked (filter other os))
        → inserted x (ranked os) ≡ inserted o (inserted x (ranked (filter other os)))
    after_other is same = ap (inserted x) same
        ∙ swapped x o (ranked (filter other os)) (one_before x o (described.apart is))
        (all_ranked (IsOrderly x o) (filter other os)
        (All-filter other (IsOrderly x o) os (All-weaker IsDistinguished (IsOrderly x o) (orderly x described) os all)))

    -- after this one there are others alone
    after_itself : other x ≡ false → All (λ y. x.offer_id ≢ y.offer_id) os
        → inserted x (ranked os) ≡ inserted o (ranked (filter other os))
    after_itself is apart =
        let same = described.itself is in
        ap (λ y. inserted y (ranked os)) same
        ∙ ap (λ l. inserted o (ranked l)) (sym (passing os
        (all_passing os all (subst (λ (z : OfferEntry). All (λ y. z.offer_id ≢ y.offer_id) os) same apart))))

  -- it isn't there, or it is placed among the others
  inserted_among : (os : List OfferEntry) → All IsDistinguished os → AreApart os
      → All Passes os ⊎ (ranked os ≡ inserted o (ranked (filter other os)))
  inserted_among [] described apart = inl (All-nil Passes)
  inserted_among (x ∷ os) described apart =
      by_test (other x) refl (inserted_among os (All-tail IsDistinguished x os described) apart.1)
    where
      by_test : (t : Bool) → other x ≡ t → All Passes os ⊎ (ranked os ≡ inserted o (ranked (filter other os)))
          → All Passes (x ∷ os)
          ⊎ (inserted x (ranked os) ≡ inserted o (ranked (cond t (x ∷ filter other os) (filter other os))))
      by_test true is (inl all) = inl (All-cons Passes x os is all)
      by_test true is (inr same) =
          inr (after_other x os (All-head IsDistinguished x os described)
          (All-tail IsDistinguished x os described) is same)
      by_test false is later =
          inr (after_itself x os (All-head IsDistinguished x os described)
          (All-tail IsDistinguished x os described) is apart.0)

  -- an offer that is among others is placed among them
  pub ranked_among : (os : List OfferEntry) → All IsDistinguished os → AreApart os → (All Passes os → ⊥)
      → ranked os ≡ inserted o (ranked (filter other os))
  ranked_among os described apart there = elim (inserted_among os described apart) [
    | inl all ↦ absurd (there all)
    | inr same ↦ same
  ]

module _ (o : OfferEntry) (other : OfferEntry → Bool) (own : other o ≡ false) where
  not_itself : (c : OfferEntry) → other c ≡ true → c ≡ o → ⊥
  not_itself c passes same = cc (ap other same, own, passes)

  -- where it comes first, the others come after it
  pub first_of : (l : List OfferEntry) → All (λ x. other x ≡ true) l → head (inserted o l) ≡ Some o
      → inserted o l ≡ o ∷ l
  first_of [] all is = refl
  first_of (c ∷ l) all is = elim (goes_before o c) as (λ t. head (if t then o ∷ c ∷ l else c ∷ inserted o l) ≡ Some o
      → (if t then o ∷ c ∷ l else c ∷ inserted o l) ≡ o ∷ c ∷ l) [
        | true ↦ λ e. refl
        | false ↦ λ e. absurd (not_itself c (All-head (λ x. other x ≡ true) c l all) (cc e))
      ] is

  -- so does what it is with another amount
  pub resized_first : (n : ℕ) (l : List OfferEntry) → All (λ x. other x ≡ true) l → head (inserted o l) ≡ Some o
      → inserted (with_amount n o) l ≡ with_amount n o ∷ l
  resized_first n [] all is = refl
  resized_first n (c ∷ l) all is = elim (goes_before o c) as (λ t.
      head (if t then o ∷ c ∷ l else c ∷ inserted o l) ≡ Some o
      → (if t then with_amount n o ∷ c ∷ l else c ∷ inserted (with_amount n o) l) ≡ with_amount n o ∷ c ∷ l) [
        | true ↦ λ e. refl
        | false ↦ λ e. absurd (not_itself c (All-head (λ x. other x ≡ true) c l all) (cc e))
      ] is
