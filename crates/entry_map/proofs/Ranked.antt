-- The first offer of a book after a position is the one whose position comes next.
use Rattle.entry_map.proofs.Prelude as prelude
use prelude.{◌≡◌, ◌≢◌, refl, sym, ap, subst, ◌∙◌, ℤ, Bool, true, false, cond, ◌||◌, ◌&&◌, List, [], ◌∷◌, All, Option}
use prelude.{Some, None, IfSome, option_map, if◌then◌else◌, is_some, option_or, get, filter, list_any, Less, Equal}
use prelude.{Greater, is_lt, is_eq, ordering_reverse, tied_itself, All-nil, All-cons, All-head, All-tail, All-weaker}
use prelude.{All-filter, filter_passes, Asset, Price, OfferEntry, BookPosition, OfferTerms, IsPriced, AreApart}
use prelude.{AreSound, goes_before, inserted, is_of_pair, book_in, head, left_after, next_in, IsNarrow, position_of}
use prelude.{terms_of, offer_with, start_of, PositionMap, has, is_at, is_taken, AreNarrow, IsNextOfPair, IsLastOfPair}
use prelude.{is_lt_true_Less, same_assets, all_both, and_parts}
use Rattle.entry_map.specs.Book.{ranked}
use Rattle.entry_map.proofs.Positions.{order, order_total, same_position}
use Rattle.entry_map.proofs.PositionMaps.{terms_in, some_terms}
use Rattle.entry_map.proofs.Ranking.{IsRanked, IsDistinguished, IsPositionRanked, ranked_price, distinguished}
use Rattle.entry_map.proofs.Ranking.{comes_after, after_start}
use Rattle.entry_map.proofs.Ranking.{start_selling, start_buying}
use Rattle.entry_map.proofs.Pairs.{same_assets_tied}

-- ---- truth values

less_turned : (a b : BookPosition) → order a b ≢ Equal → is_lt (order a b) ≡ false → order b a ≡ Less
less_turned a b untied h = order_total.antisymm b a
    ∙ ap ordering_reverse (elim (order a b) as (λ o. o ≢ Equal → is_lt o ≡ false
    → o ≡ Greater) [
      | Less ↦ λ u e. absurd (cc)
      | Equal ↦ λ u e. absurd (u refl)
      | Greater ↦ λ u e. refl
    ] untied h)

or_swap : (a b c : Bool) → (a || (b || c)) ≡ (b || (a || c))
or_swap true true c = refl
or_swap true false c = refl
or_swap false b c = refl

or_true : (b : Bool) → (b || true) ≡ true
or_true true = refl
or_true false = refl

-- ---- what ranking keeps

module _ (P : OfferEntry → Type 0) where
  inserted_by : (t : Bool) (o first : OfferEntry) (others : List OfferEntry) → P o → All P (first ∷ others)
      → All P (inserted o others) → All P (if t then o ∷ first ∷ others else first ∷ inserted o others)
  inserted_by true o first others here all later = All-cons P o (first ∷ others) here all
  inserted_by false o first others here all later =
      All-cons P first (inserted o others) (All-head P first others all) later

  all_inserted : (o : OfferEntry) (os : List OfferEntry) → P o → All P os → All P (inserted o os)
  all_inserted o [] here all = All-cons P o [] here (All-nil P)
  all_inserted o (first ∷ others) here all = inserted_by (goes_before o first) o first others here all
      (all_inserted o others here (All-tail P first others all))

  pub all_ranked : (os : List OfferEntry) → All P os → All P (ranked os)
  all_ranked [] all = All-nil P
  all_ranked (o ∷ os) all = all_inserted o (ranked os) (All-head P o os all) (all_ranked os (All-tail P o os all))

module _ (p : OfferEntry → Bool) where
  any_inserted_by : (t : Bool) (o first : OfferEntry) (others : List OfferEntry)
      → list_any p (inserted o others) ≡ (p o || list_any p others)
      → list_any p (if t then o ∷ first ∷ others else first ∷ inserted o others) ≡ (p o || list_any p (first ∷ others))
  any_inserted_by true o first others later = refl
  any_inserted_by false o first others later =
      ap (λ b. p first || b) later ∙ or_swap (p first) (p o) (list_any p others)

  any_inserted : (o : OfferEntry) (os : List OfferEntry) → list_any p (inserted o os) ≡ (p o || list_any p os)
  any_inserted o [] = refl
  any_inserted o (first ∷ others) = any_inserted_by (goes_before o first) o first others (any_inserted o others)

  any_ranked : (os : List OfferEntry) → list_any p (ranked os) ≡ list_any p os
  any_ranked [] = refl
  any_ranked (o ∷ os) = any_inserted o (ranked os) ∙ ap (λ b. p o || b) (any_ranked os)

  any_by : (t b : Bool) (o : OfferEntry) (others : List OfferEntry) → (b ≡ true → t ≡ true) → p o ≡ b
      → list_any p (cond t (o ∷ others) others) ≡ (b || list_any p others)
  any_by true b o others h is = ap (λ x. x || list_any p others) is
  any_by false true o others h is = absurd (cc (h refl))
  any_by false false o others h is = refl

  -- a filter that lets through what passes p leaves whether one passes
  any_filter : (q : OfferEntry → Bool) (os : List OfferEntry) → All (λ o. p o ≡ true → q o ≡ true) os
      → list_any p (filter q os) ≡ list_any p os
  any_filter q [] h = refl
  any_filter q (o ∷ os) h = any_by (q o) (p o) o (filter q os) (All-head (λ x. p x ≡ true → q x ≡ true) o os h) refl
      ∙ ap (λ b. p o || b) (any_filter q os (All-tail (λ x. p x ≡ true → q x ≡ true) o os h))

  -- one of a list passes, of which none can
  none_of : (P : OfferEntry → Type 0) (os : List OfferEntry) → All P os → list_any p os ≡ true
      → ((o : OfferEntry) → P o → p o ≡ true → ⊥) → ⊥
  none_of P [] all h never = absurd (cc)
  none_of P (o ∷ os) all h never = elim (p o) as (λ b. p o ≡ b → (b || list_any p os) ≡ true → ⊥) [
    | true ↦ λ e _. never o (All-head P o os all) e
    | false ↦ λ _ later. none_of P os (All-tail P o os all) later never
  ] refl h

-- ---- rising offers

-- each offer's position is below those of the offers after it
abbrev Rises : List OfferEntry → Type 0
Rises [] = Unit {0}
Rises (o ∷ os) = All (λ x. order (position_of o) (position_of x) ≡ Less) os × Rises os

abbrev Below : OfferEntry → OfferEntry → Type 0
Below o x = order (position_of o) (position_of x) ≡ Less

rises_by : (t : Bool) (o first : OfferEntry) (others : List OfferEntry) → Rises (first ∷ others)
    → goes_before o first ≡ t
    → IsDistinguished o first → Rises (inserted o others)
    → Rises (if t then o ∷ first ∷ others else first ∷ inserted o others)
rises_by true o first others rises t is later =
    let below : Below o first = is_lt_true_Less _ (sym is.same ∙ t) in (
      All-cons (Below o) first others below (All-weaker (Below first) (Below o)
          (λ x lt. order_total.trans (position_of o) (position_of first) (position_of x) below lt) others rises.0),
      rises,
    )
rises_by false o first others rises t is later = (
  all_inserted (Below first) o others
      (less_turned (position_of o) (position_of first) is.untied (sym is.same ∙ t)) rises.0,
  later,
)

inserted_rises : (o : OfferEntry) (os : List OfferEntry) → Rises os → All (IsDistinguished o) os → Rises (inserted o os)
inserted_rises o [] rises all = (All-nil (Below o), tt)
inserted_rises o (first ∷ others) rises all = rises_by (goes_before o first) o first others rises refl
    (All-head (IsDistinguished o) first others all)
    (inserted_rises o others rises.1 (All-tail (IsDistinguished o) first others all))

abbrev AreDistinguished : List OfferEntry → Type 0
AreDistinguished [] = Unit {0}
AreDistinguished (o ∷ os) = All (IsDistinguished o) os × AreDistinguished os

ranked_rises : (os : List OfferEntry) → AreDistinguished os → Rises (ranked os)
ranked_rises [] h = tt
ranked_rises (o ∷ os) h = inserted_rises o (ranked os) (ranked_rises os h.1) (all_ranked (IsDistinguished o) os h.0)

filter_rises : (q : OfferEntry → Bool) (os : List OfferEntry) → Rises os → Rises (filter q os)
filter_rises q [] h = tt
filter_rises q (o ∷ os) h = elim (q o) as (λ b. Rises (cond b (o ∷ filter q os) (filter q os))) [
  | true ↦ (All-filter q (Below o) os h.0, filter_rises q os h.1)
  | false ↦ filter_rises q os h.1
]

-- ---- the book of a pair

pub apart_filter : (q : OfferEntry → Bool) (os : List OfferEntry) → AreApart os → AreApart (filter q os)
apart_filter q [] h = tt
apart_filter q (o ∷ os) h = elim (q o) as (λ b. AreApart (cond b (o ∷ filter q os) (filter q os))) [
  | true ↦ (All-filter q (λ x. o.offer_id ≢ x.offer_id) os h.0, apart_filter q os h.1)
  | false ↦ apart_filter q os h.1
]

module _ (selling buying : Asset) where
  record IsOfBook (o : OfferEntry) : Type 0 where
    of_selling : o.selling ≡ selling
    of_buying : o.buying ≡ buying
    price : IsRanked o.price

  of_book : (o : OfferEntry) → IsRanked o.price → is_of_pair selling buying o ≡ true → IsOfBook o
  of_book o r h = let two = and_parts _ _ h in
      record { of_selling = same_assets _ _ two.0; of_buying = same_assets _ _ two.1; price = r }

  all_distinguished : (o : OfferEntry) (os : List OfferEntry) → IsOfBook o → All IsOfBook os
      → All (λ x. o.offer_id ≢ x.offer_id) os → All (IsDistinguished o) os
  all_distinguished o os h all apart = All-weaker (λ x. IsOfBook x × (o.offer_id ≢ x.offer_id)) (IsDistinguished o)
      (λ x both. distinguished o x (h.of_selling ∙ sym both.0.of_selling) (h.of_buying ∙ sym both.0.of_buying)
      h.price both.0.price both.1) os (all_both {X = OfferEntry} IsOfBook (λ x. o.offer_id ≢ x.offer_id) os all apart)

  are_distinguished : (os : List OfferEntry) → All IsOfBook os → AreApart os → AreDistinguished os
  are_distinguished [] all apart = tt
  are_distinguished (o ∷ os) all apart = (
    all_distinguished o os (All-head IsOfBook o os all) (All-tail IsOfBook o os all) apart.0,
    are_distinguished os (All-tail IsOfBook o os all) apart.1,
  )

-- ---- the first offer that is left

left_is : (after : Option (Price × ℤ)) (os : List OfferEntry) → left_after after os ≡ filter (comes_after after) os
left_is None [] = refl
left_is None (o ∷ os) = ap (λ r. o ∷ r) (left_is None os)
left_is (Some (price, id)) os = refl

head_of_none : (os : List OfferEntry) → All (λ o. ⊥) os → head os ≡ None
head_of_none [] all = refl
head_of_none (o ∷ os) all = absurd (All-head (λ x. ⊥) o os all)

pub each_taken : (os : List OfferEntry) → All (λ o. is_taken os (position_of o) ≡ true) os
each_taken [] = All-nil (λ o. is_taken [] (position_of o) ≡ true)
each_taken (o ∷ os) = All-cons (λ x. is_taken (o ∷ os) (position_of x) ≡ true) o os
    (ap (λ r. is_eq r || is_taken os (position_of o)) (tied_itself order_total (position_of o)))
    (All-weaker (λ x. is_taken os (position_of x) ≡ true) (λ x. is_taken (o ∷ os) (position_of x) ≡ true)
    (λ x h. ap (λ b. is_at (position_of x) o || b) h ∙ or_true (is_at (position_of x) o)) os (each_taken os))

module _ (positions : PositionMap) (os : List OfferEntry) (each : (p : BookPosition) → get positions p ≡ terms_in os p)
    (sound : AreSound os) (narrow : AreNarrow os) (selling buying : Asset) (after : Option (Price × ℤ))
    (inserted_after : IsPositionRanked after) where
  taken : (p : BookPosition) → has positions p ≡ is_taken os p
  taken p = ap is_some (each p) ∙ some_terms os p

  abbrev start : BookPosition
  start = start_of selling buying after

  abbrev pair : OfferEntry → Bool
  pair = is_of_pair selling buying

  abbrev of_pair : List OfferEntry
  of_pair = filter pair os

  abbrev left : List OfferEntry
  left = filter (comes_after after) (ranked of_pair)

  abbrev IsOne : OfferEntry → Type 0
  IsOne o = IsOfBook selling buying o

  all_ranks : All (λ o. IsRanked o.price) os
  all_ranks = All-weaker (λ o. IsPriced o.price × IsNarrow o.price) (λ o. IsRanked o.price)
      (λ o both. ranked_price o.price both.0 both.1) os
      (all_both {X = OfferEntry} (λ o. IsPriced o.price) (λ o. IsNarrow o.price) os sound.priced narrow)

  all_of_book : All IsOne of_pair
  all_of_book = All-weaker (λ o. IsRanked o.price × (pair o ≡ true)) IsOne
      (λ o both. of_book selling buying o both.0 both.1) of_pair
      (all_both {X = OfferEntry} (λ o. IsRanked o.price) (λ o. pair o ≡ true) of_pair
      (All-filter pair (λ o. IsRanked o.price) os all_ranks) (filter_passes pair os))

  rises : Rises left
  rises = filter_rises (comes_after after) (ranked of_pair)
      (ranked_rises of_pair (are_distinguished selling buying of_pair all_of_book (apart_filter pair os sound.apart)))

  -- what holds of all offers holds of those that are left
  of_left : (P : OfferEntry → Type 0) → All P os → All P left
  of_left P all = All-filter (comes_after after) P (ranked of_pair) (all_ranked P of_pair (All-filter pair P os all))

  left_of_book : All IsOne left
  left_of_book = All-filter (comes_after after) IsOne (ranked of_pair) (all_ranked IsOne of_pair all_of_book)

  abbrev IsAhead : OfferEntry → Type 0
  IsAhead o = (has positions (position_of o) ≡ true) × (order start (position_of o) ≡ Less)

  ahead : (o : OfferEntry) → (is_taken os (position_of o) ≡ true) × (IsOne o × (comes_after after o ≡ true)) → IsAhead o
  ahead o h = (
    taken (position_of o) ∙ h.0,
    is_lt_true_Less _ (after_start selling buying after o h.1.0.of_selling h.1.0.of_buying inserted_after h.1.0.price
        ∙ h.1.1),
  )

  left_ahead : All IsAhead left
  left_ahead = All-weaker (λ o. (is_taken os (position_of o) ≡ true)
      × (IsOne o × (comes_after after o ≡ true))) IsAhead ahead left
      (all_both {X = OfferEntry} (λ o. is_taken os (position_of o) ≡ true)
      (λ o. IsOne o × (comes_after after o ≡ true)) left
      (of_left (λ o. is_taken os (position_of o) ≡ true) (each_taken os))
      (all_both {X = OfferEntry} IsOne (λ o. comes_after after o ≡ true) left left_of_book
      (filter_passes (comes_after after) (ranked of_pair))))

  -- none is left where no position of the pair comes next
  last_left : IsLastOfPair positions start → head left ≡ None
  last_left last = head_of_none left (All-weaker (λ o. IsAhead o × IsOne o) (λ o. ⊥)
      (λ o h. absurd (cc (
        h.0.0,
        last (position_of o) (h.1.of_selling ∙ sym (start_selling selling buying after))
            (h.1.of_buying ∙ sym (start_buying selling buying after)) h.0.1,
      ))) left
      (all_both {X = OfferEntry} IsAhead IsOne left left_ahead left_of_book))

  module _ (next : BookPosition) (terms : OfferTerms) (is_next : IsNextOfPair positions start next terms) where
    of_selling : (o : OfferEntry) → next ≡ position_of o → o.selling ≡ selling
    of_selling o same = sym (ap (λ (p : BookPosition). p.selling) same) ∙ is_next.selling
        ∙ start_selling selling buying after

    of_buying : (o : OfferEntry) → next ≡ position_of o → o.buying ≡ buying
    of_buying o same = sym (ap (λ (p : BookPosition). p.buying) same) ∙ is_next.buying
        ∙ start_buying selling buying after

    taken_pair : (o : OfferEntry) → is_at next o ≡ true → pair o ≡ true
    taken_pair o h = let same = same_position next (position_of o) h in
        λ i. same_assets_tied o.selling selling (of_selling o same) i
        && same_assets_tied o.buying buying (of_buying o same) i

    taken_after : (o : OfferEntry) → IsOne o → is_at next o ≡ true → comes_after after o ≡ true
    taken_after o one h =
        sym (after_start selling buying after o one.of_selling one.of_buying inserted_after one.price)
        ∙ ap is_lt (subst (λ p. order start p ≡ Less) (same_position next (position_of o) h) is_next.least.above)

    next_taken : is_taken left next ≡ true
    next_taken = any_filter (is_at next) (comes_after after) (ranked of_pair)
        (All-weaker IsOne (λ o. is_at next o ≡ true → comes_after after o ≡ true) taken_after (ranked of_pair)
        (all_ranked IsOne of_pair all_of_book))
        ∙ any_ranked (is_at next) of_pair
        ∙ any_filter (is_at next) pair os (All-weaker (λ o. IsRanked o.price) (λ o. is_at next o ≡ true → pair o ≡ true)
        (λ o _ h. taken_pair o h) os all_ranks)
        ∙ sym (taken next) ∙ ap is_some is_next.least.there

    abbrev NotPast : OfferEntry → Type 0
    NotPast o = order next (position_of o) ≢ Greater

    not_past : All NotPast left
    not_past = All-weaker IsAhead NotPast (λ o h. is_next.least.least (position_of o) h.1 h.0) left left_ahead

    past : (o x : OfferEntry) → Below o x → is_at next x ≡ true → order next (position_of o) ≡ Greater
    past o x below h = order_total.antisymm next (position_of o)
        ∙ ap ordering_reverse
        (subst (λ p. order (position_of o) p ≡ Less) (sym (same_position next (position_of x) h)) below)

    first_inserted : (os : List OfferEntry) → Rises os → All NotPast os → is_taken os next ≡ true
        → option_map position_of (head os) ≡ Some next
    first_inserted [] rises all h = absurd (cc)
    first_inserted (o ∷ os) rises all h = elim (is_at next o) as (λ b. is_at next o ≡ b → (b || is_taken os next) ≡ true
        → Some (position_of o) ≡ Some next) [
          | true ↦ λ e _. ap Some (sym (same_position next (position_of o) e))
          | false ↦ λ _ later. absurd (none_of (is_at next) (Below o) os rises.0 later
              (λ x below e. All-head NotPast o os all (past o x below e)))
        ] refl h

    next_inserted : option_map position_of (head left) ≡ Some next
    next_inserted = first_inserted left rises not_past next_taken

  -- the first offer that is left, by the position that comes next
  next_is : next_in selling buying after os ≡ head left
  unfolding next_in book_in
  next_is = ap head (left_is after (ranked of_pair))

  pub none_next : IsLastOfPair positions start → None ≡ next_in selling buying after os
  none_next last = sym (next_is ∙ last_left last)

-- what holds of some offers holds of the one that a book has next
pub next_of : (P : OfferEntry → Type 0) (os : List OfferEntry) (selling buying : Asset) (after : Option (Price × ℤ))
    → All P os → IfSome (next_in selling buying after os) P
unfolding next_in book_in
next_of P os selling buying after all = subst (λ l. IfSome (head l) P) (sym (left_is after _)) (first_of _
    (All-filter (comes_after after) P (ranked (filter (is_of_pair selling buying) os))
    (all_ranked P (filter (is_of_pair selling buying) os) (All-filter (is_of_pair selling buying) P os all))))
  where
    first_of : (l : List OfferEntry) → All P l → IfSome (head l) P
    first_of [] all = tt
    first_of (o ∷ os) all = All-head P o os all

-- ---- the offer that comes next, from its position and its terms

none_there : (o : OfferEntry) (os : List OfferEntry) → All (λ x. o.offer_id ≢ x.offer_id) os
    → terms_in os (position_of o) ≡ None
none_there o [] apart = refl
none_there o (x ∷ os) apart =
    ap (λ t. option_or t (cond (is_at (position_of o) x) (Some (terms_of x)) None))
    (none_there o os (All-tail (λ y. o.offer_id ≢ y.offer_id) x os apart))
    ∙ elim (is_at (position_of o) x) as (λ b. is_at (position_of o) x ≡ b → cond b (Some (terms_of x)) None ≡ None) [
      | true ↦ λ e. absurd (All-head (λ y. o.offer_id ≢ y.offer_id) x os apart
          (ap (λ (p : BookPosition). p.id) (same_position (position_of o) (position_of x) e)))
      | false ↦ λ _. refl
    ] refl

-- offers with distinct ids have their own terms at their positions
abbrev HasTerms : List OfferEntry → OfferEntry → Type 0
HasTerms os o = terms_in os (position_of o) ≡ Some (terms_of o)

own_terms : (os : List OfferEntry) → AreApart os → All (HasTerms os) os
own_terms [] apart = All-nil (HasTerms [])
own_terms (o ∷ os) apart = All-cons (HasTerms (o ∷ os)) o os
    (ap (λ t. option_or t (cond (is_at (position_of o) o) (Some (terms_of o)) None)) (none_there o os apart.0)
    ∙ ap (λ r. cond (is_eq r) (Some (terms_of o)) None) (tied_itself order_total (position_of o)))
    (All-weaker (HasTerms os) (HasTerms (o ∷ os))
    (λ x h. ap (λ t. option_or t (cond (is_at (position_of x) o) (Some (terms_of o)) None)) h) os
    (own_terms os apart.1))

entire : (x : Option OfferEntry) (next : BookPosition) (terms : OfferTerms) (os : List OfferEntry)
    → option_map position_of x ≡ Some next → terms_in os next ≡ Some terms → IfSome x (HasTerms os)
    → Some (offer_with next terms) ≡ x
entire None next terms os is there own = absurd (cc)
entire (Some o) next terms os is there own =
    let same : position_of o ≡ next = cc in
    let alike : Some (terms_of o) ≡ Some terms = sym own ∙ ap (terms_in os) same ∙ there in
    let distinguished : terms_of o ≡ terms = cc in
    λ i. Some (offer_with (sym same i) (sym distinguished i))

pub some_next : (positions : PositionMap) (os : List OfferEntry)
    → ((p : BookPosition) → get positions p ≡ terms_in os p)
    → AreSound os → AreNarrow os → (selling buying : Asset) (after : Option (Price × ℤ)) → IsPositionRanked after
    → (next : BookPosition) (terms : OfferTerms) → IsNextOfPair positions (start_of selling buying after) next terms
    → Some (offer_with next terms) ≡ next_in selling buying after os
some_next positions os each sound narrow selling buying after ranked next terms is_next =
    entire (next_in selling buying after os) next terms os
    (ap (option_map position_of) (next_is positions os each sound narrow selling buying after ranked)
    ∙ next_inserted positions os each sound narrow selling buying after ranked next terms is_next)
    (sym (each next) ∙ is_next.least.there)
    (next_of (HasTerms os) os selling buying after (own_terms os sound.apart))
