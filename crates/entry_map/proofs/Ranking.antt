-- The order of a book is that of positions.
use Rattle.entry_map.proofs.Prelude as prelude
use prelude.{◌≡◌, ◌≢◌, refl, sym, ap, ◌∙◌, arith, ℕ, ℤ, ◌*◌, ◌<◌, ◌≤◌, pos, Bool, true, false, cond, ◌+◌, ◌/◌, Option}
use prelude.{Some, None, unsigned_abs, nat_eq, Ordering, Less, Equal, Greater, ordering_then, nat_cmp, int_cmp}
use prelude.{bool_cmp, is_lt, MatchOrdering, ranked, nat_cmp_is, int_cmp-IsAntisymmetric, mul-le-mul, Asset, Price}
use prelude.{OfferEntry, account_cmp, assets_compared, BookPosition, IsPriced, IsPositionPriced, price_cmp, is_after}
use prelude.{goes_before, IsNarrow, IsPositionNarrow, rank, position_of, start_of, no_seller, order, then_not_Equal}
use Rattle.entry_map.proofs.Pairs.{tied}
use Rattle.entry_map.proofs.Ranks.{cheaper_is_below, same_is_same}
use Rattle.ledger_types.proofs.Arithmetic.{unsigned_abs_positive}

-- prices whose denominators are at least 1 and fit 32 bits
pub record IsRanked (p : Price) : Type 0 where
  pub d : 1 ≤ unsigned_abs p.d
  pub narrow : IsNarrow p

fits : (a b : ℕ) → a ≤ 2147483648 → b ≤ 2147483648 → a * b ≤ 4611686018427387904
fits a b h k = mul-le-mul h k

pub ranked_price : (p : Price) → IsPriced p → IsNarrow p → IsRanked p
ranked_price p h n = record { d = unsigned_abs_positive p.d h.d; narrow = n }

-- ranks are in the order of prices
pub rank_cmp : (p q : Price) → IsRanked p → IsRanked q → price_cmp p q ≡ nat_cmp (rank p) (rank q)
rank_cmp p q a b = nat_cmp_is (rank p) (rank q) (price_cmp p q) (elim (price_cmp p q) as (λ r. r ≡ price_cmp p q
    → MatchOrdering r (rank p < rank q) (rank p ≡ rank q) (rank q < rank p)) [
      | Less ↦ λ e. cheaper_is_below p q a.d b.d (fits _ _ a.narrow b.narrow) (ranked _ _ Less e)
      | Equal ↦ λ e. same_is_same p q a.d b.d (fits _ _ a.narrow b.narrow) (ranked _ _ Equal e)
      | Greater ↦ λ e. cheaper_is_below q p b.d a.d (fits _ _ b.narrow a.narrow) (ranked _ _ Greater e)
    ] refl)

-- ---- positions of one pair

abbrev within : BookPosition → BookPosition → Ordering
within a b = ordering_then (nat_cmp a.rank b.rank) (ordering_then (int_cmp a.id b.id)
    (ordering_then (bool_cmp a.is_end b.is_end) (account_cmp a.seller b.seller)))

in_pair : (a b : BookPosition) → a.selling ≡ b.selling → a.buying ≡ b.buying → order a b ≡ within a b
unfolding order
in_pair a b selling buying = λ i. ordering_then ((assets_compared a.selling b.selling ∙ tied _ _ selling) i)
    (ordering_then ((assets_compared a.buying b.buying ∙ tied _ _ buying) i) (within a b))

below_end : (x y z : Ordering) → is_lt (ordering_then x (ordering_then y (ordering_then Greater z)))
    ≡ is_lt (ordering_then x y)
below_end Less y z = refl
below_end Equal Less z = refl
below_end Equal Equal z = refl
below_end Equal Greater z = refl
below_end Greater y z = refl

apart_ids : (x y z : Ordering) → y ≢ Equal → ordering_then x (ordering_then y z) ≡ ordering_then x y
apart_ids Less y z h = refl
apart_ids Equal Less z h = refl
apart_ids Equal Equal z h = absurd (h refl)
apart_ids Equal Greater z h = refl
apart_ids Greater y z h = refl

-- an offer is after a price and an id, or after nothing
abbrev pub comes_after : Option (Price × ℤ) → OfferEntry → Bool
comes_after None o = true
comes_after (Some (price, id)) o = is_after price id o

abbrev pub IsPositionRanked : Option (Price × ℤ) → Type 0
IsPositionRanked None = Unit {0}
IsPositionRanked (Some (price, id)) = IsRanked price

pub ranked_position : (after : Option (Price × ℤ)) → IsPositionPriced after → IsPositionNarrow after
    → IsPositionRanked after
ranked_position None h n = tt
ranked_position (Some (price, id)) h n = ranked_price price h n

one_more : (b : Bool) (n : ℕ) → 0 < cond b 1 (n + 1)
one_more true n = omega arith
one_more false n = omega arith

lowest : (p : Price) → nat_cmp 0 (rank p) ≡ Less
lowest p = sym (nat_cmp_is 0 (rank p) Less
    (one_more (nat_eq (unsigned_abs p.d) 0) (unsigned_abs p.n * 4611686018427387904 / unsigned_abs p.d)))

pub start_selling : (selling buying : Asset) (after : Option (Price × ℤ))
    → (start_of selling buying after).selling ≡ selling
start_selling selling buying None = refl
start_selling selling buying (Some (price, id)) = refl

pub start_buying : (selling buying : Asset) (after : Option (Price × ℤ))
    → (start_of selling buying after).buying ≡ buying
start_buying selling buying None = refl
start_buying selling buying (Some (price, id)) = refl

pub after_start : (selling buying : Asset) (after : Option (Price × ℤ)) (o : OfferEntry) → o.selling ≡ selling
    → o.buying ≡ buying → IsPositionRanked after → IsRanked o.price
    → is_lt (order (start_of selling buying after) (position_of o)) ≡ comes_after after o
after_start selling buying None o s b h r =
    ap is_lt (in_pair (start_of selling buying None) (position_of o) (sym s) (sym b)
    ∙ ap (λ (x : Ordering). ordering_then x (ordering_then (int_cmp (pos 0) o.offer_id)
    (ordering_then (bool_cmp false false) (account_cmp no_seller o.seller_id)))) (lowest o.price))
after_start selling buying (Some (price, id)) o s b h r =
    ap is_lt (in_pair (start_of selling buying (Some (price, id))) (position_of o) (sym s) (sym b))
    ∙ below_end (nat_cmp (rank price) (rank o.price)) (int_cmp id o.offer_id)
    (account_cmp no_seller o.seller_id)
    ∙ ap (λ x. is_lt (ordering_then x (int_cmp id o.offer_id))) (sym (rank_cmp price o.price h r))

-- what a book's order says of two offers of one pair with distinct ids
pub record IsDistinguished (a b : OfferEntry) : Type 0 where
  pub same : goes_before a b ≡ is_lt (order (position_of a) (position_of b))
  pub untied : order (position_of a) (position_of b) ≢ Equal

pub distinguished : (a b : OfferEntry) → a.selling ≡ b.selling → a.buying ≡ b.buying → IsRanked a.price
    → IsRanked b.price
    → a.offer_id ≢ b.offer_id → IsDistinguished a b
distinguished a b s y p q apart =
    let untied : int_cmp a.offer_id b.offer_id ≢ Equal = λ e. apart (int_cmp-IsAntisymmetric a.offer_id b.offer_id e) in
    let is : order (position_of a) (position_of b)
    ≡ ordering_then (price_cmp a.price b.price) (int_cmp a.offer_id b.offer_id) =
    in_pair (position_of a) (position_of b) s y
    ∙ apart_ids (nat_cmp (rank a.price) (rank b.price)) (int_cmp a.offer_id b.offer_id) _ untied
    ∙ ap (λ x. ordering_then x (int_cmp a.offer_id b.offer_id)) (sym (rank_cmp a.price b.price p q)) in
    record {
      same = ap is_lt (sym is);
      untied = λ e. then_not_Equal (price_cmp a.price b.price) (int_cmp a.offer_id b.offer_id) untied (sym is ∙ e);
    }
