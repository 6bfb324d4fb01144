-- A book's order of offers, whose prices have parts of at least 1.
use Rattle.op_laws.proofs.Prelude.{◌≡◌, ◌≢◌, refl, sym, ap, ◌∙◌, ℕ, ◌*◌, ◌<◌, ◌≤◌, true, not, mul_right_comm}
use Rattle.op_laws.proofs.Prelude.{mul-lt-mul_of_pos_right, IsTotalOrder, nat_cmp_is, int_cmp-IsAntisymmetric}
use Rattle.op_laws.proofs.Prelude.{ordering_then, ordering_reverse, nat_cmp, int_cmp, is_lt, MatchOrdering, then_cmp}
use Rattle.op_laws.proofs.Prelude.{unsigned_abs, Ordering, Less, Equal, Greater, OfferEntry, IsPriced, price_cmp}
use Rattle.op_laws.proofs.Prelude.{goes_before, unsigned_abs_positive, is_lt_true_Less, then_not_Equal}
use Rattle.std.proofs.Common.{ℤ}
use Rattle.std.proofs.lemmas.Cmp.{nat_cmp_total, int_cmp_total, then_total}
use Rattle.std.specs.Cmp.{ranked}

-- ---- orderings

reversed : (x y : Ordering) → x ≢ Equal → y ≡ ordering_reverse x → is_lt y ≡ not (is_lt x)
reversed Less y h is = ap is_lt is
reversed Equal y h is = absurd (h refl)
reversed Greater y h is = ap is_lt is

-- ---- a number and then an id

abbrev Rank : Type 0
Rank = ℕ × ℤ

abbrev first_cmp : Rank → Rank → Ordering
first_cmp a b = nat_cmp a.0 b.0

abbrev second_cmp : Rank → Rank → Ordering
second_cmp a b = int_cmp a.1 b.1

first_total : IsTotalOrder first_cmp
first_total = record {
  antisymm = λ a b. nat_cmp_total.antisymm a.0 b.0;
  trans = λ a b c. nat_cmp_total.trans a.0 b.0 c.0;
  congr = λ a b c. nat_cmp_total.congr a.0 b.0 c.0;
}

second_total : IsTotalOrder second_cmp
second_total = record {
  antisymm = λ a b. int_cmp_total.antisymm a.1 b.1;
  trans = λ a b c. int_cmp_total.trans a.1 b.1 c.1;
  congr = λ a b c. int_cmp_total.congr a.1 b.1 c.1;
}

rank_total : IsTotalOrder (then_cmp first_cmp second_cmp)
rank_total = then_total first_total second_total

-- ---- prices

-- so many times two numbers are in their order
scaled : (x y c : ℕ) → 1 ≤ c → nat_cmp (x * c) (y * c) ≡ nat_cmp x y
scaled x y c some = sym (nat_cmp_is (x * c) (y * c) (nat_cmp x y) (elim (nat_cmp x y) as (λ r. r ≡ nat_cmp x y
    → MatchOrdering r (x * c < y * c) (x * c ≡ y * c) (y * c < x * c)) [
      | Less ↦ λ e. mul-lt-mul_of_pos_right (ranked x y Less e) some
      | Equal ↦ λ e. ap (λ z. z * c) (ranked x y Equal e)
      | Greater ↦ λ e. mul-lt-mul_of_pos_right (ranked x y Greater e) some
    ] refl))

abbrev n_of : OfferEntry → ℕ
n_of o = unsigned_abs o.price.n

abbrev d_of : OfferEntry → ℕ
d_of o = unsigned_abs o.price.d

abbrev order : OfferEntry → OfferEntry → Ordering
order a b = ordering_then (price_cmp a.price b.price) (int_cmp a.offer_id b.offer_id)

-- of two offers with distinct ids one goes before the other
pub one_before : (a b : OfferEntry) → a.offer_id ≢ b.offer_id → goes_before b a ≡ not (goes_before a b)
one_before a b apart = reversed (order a b) (order b a)
    (then_not_Equal (price_cmp a.price b.price) (int_cmp a.offer_id b.offer_id)
    (λ e. apart (int_cmp-IsAntisymmetric a.offer_id b.offer_id e)))
    (rank_total.antisymm (n_of b * d_of a, b.offer_id) (n_of a * d_of b, a.offer_id))

module _ (a b c : OfferEntry) (a_priced : IsPriced a.price) (b_priced : IsPriced b.price) (c_priced : IsPriced c.price)
  where
    -- their prices over one denominator
    abbrev rank_a : Rank
    rank_a = (n_of a * d_of b * d_of c, a.offer_id)

    abbrev rank_b : Rank
    rank_b = (n_of b * d_of a * d_of c, b.offer_id)

    abbrev rank_c : Rank
    rank_c = (n_of c * d_of a * d_of b, c.offer_id)

    abbrev rank_cmp : Rank → Rank → Ordering
    rank_cmp = then_cmp first_cmp second_cmp

    a_b : rank_cmp rank_a rank_b ≡ order a b
    a_b = ap (λ r. ordering_then r (int_cmp a.offer_id b.offer_id))
        (scaled (n_of a * d_of b) (n_of b * d_of a) (d_of c) (unsigned_abs_positive c.price.d c_priced.d))

    b_c : rank_cmp rank_b rank_c ≡ order b c
    b_c = ap (λ r. ordering_then r (int_cmp b.offer_id c.offer_id))
        ((λ i. nat_cmp (mul_right_comm (n_of b) (d_of a) (d_of c) i) (mul_right_comm (n_of c) (d_of a) (d_of b) i))
        ∙ scaled (n_of b * d_of c) (n_of c * d_of b) (d_of a) (unsigned_abs_positive a.price.d a_priced.d))

    a_c : rank_cmp rank_a rank_c ≡ order a c
    a_c = ap (λ r. ordering_then r (int_cmp a.offer_id c.offer_id))
        (ap (λ x. nat_cmp x (n_of c * d_of a * d_of b)) (mul_right_comm (n_of a) (d_of b) (d_of c))
        ∙ scaled (n_of a * d_of c) (n_of c * d_of a) (d_of b) (unsigned_abs_positive b.price.d b_priced.d))

    pub before_both : goes_before a b ≡ true → goes_before b c ≡ true → goes_before a c ≡ true
    before_both first second = ap is_lt (sym a_c
        ∙ rank_total.trans rank_a rank_b rank_c (a_b ∙ is_lt_true_Less (order a b) first)
        (b_c ∙ is_lt_true_Less (order b c) second))
