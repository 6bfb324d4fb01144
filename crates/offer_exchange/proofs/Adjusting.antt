-- What an adjusted amount binds, and that it stays as it is.
use Rattle.offer_exchange.proofs.Prelude as prelude
use prelude.{◌≡◌, refl, sym, ap, subst, ◌∙◌, ℕ, zero, suc, ◌+◌, ◌-◌, ◌*◌, ◌/◌, ◌≤◌, ◌<◌, arith, Bool, true, false, ◌||◌}
use prelude.{min-le_left, min-le_right, min-eq_left, mul-div_cancel, mul-le-mul_right, mul-le-mul_left}
use prelude.{lt_of_mul-lt-mul_right, lt-div-mul-add, div-eq_of_lt, ltb-true, ltb-false, min, nat_lt, nat_eq}
use prelude.{if◌then◌else◌, Normal, Amounts, nothing, unlimited, offered, ceil_div, some_stays, used_up, wheat_stays}
use prelude.{table, is_half, is_unfair, exchanged, unless_void, adjusted, liabilities, worth, wheat_then_down}
use prelude.{sheep_then_up, IsBound, natural_at_most_trans}
use Rattle.std.proofs.lemmas.Nat.{le-div}
use Rattle.offer_exchange.proofs.Below.{whole_below, used_up_below}

-- ---- no wheat of an offer stays where the taker has no bounds

not_less : (x y : ℕ) → y ≤ x → nat_lt x y ≡ false
not_less x y most = elim (nat_lt x y) as (λ t. nat_lt x y ≡ t → t ≡ false) [
  | true ↦ λ is. absurd (past (ltb-true x y is))
  | false ↦ λ is. refl
] refl
  where
    past : x < y → ⊥
    past less = omega arith

least_of : (v x y : ℕ) → v ≤ x → v ≤ y → v ≤ min x y
least_of v x y first second = elim (nat_lt x y) as (λ t. nat_lt x y ≡ t → v ≤ min x y) [
  | true ↦ λ is. omega arith
  | false ↦ λ is. omega arith
] refl

module _ (n d send receive : ℕ) where
  abbrev v : ℕ
  v = worth n d send receive

  pub worth_sent : v ≤ send * n
  worth_sent = min-le_left (send * n) (receive * d)

  pub worth_received : v ≤ receive * d
  worth_received = min-le_right (send * n) (receive * d)

  none_stays : v ≤ unlimited * d → v ≤ unlimited * n → wheat_stays n d (offered send receive) ≡ false
  unfolding wheat_stays
  none_stays by_sheep by_wheat =
      not_less (worth d n unlimited unlimited) v (least_of v (unlimited * d) (unlimited * n) by_sheep by_wheat)

  pub all_used : v ≤ unlimited * d → v ≤ unlimited * n → table Normal n d (offered send receive) ≡ used_up n d v
  all_used by_sheep by_wheat =
      ap (λ t. if t then some_stays Normal n d (worth d n unlimited unlimited) (min unlimited receive)
      else used_up n d v) (none_stays by_sheep by_wheat)

-- ---- what is used up is used up again by the wheat of it

-- what is used up, by whether the price is above 1
abbrev used_by : Bool → (n d v : ℕ) → Amounts
used_by above n d v = if above then wheat_then_down n d v else sheep_then_up n d v

same_quotient : (q v d : ℕ) → 1 ≤ d → q * d ≤ v → v < (q + 1) * d → v / d ≡ q
same_quotient q v d some low high =
    both (le-div q v d some low) (lt_of_mul-lt-mul_right d (next (v / d) (whole_below v d)))
  where
    next : (p : ℕ) → p * d ≤ v → p * d < (q + 1) * d
    next p most = omega arith

    both : q ≤ v / d → v / d < q + 1 → v / d ≡ q
    both least most = omega arith

module _ (n d v room : ℕ) (some_n : 1 ≤ n) (some_d : 1 ≤ d) (fits : v ≤ room * d) where
  abbrev wheat : ℕ
  wheat = v / n

  abbrev sheep : ℕ
  sheep = v / d

  wheat_again : min (wheat * n) (room * d) / n ≡ wheat
  wheat_again =
      ap (λ x. x / n) (min-eq_left (natural_at_most_trans (wheat * n) v (room * d) (whole_below v n) fits))
      ∙ mul-div_cancel wheat some_n

  -- the wheat for that sheep, rounded up
  abbrev dear : ℕ
  dear = ceil_div (sheep * d) n

  dear_enough : sheep * d ≤ dear * n
  dear_enough = reaches (dear * n) (lt-div-mul-add {a = sheep * d + (n - 1)} {b = n} some_n)
    where
      reaches : (x : ℕ) → sheep * d + (n - 1) < x + n → sheep * d ≤ x
      reaches x past = omega arith

  not_too_dear : n ≤ d → dear * n < (sheep + 1) * d
  not_too_dear cheap = next (dear * n) (whole_below (sheep * d + (n - 1)) n)
    where
      next : (x : ℕ) → x ≤ sheep * d + (n - 1) → x < (sheep + 1) * d
      next x most = omega arith

  sheep_again : n ≤ d → min (dear * n) (room * d) / d ≡ sheep
  sheep_again cheap = same_quotient sheep (min (dear * n) (room * d)) d some_d
      (least_of (sheep * d) (dear * n) (room * d) dear_enough
      (natural_at_most_trans (sheep * d) v (room * d) (whole_below v d) fits))
      (next (min (dear * n) (room * d)) (min-le_left (dear * n) (room * d)) (not_too_dear cheap))
    where
      next : (x : ℕ) → x ≤ dear * n → dear * n < (sheep + 1) * d → x < (sheep + 1) * d
      next x most less = omega arith

  again_by : (t : Bool) → nat_lt d n ≡ t
      → used_by t n d (worth n d (used_by t n d v).wheat room) ≡ used_by t n d v
  again_by true is = ap (λ q. record { wheat = q; sheep = q * n / d }) wheat_again
  again_by false is = ap (λ q. record { wheat = ceil_div (q * d) n; sheep = q }) (sheep_again (ltb-false d n is))

  pub used_up_again : used_up n d (worth n d (used_up n d v).wheat room) ≡ used_up n d v
  used_up_again = again_by (nat_lt d n) refl

  -- the wheat of it is worth no more than the room, where it is no more than what there is room for
  worth_by : (t : Bool) → nat_lt d n ≡ t → (used_by t n d v).wheat ≤ room → (used_by t n d v).wheat * n ≤ room * d
  worth_by true is most = natural_at_most_trans (wheat * n) v (room * d) (whole_below v n) fits
  worth_by false is most =
      natural_at_most_trans (dear * n) (room * n) (room * d) (mul-le-mul_right n most)
      (mul-le-mul_left room (ltb-false d n is))

  pub worth_room : (used_up n d v).wheat ≤ room → (used_up n d v).wheat * n ≤ room * d
  worth_room = worth_by (nat_lt d n) refl

pub nothing_used : (n d : ℕ) → 1 ≤ n → 1 ≤ d → used_up n d 0 ≡ nothing
nothing_used n d some_n some_d = by_price (nat_lt d n)
  where
    none : (v k : ℕ) → v ≡ 0 → 1 ≤ k → v / k ≡ 0
    none v k is some = div-eq_of_lt (omega arith)

    none_up : (v k : ℕ) → v ≡ 0 → 1 ≤ k → ceil_div v k ≡ 0
    none_up v k is some = div-eq_of_lt (omega arith)

    by_price : (t : Bool) → used_by t n d 0 ≡ nothing
    by_price true =
        ap (λ q. record { wheat = q; sheep = q * n / d }) (none 0 n refl some_n)
        ∙ ap (λ q. record { wheat = 0; sheep = q }) (none (0 * n) d (omega arith) some_d)
    by_price false =
        ap (λ q. record { wheat = ceil_div (q * d) n; sheep = q }) (none 0 d refl some_d)
        ∙ ap (λ q. record { wheat = q; sheep = 0 }) (none_up (0 * d) n (omega arith) some_n)

-- ---- adjusted amounts

some_right : (x y : ℕ) → (nat_eq x 0 || nat_eq y 0) ≡ false → 1 ≤ y
some_right x zero is = absurd (none (nat_eq x 0) is)
  where
    none : (t : Bool) → (t || true) ≡ false → ⊥
    none true is = absurd (cc)
    none false is = absurd (cc)
some_right x (suc y) is = omega arith

neither : (a b : Bool) → (a || b) ≡ false → a ≡ false
neither true b is = absurd (cc)
neither false b is = refl

module _ (n d send receive : ℕ) (some_n : 1 ≤ n) (some_d : 1 ≤ d) (send_fits : send ≤ unlimited)
    (receive_fits : receive ≤ unlimited) where
  abbrev all : ℕ
  all = worth n d send receive

  abbrev moved : Amounts
  moved = used_up n d all

  received : all ≤ receive * d
  received = worth_received n d send receive

  within_sheep : all ≤ unlimited * d
  within_sheep = natural_at_most_trans all (receive * d) (unlimited * d) received (mul-le-mul_right d receive_fits)

  within_wheat : all ≤ unlimited * n
  within_wheat =
      natural_at_most_trans all (send * n) (unlimited * n) (worth_sent n d send receive) (mul-le-mul_right n send_fits)

  its_table : table Normal n d (offered send receive) ≡ moved
  its_table = all_used n d send receive within_sheep within_wheat

  sent : moved.wheat ≤ send
  sent = (used_up_below n d all send receive some_n some_d (worth_sent n d send receive) received).wheat

  moved_fits : moved.wheat ≤ unlimited
  moved_fits = natural_at_most_trans moved.wheat send unlimited sent send_fits

  moved_worth : moved.wheat * n ≤ unlimited * d
  moved_worth = worth_room n d all unlimited some_n some_d within_sheep moved_fits

  -- its wheat gives the same table, for as much room or more
  again : (more : ℕ) → receive ≤ more → table Normal n d (offered moved.wheat more) ≡ moved
  again more room =
      all_used n d moved.wheat more
      (natural_at_most_trans _ (moved.wheat * n) _ (worth_sent n d moved.wheat more) moved_worth)
      (natural_at_most_trans _ (moved.wheat * n) _ (worth_sent n d moved.wheat more) (mul-le-mul_right n moved_fits))
      ∙ used_up_again n d all more some_n some_d
      (natural_at_most_trans all (receive * d) (more * d) received (mul-le-mul_right d room))

  abbrev is_void : Bool
  is_void = is_half Normal moved || is_unfair Normal n d moved

  its_amount : adjusted n d send receive ≡ (if is_void then nothing else moved).wheat
  unfolding adjusted exchanged
  its_amount = ap (λ a. (unless_void Normal n d a).wheat) its_table

  -- an amount of nothing has the table of nothing
  nothing_again : (more : ℕ) → table Normal n d (offered 0 more) ≡ nothing
  nothing_again more =
      let none : worth n d 0 more ≡ 0 = omega (arith, worth_sent n d 0 more) in
      all_used n d 0 more (omega arith) (omega arith) ∙ ap (used_up n d) none ∙ nothing_used n d some_n some_d

  bound_by : (t : Bool) → is_void ≡ t → IsBound n d send receive (if t then nothing else moved).wheat
  unfolding liabilities
  bound_by true is = let none = nothing_again unlimited in record {
    selling = subst (λ a. a.wheat ≤ send) (sym none) (omega arith);
    buying = subst (λ a. a.sheep ≤ receive) (sym none) (omega arith);
    all_selling = ap (λ a. a.wheat) none;
    some_buying = λ some. absurd (omega arith);
  }
  bound_by false is = let same = again unlimited receive_fits in record {
    selling = subst (λ a. a.wheat ≤ send) (sym same) sent;
    buying = subst (λ a. a.sheep ≤ receive) (sym same)
        (used_up_below n d all send receive some_n some_d (worth_sent n d send receive) received).sheep;
    all_selling = ap (λ a. a.wheat) same;
    some_buying = λ some. subst (λ a. 1 ≤ a.sheep) (sym same)
        (some_right moved.wheat moved.sheep (neither (is_half Normal moved) (is_unfair Normal n d moved) is));
  }

  pub adjusted_bound : IsBound n d send receive (adjusted n d send receive)
  adjusted_bound = subst (IsBound n d send receive) (sym its_amount) (bound_by is_void refl)

  again_by_void : (more : ℕ) → receive ≤ more → (t : Bool) → is_void ≡ t
      → adjusted n d (if t then nothing else moved).wheat more ≡ (if t then nothing else moved).wheat
  unfolding adjusted exchanged
  again_by_void more room true is = ap (λ a. (unless_void Normal n d a).wheat) (nothing_again more)
  again_by_void more room false is =
      ap (λ a. (unless_void Normal n d a).wheat) (again more room)
      ∙ ap (λ t. (if t then nothing else moved).wheat) is

  pub adjusted_again : (more : ℕ) → receive ≤ more → adjusted n d (adjusted n d send receive) more
      ≡ adjusted n d send receive
  adjusted_again more room =
      subst (λ amount. adjusted n d amount more ≡ amount) (sym its_amount) (again_by_void more room is_void refl)
