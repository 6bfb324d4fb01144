-- Exchanges, adjusted amounts and liabilities, each row worked out with whole numbers of any size by a program that
-- follows the branches of stellar-core (OfferExchange). The contracts of `exchange`, `adjust` and `liabilities` name
-- these definitions.
use Rattle.definition_rows.proofs.Prelude.{◌≡◌, refl, ℕ, Bool, true, false, ◌&&◌, nat_eq, if◌then◌else◌}
use Rattle.std.specs.Prelude.{not}
use Rattle.offer_exchange.specs.declared.rounding.Rounding.{Rounding}
use Rattle.offer_exchange.specs.declared.rounding.Rounding.TheVariants.{Normal, StrictSend, StrictReceive}
use Rattle.offer_exchange.specs.Exchange.{Bounds, unlimited, wheat_stays, exchanged, adjusted, liabilities}

abbrev are_same : Bool → Bool → Bool
are_same a b = if a then b else not b

-- A trade at the price n / d moves so much wheat and sheep, and wheat stays or doesn't. The bounds are of wheat that is
-- sent and received, and of sheep.
abbrev moves : Rounding → (n d : ℕ) → ℕ × ℕ × ℕ × ℕ → (wheat sheep : ℕ) → Bool → Bool
moves rounding n d most wheat sheep stays =
    let b : Bounds = record {
      wheat_send = most.0;
      wheat_receive = most.1;
      sheep_send = most.2;
      sheep_receive = most.3;
    } in
    let moved = exchanged rounding n d b in
    nat_eq moved.wheat wheat && nat_eq moved.sheep sheep && are_same (wheat_stays n d b) stays

-- an offer can really give so much
abbrev is_adjusted : (n d send receive amount : ℕ) → Bool
is_adjusted n d send receive amount = nat_eq (adjusted n d send receive) amount

-- an offer binds so much
abbrev binds : (n d amount selling buying : ℕ) → Bool
binds n d amount selling buying =
    let bound = liabilities n d amount in nat_eq bound.wheat selling && nat_eq bound.sheep buying

trades_move_what_numbers_of_any_size_give : (
    moves Normal 200995868 2028687212 (unlimited, 8220621215424424357, 416212461668357693, 2160036190762645816)
    4200906749295151862 416212461668357693 true
    && moves Normal 617255373 277756008 (7211749115353145168, unlimited, 7660868490996640314, 2783999438640809983)
    1252759561399739045 2783999438640809981 false
    && moves Normal 1487179539 1299526165 (6447499695184941036, 4184566965981345929, unlimited, unlimited)
    4184566965981345929 4788824218389451760 true
    && moves Normal 2 3 (418359, unlimited, 419894, 218904) 328356 218904 false
    && moves StrictSend 1290051973 112905263 (unlimited, unlimited, 4653334276071795335, 6717629741759657999)
    407259506797251074 4653334276071795335 true
    && moves StrictSend 159880154 1817058138 (unlimited, 9111746727867111588, unlimited, 2719512653759662304)
    9111746727867111588 2719512653759662304 true
    && moves StrictSend 3 7 (355589, 373937, 757230, 580963) 355589 152395 false
    && moves StrictSend 3 1 (789457, unlimited, unlimited, 571071) 190357 571071 false
    && moves StrictReceive 1183364968 911648020 (unlimited, 1141153371300629929, 2456641775679608523, unlimited)
    1141153371300629929 1481274453612329520 true
    && moves StrictReceive 1329509788 1557340696 (unlimited, 4583911225377418388, unlimited, unlimited)
    4583911225377418388 3913308665930060394 true
    && moves StrictReceive 8 3 (666728, unlimited, 485659, 779461) 182122 485659 true
    && moves StrictReceive 2 2 (125872, unlimited, 265512, 411984) 125872 125872 false) ≡ true
unfolding exchanged wheat_stays
trades_move_what_numbers_of_any_size_give = refl

-- at a price above 1 and below it
where_wheat_stays_each_rounding_goes_its_own_way : (
    moves Normal 7 5 (unlimited, 101, unlimited, unlimited) 101 142 true
    && moves Normal 5 7 (unlimited, 101, unlimited, unlimited) 100 72 true
    && moves StrictSend 7 5 (unlimited, 101, 150, unlimited) 101 150 true
    && moves StrictSend 5 7 (unlimited, 101, 150, unlimited) 101 150 true
    && moves StrictReceive 7 5 (unlimited, 101, unlimited, unlimited) 101 142 true
    && moves StrictReceive 5 7 (unlimited, 101, unlimited, unlimited) 101 73 true) ≡ true
unfolding exchanged wheat_stays
where_wheat_stays_each_rounding_goes_its_own_way = refl

where_no_wheat_stays_the_roundings_agree : (
    moves Normal 7 5 (101, unlimited, unlimited, unlimited) 101 141 false
    && moves Normal 5 7 (101, unlimited, unlimited, unlimited) 101 72 false
    && moves StrictSend 7 5 (101, unlimited, unlimited, unlimited) 101 141 false
    && moves StrictSend 5 7 (101, unlimited, unlimited, unlimited) 101 72 false
    && moves StrictReceive 7 5 (101, unlimited, unlimited, unlimited) 101 141 false
    && moves StrictReceive 5 7 (101, unlimited, unlimited, unlimited) 101 72 false) ≡ true
unfolding exchanged wheat_stays
where_no_wheat_stays_the_roundings_agree = refl

wheat_may_stay_though_the_taker_has_some_left_of_each_bound : (
    moves Normal 2 1 (2, unlimited, 3, unlimited) 1 2 true
    && moves Normal 2 1 (2, unlimited, 4, unlimited) 2 4 false) ≡ true
unfolding exchanged wheat_stays
wheat_may_stay_though_the_taker_has_some_left_of_each_bound = refl

wheat_may_cost_a_hundredth_less_and_no_more : (
    moves Normal 2 3 (50, unlimited, unlimited, 33) 50 33 false
    && moves Normal 2 3 (47, unlimited, unlimited, 31) 0 0 false
    && moves StrictSend 2 3 (50, unlimited, unlimited, 33) 50 33 false
    && moves StrictSend 2 3 (47, unlimited, unlimited, 31) 0 0 false
    && moves StrictReceive 2 3 (50, unlimited, unlimited, 33) 50 33 false
    && moves StrictReceive 2 3 (47, unlimited, unlimited, 31) 0 0 false) ≡ true
unfolding exchanged wheat_stays
wheat_may_cost_a_hundredth_less_and_no_more = refl

wheat_may_cost_more_by_a_hundredth_or_where_the_taker_asked_for_a_strict_amount : (
    moves Normal 102 101 (unlimited, 50, 51, unlimited) 50 51 true
    && moves Normal 3 2 (unlimited, 33, 50, unlimited) 0 0 true
    && moves StrictSend 1 2 (unlimited, 97, 49, unlimited) 97 49 true
    && moves StrictReceive 1 2 (unlimited, 97, 49, unlimited) 97 49 true) ≡ true
unfolding exchanged wheat_stays
wheat_may_cost_more_by_a_hundredth_or_where_the_taker_asked_for_a_strict_amount = refl

a_trade_of_one_side_alone_moves_nothing_but_where_all_must_be_sent : (
    moves Normal 1 2 (1, unlimited, unlimited, unlimited) 0 0 false
    && moves Normal 1 2 (2, unlimited, unlimited, unlimited) 2 1 false
    && moves Normal 2 1 (unlimited, unlimited, 1, unlimited) 0 0 true
    && moves Normal 2 1 (unlimited, unlimited, 2, unlimited) 1 2 true
    && moves StrictReceive 2 1 (unlimited, unlimited, 1, unlimited) 0 0 true
    && moves StrictSend 2 1 (unlimited, unlimited, 1, unlimited) 0 1 true
    && moves StrictSend 3 1 (6, 6, 1, 5) 0 1 true
    && moves StrictSend 1 2 (1, unlimited, unlimited, unlimited) 0 0 false) ≡ true
unfolding exchanged wheat_stays
a_trade_of_one_side_alone_moves_nothing_but_where_all_must_be_sent = refl

bounds_of_0_move_nothing_but_where_all_must_be_sent : (
    moves Normal 1 1 (0, 2, 2, 2) 0 0 false
    && moves Normal 1 1 (2, 0, 2, 2) 0 0 true
    && moves Normal 1 1 (2, 2, 0, 2) 0 0 true
    && moves Normal 1 1 (2, 2, 2, 0) 0 0 false
    && moves StrictReceive 1 1 (0, 2, 2, 2) 0 0 false
    && moves StrictReceive 1 1 (2, 0, 2, 2) 0 0 true
    && moves StrictReceive 1 1 (2, 2, 0, 2) 0 0 true
    && moves StrictReceive 1 1 (2, 2, 2, 0) 0 0 false
    && moves StrictSend 1 1 (0, 2, 2, 2) 0 0 false
    && moves StrictSend 1 1 (2, 0, 2, 2) 0 2 true
    && moves StrictSend 1 1 (2, 2, 0, 2) 0 0 true
    && moves StrictSend 1 1 (2, 2, 2, 0) 0 0 false
    && moves Normal 1 1 (0, 0, 0, 0) 0 0 false) ≡ true
unfolding exchanged wheat_stays
bounds_of_0_move_nothing_but_where_all_must_be_sent = refl

the_greatest_bounds_and_prices_are_exact : (
    moves Normal 1 1 (unlimited, unlimited, unlimited, unlimited) unlimited unlimited false
    && moves Normal 2147483647 1 (unlimited, unlimited, unlimited, unlimited) 4294967298 9223372036854775806 false
    && moves Normal 1 2147483647 (unlimited, unlimited, unlimited, unlimited) 9223372036854775806 4294967298 false
    && moves Normal 2147483647 2147483647 (unlimited, unlimited, unlimited, unlimited) unlimited unlimited false
    && moves StrictSend 2147483647 1 (unlimited, unlimited, unlimited, unlimited) 4294967298 9223372036854775806 false
    && moves StrictReceive 1 2147483647 (unlimited, unlimited, unlimited, unlimited) 9223372036854775806 4294967298
    false
    && moves StrictSend 2147483647 2147483646 (unlimited, 9223372036854775806, unlimited, unlimited)
    9223372032559808508 9223372036854775806 false
    && moves Normal 2147483647 2147483646 (unlimited, 9223372036854775806, unlimited, unlimited) 9223372032559808508
    9223372036854775806 false
    && moves StrictReceive 2147483647 2147483646 (unlimited, 4611686018427387903, unlimited, unlimited)
    4611686018427387903 4611686020574871554 true) ≡ true
unfolding exchanged wheat_stays
the_greatest_bounds_and_prices_are_exact = refl

offers_can_give_what_they_have_and_have_room_for : (
    is_adjusted 7 3 16 43 16
    && is_adjusted 1 5 28 7 25
    && is_adjusted 1 3 59 54 57
    && is_adjusted 2 8 42 45 40
    && is_adjusted 8 2 40 8 2
    && is_adjusted 2 2 17 34 17
    && is_adjusted 7 7 22 4 4
    && is_adjusted 8 9 17 25 17
    && is_adjusted 1 2 2 unlimited 2
    && is_adjusted 1 1 unlimited unlimited unlimited
    && is_adjusted 2147483647 1 unlimited unlimited 4294967298
    && is_adjusted 1 2147483647 unlimited unlimited 9223372036854775806
    && is_adjusted 2147483647 2147483646 unlimited unlimited 9223372032559808508) ≡ true
unfolding adjusted exchanged wheat_stays
offers_can_give_what_they_have_and_have_room_for = refl

offers_that_would_be_void_can_give_nothing : (
    is_adjusted 4 9 4 23 0
    && is_adjusted 9 8 29 14 0
    && is_adjusted 1 2 1 unlimited 0
    && is_adjusted 1 1 0 unlimited 0
    && is_adjusted 1 1 unlimited 0 0) ≡ true
unfolding adjusted exchanged wheat_stays
offers_that_would_be_void_can_give_nothing = refl

an_offer_may_need_more_room_than_it_binds : (
    is_adjusted 3 2 35 90 35
    && is_adjusted 3 2 35 52 34) ≡ true
unfolding adjusted exchanged wheat_stays
an_offer_may_need_more_room_than_it_binds = refl

an_offer_that_has_more_may_give_less : (
    is_adjusted 2 3 4 3 3
    && is_adjusted 2 3 5 3 0) ≡ true
unfolding adjusted exchanged wheat_stays
an_offer_that_has_more_may_give_less = refl

offers_bind_what_they_would_move : (
    binds 2 1 1 1 2
    && binds 3 2 35 35 52
    && binds 3 2 34 34 51
    && binds 2 3 3 3 2
    && binds 2 3 4 3 2
    && binds 2 3 5 5 3
    && binds 1 1 unlimited unlimited unlimited
    && binds 2147483647 1 unlimited 4294967298 9223372036854775806
    && binds 1 2147483647 unlimited 9223372036854775806 4294967298
    && binds 2147483647 2147483646 unlimited 9223372032559808508 9223372036854775806) ≡ true
unfolding liabilities wheat_stays
offers_bind_what_they_would_move = refl

an_amount_that_is_not_adjusted_may_bind_nothing : (
    binds 1 2 0 0 0
    && binds 1 2 1 0 0
    && binds 1 2 2 2 1
    && binds 1 2 3 2 1
    && binds 1 2147483647 2147483646 0 0
    && binds 1 2147483647 2147483647 2147483647 1) ≡ true
unfolding liabilities wheat_stays
an_amount_that_is_not_adjusted_may_bind_nothing = refl
