-- A trade stays within its bounds, before the zero rules and after.
use Rattle.offer_exchange.proofs.Prelude as prelude
use prelude.{◌≡◌, refl, ℕ, ◌*◌, ◌≤◌, ◌<◌, Bool, true, false, ◌||◌, arith, min-le_left, min-le_right, ltb-true}
use prelude.{ltb-false, min, nat_lt, if◌then◌else◌, Rounding, Bounds, Amounts, nothing, wheat_worth, sheep_worth}
use prelude.{some_stays, used_up, wheat_stays, table, is_half, is_unfair, exchanged, AreWithin, natural_at_most_trans}
use Rattle.offer_exchange.proofs.Below.{AreAtMost, used_up_below, some_stays_below}

-- the bounds of the offer's side and of the taker's
within_both_bounds : (b : Bounds) (a : Amounts) → AreAtMost b.wheat_send b.sheep_receive a
    → AreAtMost b.wheat_receive b.sheep_send a
    → AreWithin b a
within_both_bounds b a offer taker = record {
  wheat_send = offer.wheat;
  wheat_receive = taker.wheat;
  sheep_send = taker.sheep;
  sheep_receive = offer.sheep;
}

strictly : (x y : ℕ) → x < y → x ≤ y
strictly x y lt = omega arith

module _ (rounding : Rounding) (n d : ℕ) (b : Bounds) (some_n : 1 ≤ n) (some_d : 1 ≤ d) where
  abbrev wheat : ℕ
  wheat = wheat_worth n d b

  abbrev sheep : ℕ
  sheep = sheep_worth n d b

  wheat_sent : wheat ≤ b.wheat_send * n
  wheat_sent = min-le_left (b.wheat_send * n) (b.sheep_receive * d)

  sheep_received : wheat ≤ b.sheep_receive * d
  sheep_received = min-le_right (b.wheat_send * n) (b.sheep_receive * d)

  sheep_sent : sheep ≤ b.sheep_send * d
  sheep_sent = min-le_left (b.sheep_send * d) (b.wheat_receive * n)

  wheat_received : sheep ≤ b.wheat_receive * n
  wheat_received = min-le_right (b.sheep_send * d) (b.wheat_receive * n)

  -- of the side that is worth less, so that it is within the other's bounds too
  by_worth : (t : Bool) → nat_lt sheep wheat ≡ t
      → AreWithin b (if t then some_stays rounding n d sheep (min b.sheep_send b.sheep_receive) else used_up n d wheat)
  by_worth true is =
      let less = strictly sheep wheat (ltb-true sheep wheat is) in
      within_both_bounds b _ (some_stays_below n d sheep b.wheat_send b.sheep_receive some_n some_d
      (natural_at_most_trans sheep wheat _ less wheat_sent)
      (natural_at_most_trans sheep wheat _ less sheep_received) rounding _
      (min-le_right b.sheep_send b.sheep_receive))
      (some_stays_below n d sheep b.wheat_receive b.sheep_send some_n some_d wheat_received sheep_sent rounding _
      (min-le_left b.sheep_send b.sheep_receive))
  by_worth false is =
      let most = ltb-false sheep wheat is in
      within_both_bounds b _
      (used_up_below n d wheat b.wheat_send b.sheep_receive some_n some_d wheat_sent sheep_received)
      (used_up_below n d wheat b.wheat_receive b.sheep_send some_n some_d
      (natural_at_most_trans wheat sheep _ most wheat_received)
      (natural_at_most_trans wheat sheep _ most sheep_sent))

  pub table_within : AreWithin b (table rounding n d b)
  unfolding wheat_stays
  table_within = by_worth (nat_lt sheep wheat) refl

  nothing_within : AreWithin b nothing
  nothing_within = record {
    wheat_send = omega arith;
    wheat_receive = omega arith;
    sheep_send = omega arith;
    sheep_receive = omega arith;
  }

  unless_within : (t : Bool) (a : Amounts) → AreWithin b a → AreWithin b (if t then nothing else a)
  unless_within true a within = nothing_within
  unless_within false a within = within

  pub exchanged_within : AreWithin b (exchanged rounding n d b)
  unfolding exchanged
  exchanged_within = unless_within
      (is_half rounding (table rounding n d b) || is_unfair rounding n d (table rounding n d b)) (table rounding n d b)
      table_within
