-- A trade that was served by its book ended since a bound was used up.
use Rattle.trade_cross.proofs.Prelude.{◌≡◌, refl, sym, ap, ◌∙◌, ℕ, ◌+◌, ◌-◌, zero, suc, Bool, true, false, arith}
use Rattle.trade_cross.proofs.Prelude.{eq-eqb, eqb-true, nat_eq, if◌then◌else◌, OfferEntry, EntryMap, Rounding, Normal}
use Rattle.trade_cross.proofs.Prelude.{StrictSend, StrictReceive, Amounts, CrossEnd, Converted, Trade, Turn, Ends}
use Rattle.trade_cross.proofs.Prelude.{Meets, Left, Crossing, step, turn, turn_at, is_used_up, ended, joined, at_limit}
use Rattle.trade_cross.proofs.Prelude.{left_after, crossed, served_by, best, or_left, or_right}

abbrev EndsServed : Rounding → Left → Crossing → Type 0
EndsServed r left done = served_by r left done ≡ true → done.end ≡ Converted

-- ---- nothing moved, and it was served: a bound is 0

nat_eq_zero_turned : (n : ℕ) → nat_eq 0 n ≡ true → nat_eq n 0 ≡ true
nat_eq_zero_turned n is = eq-eqb n 0 (sym (eqb-true 0 n is))

used_up : (r : Rounding) (left : Left) (m : EntryMap) (end : CrossEnd) → served_by r left (ended m end) ≡ true
    → is_used_up left ≡ true
used_up StrictSend left m end served = or_left _ _ (nat_eq_zero_turned left.sheep_send served)
used_up Normal left m end served = or_right (nat_eq left.sheep_send 0) _ (nat_eq_zero_turned left.wheat_receive served)
used_up StrictReceive left m end served =
    or_right (nat_eq left.sheep_send 0) _ (nat_eq_zero_turned left.wheat_receive served)

-- ---- what moved first, and what the rest moved, add up to the bound

rest_of : (a rest bound : ℕ) → nat_eq (a + rest) bound ≡ true → nat_eq rest (bound - a) ≡ true
rest_of a rest bound is = eq-eqb rest (bound - a) (let all = eqb-true (a + rest) bound is in omega arith)

rest_served : (r : Rounding) (left : Left) (o : OfferEntry) (a : Amounts) (rest : Crossing)
    → served_by r left (joined o a rest) ≡ true → served_by r (left_after left a) rest ≡ true
rest_served StrictSend left o a rest served = rest_of a.sheep rest.sheep left.sheep_send served
rest_served Normal left o a rest served = rest_of a.wheat rest.wheat left.wheat_receive served
rest_served StrictReceive left o a rest served = rest_of a.wheat rest.wheat left.wheat_receive served

module _ (base : ℕ) (trade : Trade) where
  abbrev r : Rounding
  r = trade.rounding

  -- a bound that is used up ends a turn
  turn_ends : (left : Left) (m : EntryMap) → is_used_up left ≡ true → turn trade left m ≡ Ends Converted
  unfolding turn
  turn_ends left m used =
      ap (λ t. if t then Ends Converted else turn_at trade (best m trade.wheat trade.sheep)) used

  limit_served : (left : Left) (m : EntryMap) (t : Turn) → turn trade left m ≡ t → EndsServed r left (at_limit m t)
  limit_served left m (Ends end) is served =
      let last = sym is ∙ turn_ends left m (used_up r left m end served) in cc
  limit_served left m (Meets o) is served =
      let last = sym is ∙ turn_ends left m (used_up r left m _ served) in absurd (cc)

  by_stays : (left : Left) (o : OfferEntry) (a : Amounts) (m : EntryMap) (t : Bool) (rest : Crossing)
      → EndsServed r (left_after left a) rest
      → EndsServed r left (joined o a (if t then ended m Converted else rest))
  by_stays left o a m true rest h served = refl
  by_stays left o a m false rest h served = h (rest_served r left o a rest served)

  by_turn : (k : ℕ) (left : Left) (m : EntryMap)
      → ((left : Left) (m : EntryMap) → EndsServed r left (crossed base trade k left m)) → (t : Turn)
      → turn trade left m ≡ t
      → EndsServed r left (elim t as (λ s. Crossing) [
        | Ends end ↦ ended m end
        | Meets o ↦
            let x = step base trade.rounding left o m in
            joined o x.amounts (if x.stays then ended x.entries Converted
            else crossed base trade k (left_after left x.amounts) x.entries)
      ])
  by_turn k left m rest (Ends end) is = limit_served left m (Ends end) is
  by_turn k left m rest (Meets o) is =
      let x = step base trade.rounding left o m in
      by_stays left o x.amounts x.entries x.stays (crossed base trade k (left_after left x.amounts) x.entries)
      (rest (left_after left x.amounts) x.entries)

  pub crossed_served : (k : ℕ) (left : Left) (m : EntryMap) → EndsServed r left (crossed base trade k left m)
  unfolding crossed
  crossed_served zero left m = limit_served left m (turn trade left m) refl
  crossed_served (suc k) left m = by_turn k left m (crossed_served k) (turn trade left m) refl
