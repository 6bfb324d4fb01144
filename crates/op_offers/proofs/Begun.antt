-- That an offer which is made can be sold, once its fields and lines have passed their tests and its reserve is
-- counted.
use Rattle.op_offers.proofs.Prelude.{◌≡◌, sym, subst, ◌+◌, false, Option, Some, None, Ok, arith, ℤ, pos, ◌≤ℤ◌, int_lt}
use Rattle.op_offers.proofs.Prelude.{EntryMap, Ctx, map_after_counting_subentry, holder, Ask, is_malformed, is_no_pair}
use Rattle.op_offers.proofs.Prelude.{is_out_of_range, IsManageable, IsSellable, IsSound, IsLimitOf, IsLimitLow}
use Rattle.op_offers.proofs.Prelude.{sell_fault, buy_fault, new_asked, int_lt_false, or_parts}
use Rattle.op_offers.proofs.NewOffers.{new_counted, new_rightly}
use Rattle.op_offers.proofs.Tested.{valid_ask}

-- ---- limits

amount_low : (ask : Ask) → is_malformed ask ≡ false → pos 0 ≤ℤ ask.amount
amount_low ask valid =
    let range = or_parts (is_no_pair ask) (is_out_of_range ask) valid in
    int_lt_false ask.amount (pos 0) (or_parts (int_lt ask.amount (pos 0)) _ range.1).0

limit_low : (amount : ℤ) (o : Option ℤ) → pos 0 ≤ℤ amount → IsLimitOf amount o → IsLimitLow o
limit_low amount None low is = tt
limit_low amount (Some n) low is = subst (λ x. pos 0 ≤ℤ x) (sym is) low

pub sells_low : (ask : Ask) → IsSound ask → IsLimitLow ask.sells
sells_low ask sound = limit_low ask.amount ask.sells (amount_low ask sound.valid) sound.formed.sells

pub buys_low : (ask : Ask) → IsSound ask → IsLimitLow ask.buys
buys_low ask sound = limit_low ask.amount ask.buys (amount_low ask sound.valid) sound.formed.buys

-- ---- a new offer

pub made_sellable : (ctx : Ctx) (m : EntryMap) → IsManageable ctx m → (ask : Ask) → IsSound ask
    → sell_fault m (holder ctx.op_source ask.selling) ≡ None → buy_fault m (holder ctx.op_source ask.buying) ≡ None
    → (new : EntryMap) → map_after_counting_subentry ctx ctx.op_source 1 m ≡ Ok new
    → IsSellable (new_asked ctx ask) new
made_sellable ctx m k ask sound sell_passed buy_passed new counted = record {
  view = k.view;
  id_pool = ctx.id_pool;
  next = ctx.id_pool + 1;
  sum = k.sum;
  legal = new_counted ctx ask m k.view k.sum k.legal k.source k.sponsor new counted;
  wide = omega arith;
  right = new_rightly ctx ask m k.view k.sum k.legal k.source k.sponsor new counted (valid_ask ask sound.valid)
      sound.formed.flags sell_passed buy_passed;
}
