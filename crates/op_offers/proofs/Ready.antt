-- What a state gives in which an offer can be sold.
use Rattle.op_offers.proofs.Prelude as prelude
use prelude.{◌≡◌, refl, ap, ◌∙◌, ℕ, ◌≤◌, zero, suc, Option, Some, None, Ok, arith, ints, pos, neg_ℤ, ◌≤ℤ◌, unsigned_abs}
use prelude.{Result, IsPriced, LedgerKey, EntryMap, Undo, with_current, first_fault, unless_fault, sponsor_of}
use prelude.{unlimited, adjusted, trade_aggregates, bound_of, IsOwedRightly, one_more, Owed, one_more_is_right}
use prelude.{CrossEnd, Converted, Partial, BadPrice, CrossSelf, TooMany, Crossing, most_given, most_taken, IsInRangeAt}
use prelude.{given_fits, taken_fits, OfferFault, IsSellable, IsSold, DoPaymentsFit, DoesRestFit, end_fault, Asked}
use prelude.{source_gives_at, source_takes_at, trade_of, crossed_by, settled, amount_left, offer_left, wanted_tests}
use prelude.{after_tests, by_end, kept, Sold, sold}
use Rattle.trade_cross.specs.Crossable.{IsCrossable}
use Rattle.trade_cross.specs.Progressing.{AreTradeBounds}
use Rattle.trade_cross.proofs.Bonds.{bond_fits, payment_fits, available_within, bought_within}
use Rattle.trade_cross.proofs.StepIs.{all_in_range}
use Rattle.trade_cross.proofs.StepPlanned.{in_range_at}
use Rattle.op_offers.specs.declared.sell.Sold.{Sold as SoldOfCall}
use Rattle.op_offers.proofs.Sold.{capped_fits, done_so, gives, takes, legal_given, legal_paid, right_then}
use Rattle.op_offers.proofs.Sold.{legal_now, sells_fit, sells, legal_bound, buys}

module _ (asked : Asked) (m : EntryMap) (k : IsSellable asked m) where
  abbrev owed : Owed
  owed = one_more asked.offer.seller_id (sponsor_of asked.entry)

  owed_right : IsOwedRightly owed
  owed_right = one_more_is_right asked.offer.seller_id (sponsor_of asked.entry)

  pub crossable : IsCrossable m
  crossable = record {
    view = k.view;
    id_pool = k.id_pool;
    owed = owed;
    sum = k.sum;
    legal = k.legal;
    right = owed_right;
  }

  pub priced : IsPriced asked.offer.price
  priced = record { n = k.right.n; d = k.right.d }

  pub gives_range : IsInRangeAt m (source_gives_at asked)
  gives_range = in_range_at m (all_in_range k.view k.id_pool owed k.sum m k.legal) (source_gives_at asked)

  pub takes_range : IsInRangeAt m (source_takes_at asked)
  takes_range = in_range_at m (all_in_range k.view k.id_pool owed k.sum m k.legal) (source_takes_at asked)

  pub given_within : (base : ℕ) → most_given base m (source_gives_at asked) ≤ unlimited
  given_within base = given_fits k.view k.id_pool base owed k.sum m k.legal owed_right.covered (source_gives_at asked)
      k.right.gives

  pub taken_within : most_taken m (source_takes_at asked) ≤ unlimited
  taken_within = taken_fits k.view k.id_pool 0 owed k.sum m k.legal (source_takes_at asked) k.right.takes

  -- ---- the trade

  module _ (base : ℕ) where
    abbrev c : Crossing
    c = crossed_by base asked m

    pub trade_bounds : AreTradeBounds (trade_of base asked m)
    trade_bounds = record { sheep_send = omega (arith, ints); wheat_receive = omega (arith, ints) }

    pub payments_fit : DoPaymentsFit asked (pos c.sheep) (pos c.wheat) c.entries
    payments_fit =
        let done = done_so k.view k.id_pool k.next base k.sum asked m k.legal k.wide k.right in
        let given = legal_given k.view k.id_pool k.next base k.sum asked m k.legal k.wide k.right in
        record {
          gives = payment_fits k.view k.id_pool owed _ c.entries done.legal (source_gives_at asked)
              (neg_ℤ (pos c.sheep)) (gives k.view k.id_pool k.next base k.sum asked m k.legal k.wide k.right);
          takes = payment_fits k.view k.id_pool owed _ _ given (source_takes_at asked) (pos c.wheat)
              (takes k.view k.id_pool k.next base k.sum asked m k.legal k.wide k.right);
        }

    pub then_sellable : IsSellable asked (settled asked c)
    then_sellable = record {
      view = k.view;
      id_pool = k.id_pool;
      next = k.next;
      sum = _;
      legal = legal_paid k.view k.id_pool k.next base k.sum asked m k.legal k.wide k.right;
      wide = k.wide;
      right = right_then k.view k.id_pool k.next base k.sum asked m k.legal k.wide k.right;
    }

    -- ---- what is left

    some_fits : (j send receive : ℕ) → (send_fits : send ≤ most_given base m (source_gives_at asked))
        → (receive_fits : receive ≤ most_taken m (source_takes_at asked))
        → adjusted (unsigned_abs asked.offer.price.n) (unsigned_abs asked.offer.price.d) send receive ≡ suc j
        → DoesRestFit asked (suc j) m
    some_fits j send receive send_fits receive_fits is =
        let new = offer_left asked (suc j) in
        let covered = λ (q : LedgerKey). nothing_covers q in
        let now = legal_now k.view k.id_pool k.next base k.sum asked m k.legal k.wide k.right.n k.right.d k.right.id_low
        k.right j send receive send_fits receive_fits is in
        let can_sell = sells k.view k.id_pool k.next base k.sum asked m k.legal k.wide k.right.n k.right.d
        k.right.id_low k.right j send receive send_fits receive_fits is in
        let fits = sells_fit k.view k.id_pool k.next base k.sum asked m k.legal k.wide k.right.n k.right.d
        k.right.id_low k.right j send receive send_fits receive_fits is in
        let bound = legal_bound k.view k.id_pool k.next base k.sum asked m k.legal k.wide k.right.n k.right.d
        k.right.id_low k.right j send receive send_fits receive_fits is in
        let can_buy = buys k.view k.id_pool k.next base k.sum asked m k.legal k.wide k.right.n k.right.d
        k.right.id_low k.right j send receive send_fits receive_fits is in
        record {
          gives = bond_fits k.view k.next (trade_aggregates new) k.sum _ now (source_gives_at asked)
              (pos (bound_of new).wheat) (pos 0) can_sell
              (available_within k.view k.next (trade_aggregates new) k.sum _ now base covered (source_gives_at asked)
              (bound_of new).wheat fits);
          takes = bond_fits k.view k.next _ k.sum _ bound (source_takes_at asked) (pos 0) (pos (bound_of new).sheep)
              can_buy (bought_within k.view k.next _ k.sum _ bound (source_takes_at asked));
        }
      where
        nothing_covers : (q : LedgerKey) → pos 0 ≤ℤ pos 0
        nothing_covers q = omega (arith, ints)

    rest_by : (sheep wheat : ℕ) (end : CrossEnd) (amount : ℕ) → amount_left base asked sheep wheat end m ≡ amount
        → DoesRestFit asked amount m
    rest_by sheep wheat end zero is = tt
    rest_by sheep wheat Converted (suc j) is = absurd (cc)
    rest_by sheep wheat Partial (suc j) is =
        some_fits j _ _ (capped_fits asked.sells sheep _) (capped_fits asked.buys wheat _) is
    rest_by sheep wheat BadPrice (suc j) is =
        some_fits j _ _ (capped_fits asked.sells sheep _) (capped_fits asked.buys wheat _) is
    rest_by sheep wheat CrossSelf (suc j) is =
        some_fits j _ _ (capped_fits asked.sells sheep _) (capped_fits asked.buys wheat _) is
    rest_by sheep wheat TooMany (suc j) is =
        some_fits j _ _ (capped_fits asked.sells sheep _) (capped_fits asked.buys wheat _) is

    -- What is left can be bound.
    pub rest_fits : (sheep wheat : ℕ) (end : CrossEnd) → DoesRestFit asked (amount_left base asked sheep wheat end m) m
    rest_fits sheep wheat end = rest_by sheep wheat end (amount_left base asked sheep wheat end m) refl

-- ---- the complete sale

sale_by : (base : ℕ) (asked : Asked) (m : EntryMap) (o : Option OfferFault) (end : CrossEnd) (done : Crossing)
    → o ≡ None → end_fault end ≡ None
    → after_tests (unless_fault o m) (λ n. by_end base asked done end) ≡ Ok (kept base asked done (settled asked done))
sale_by base asked m (Some other) end done passed ended = absurd (cc)
sale_by base asked m None Converted done passed ended = refl
sale_by base asked m None Partial done passed ended = refl
sale_by base asked m None BadPrice done passed ended = refl
sale_by base asked m None CrossSelf done passed ended = absurd (cc)
sale_by base asked m None TooMany done passed ended = absurd (cc)

unless_is : (o : Option OfferFault) (m : EntryMap) (next : EntryMap → Result Sold OfferFault)
    → after_tests (unless_fault o m) next ≡ after_tests (unless_fault o m) (λ n. next m)
unless_is None m next = refl
unless_is (Some other) m next = refl

-- What passes its tests and whose trade ends well is sold.
pub sale_is : (base : ℕ) (asked : Asked) (m : EntryMap) → first_fault (wanted_tests base asked m) ≡ None
    → end_fault (crossed_by base asked m).end ≡ None
    → sold base asked m ≡ Ok (kept base asked (crossed_by base asked m) (settled asked (crossed_by base asked m)))
unfolding sold
sale_is base asked m passed ended =
    unless_is (first_fault (wanted_tests base asked m)) m _
    ∙ sale_by base asked m (first_fault (wanted_tests base asked m)) (crossed_by base asked m).end
    (crossed_by base asked m) passed ended

-- a sale after a change of the map
pub sold_after : (answer : SoldOfCall) (old now new : Undo) (n : EntryMap) (done : Sold)
    → now ≡ with_current old n → IsSold answer now new done → IsSold answer old new done
sold_after answer old now new n done was is = record {
  atoms = is.atoms;
  amount = is.amount;
  entries = is.entries ∙ ap (λ (u : Undo). with_current u done.entries) was;
}
