-- An offer that is out of the book and sold, in a map of which an invariant holds.
use Rattle.entry_map.specs.EntryMap.{EntryMap, put}
use Rattle.entry_slots.specs.EntrySponsor.{sponsor_of}
use Rattle.entry_slots.specs.Tests.{first_fault, unless_fault}
use Rattle.ledger_types.proofs.Arithmetic.{natural_nonnegative, unsigned_abs_positive, zero_at_most}
use Rattle.ledger_types.specs.declared.offer.OfferEntry.{OfferEntry}
use Rattle.legal_rules.specs.OfferLaws.{trade_aggregates}
use Rattle.legal_rules.specs.OfferLiabilities.{bound_of}
use Rattle.offer_exchange.specs.Exchange.{adjusted, unlimited}
use Rattle.op_offers.proofs.Ready.{crossable, given_within, then_sellable}
use Rattle.op_offers.proofs.Sold.{capped_fits, legal_now, sells_fit}
use Rattle.op_offers.specs.Calls.{IsSellable}
use Rattle.op_offers.specs.Selling.{Asked, Sold, after_tests, by_end, crossed_by, kept, left_of, map_after_keeping}
use Rattle.op_offers.specs.Selling.{offer_left, settled, sold, source_gives_at, source_takes_at, trade_of}
use Rattle.op_offers.specs.Selling.{wanted_tests}
use Rattle.op_offers.specs.declared.fault.OfferFault.{OfferFault}
use Rattle.reserve_rules.specs.Reserve.{greatest_i64}
use Rattle.std.proofs.Common.{IfOk, refl, subst, suc, zero}
use Rattle.std.specs.Prelude.{All, None, Option, Result, Some, length, neg_ℤ, pos, unsigned_abs, ℕ, ◌≡◌, ◌≤ℤ◌, ◌≤◌}
use Rattle.sponsor_rules.proofs.Charges.{discounting}
use Rattle.sponsor_rules.proofs.Entries.{Invariant}
use Rattle.trade_cross.specs.Crossing.{Crossing, most_crossings}
use Rattle.trade_cross.specs.Holdings.{most_given, most_taken, paying}
use Rattle.trade_cross.specs.declared.crossed.CrossEnd.TheVariants.{BadPrice, Converted, CrossSelf, Partial, TooMany}
use Rattle.trade_cross.specs.declared.crossed.CrossEnd.{CrossEnd}
use Rattle.trade_cross.proofs.BoundHold.{MaySell, acquiring_holds, paying_holds}
use Rattle.trade_cross.proofs.CrossedHold.{AreCrossed, adjusted_few, amount_high, available_may, crossed_holds}
use Rattle.ledger_types.specs.declared.entry.LedgerEntryBody.TheVariants as body
use Rattle.trade_cross.specs.Crossing.{left_of as left_of_trade}

-- the amount is at most the greatest, where that is asked
abbrev pub IsFewIf : Invariant → ℕ → Type 0
IsFewIf g n = g.Asks → pos n ≤ℤ greatest_i64

-- a map of which the invariant holds, with an amount that may be
record AreKept (g : Invariant) (n : ℕ) (m : EntryMap) : Type 0 where
  entries : g.Holds m
  amount : IsFewIf g n

-- what a sale leaves and reports, and how much is still offered
pub record AreSold (g : Invariant) (done : Sold) : Type 0 where
  pub entries : g.Holds done.entries
  pub reported : All g.Reported done.crossed.atoms
  pub few : length done.crossed.atoms ≤ most_crossings
  pub amount : IsFewIf g done.amount

-- what is asked for fits
pub record IsAskedFit (g : Invariant) (asked : Asked) : Type 0 where
  pub offer : g.of.Offer asked.offer
  pub sponsor : g.of.Sponsor (sponsor_of asked.entry)

-- ---- what is kept

module _ (base : ℕ) (asked : Asked) (m : EntryMap) where
  -- what legality says of it
  module _ (s : IsSellable asked m) where
    module _ (j send receive : ℕ) (send_fits : send ≤ most_given base m (source_gives_at asked))
        (receive_fits : receive ≤ most_taken m (source_takes_at asked))
        (is : adjusted (unsigned_abs asked.offer.price.n) (unsigned_abs asked.offer.price.d) send receive ≡ suc j) where
      abbrev new : OfferEntry
      new = offer_left asked (suc j)

      abbrev put_map : EntryMap
      put_map = put m (record asked.entry { body = body.Offer new })

      some_few : pos (suc j) ≤ℤ greatest_i64
      some_few = amount_high (suc j) (subst (λ x. x ≤ unlimited) is
          (adjusted_few (unsigned_abs asked.offer.price.n) (unsigned_abs asked.offer.price.d) send receive
          (most_given base m (source_gives_at asked)) (unsigned_abs_positive asked.offer.price.n s.right.n)
          (unsigned_abs_positive asked.offer.price.d s.right.d) send_fits
          (given_within asked m s base)))

      some_may : MaySell put_map (source_gives_at asked) (pos (bound_of new).wheat)
      some_may =
          available_may s.view s.next (trade_aggregates new) s.sum put_map
          (legal_now s.view s.id_pool s.next base s.sum asked m s.legal s.wide s.right.n s.right.d s.right.id_low
          s.right j send receive send_fits receive_fits is) base (λ q. (natural_nonnegative 0)) (source_gives_at asked)
          (bound_of new).wheat
          (sells_fit s.view s.id_pool s.next base s.sum asked m s.legal s.wide s.right.n s.right.d s.right.id_low
          s.right j send receive send_fits receive_fits is)

  module _ (g : Invariant) (legal : g.Asks → IsSellable asked m) (fits : IsAskedFit g asked) (holds : g.Holds m) where
    none_kept : AreKept g zero (map_after_keeping asked zero m)
    none_kept = record {
      entries = discounting g asked.offer.seller_id 1 (sponsor_of asked.entry) m holds;
      amount = λ asks. amount_high 0 (zero_at_most unlimited);
    }

    some_kept : (j send receive : ℕ) → send ≤ most_given base m (source_gives_at asked)
        → receive ≤ most_taken m (source_takes_at asked)
        → adjusted (unsigned_abs asked.offer.price.n) (unsigned_abs asked.offer.price.d) send receive ≡ suc j
        → AreKept g (suc j) (map_after_keeping asked (suc j) m)
    some_kept j send receive send_fits receive_fits is =
        let e = record asked.entry { body = body.Offer (offer_left asked (suc j)) } in
        let few : IsFewIf g (suc j) = λ asks. some_few (legal asks) j send receive send_fits receive_fits is in
        record {
          entries = acquiring_holds g (offer_left asked (suc j)) (put m e)
              (λ asks. some_may (legal asks) j send receive send_fits receive_fits is)
              (g.putting m e holds (record {
                body = g.offer_left (suc j) asked.offer (λ asks. (few asks, fits.offer));
                sponsor = fits.sponsor;
              }));
          amount = few;
        }

    by_amount : (done : Crossing) (end : CrossEnd) (amount : ℕ) → left_of base asked done end m ≡ amount
        → AreKept g amount (map_after_keeping asked amount m)
    by_amount done end zero is = none_kept
    by_amount done Converted (suc j) is = absurd (cc)
    by_amount done Partial (suc j) is = some_kept j _ _ (capped_fits asked.sells done.sheep _)
        (capped_fits asked.buys done.wheat _) is
    by_amount done BadPrice (suc j) is = some_kept j _ _ (capped_fits asked.sells done.sheep _)
        (capped_fits asked.buys done.wheat _) is
    by_amount done CrossSelf (suc j) is = some_kept j _ _ (capped_fits asked.sells done.sheep _)
        (capped_fits asked.buys done.wheat _) is
    by_amount done TooMany (suc j) is = some_kept j _ _ (capped_fits asked.sells done.sheep _)
        (capped_fits asked.buys done.wheat _) is

    kept_holds : (done : Crossing) → AreKept g (kept base asked done m).amount (kept base asked done m).entries
    kept_holds done = by_amount done done.end (left_of base asked done done.end m) refl

-- ---- the complete sale

-- what holds of what a step gives, if it gives something
pub record Gives {A F : Type 0} (P : A → Type 0) (made : Result A F) : Type 0 where
  pub gives : IfOk made P

module _ (g : Invariant) (base : ℕ) (asked : Asked) (m : EntryMap) (legal : g.Asks → IsSellable asked m)
    (fits : IsAskedFit g asked) (holds : g.Holds m) where
  abbrev c : Crossing
  c = crossed_by base asked m

  abbrev paid_map : EntryMap
  paid_map = settled asked c

  its_crossed : AreCrossed g most_crossings c
  its_crossed = crossed_holds g base (trade_of base asked m) most_crossings (left_of_trade (trade_of base asked m)) m
      (λ asks. crossable asked m (legal asks)) holds

  its_sold : AreSold g (kept base asked c paid_map)
  its_sold =
      let left = kept_holds base asked paid_map g (λ asks. then_sellable asked m (legal asks) base) fits
      (paying_holds g (source_takes_at asked) (pos c.wheat)
      (paying (source_gives_at asked) (neg_ℤ (pos c.sheep)) c.entries)
      (paying_holds g (source_gives_at asked) (neg_ℤ (pos c.sheep)) c.entries its_crossed.entries)) c in
      record {
        entries = left.entries;
        reported = its_crossed.reported;
        few = its_crossed.few;
        amount = left.amount;
      }

  by_its_end : (end : CrossEnd) → Gives (AreSold g) (by_end base asked c end)
  by_its_end CrossSelf = record { gives = tt }
  by_its_end TooMany = record { gives = tt }
  by_its_end other = record { gives = its_sold }

  past_tests : (found : Option OfferFault)
      → Gives (AreSold g) (after_tests (unless_fault found m) (λ now.
      let done = crossed_by base asked now in by_end base asked done done.end))
  past_tests None = by_its_end c.end
  past_tests (Some other) = record { gives = tt }

  -- what is sold, where the tests let it be
  pub sold_holds : Gives (AreSold g) (sold base asked m)
  unfolding sold
  sold_holds = past_tests (first_fault (wanted_tests base asked m))
