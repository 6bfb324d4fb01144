-- That what the calls work out, by what an offer's owner can give and take, is the step.
use Rattle.trade_cross.proofs.Prelude as prelude
use prelude.{◌≡◌, refl, sym, ap, subst, ◌∙◌, ℕ, ◌-◌, ◌≤◌, Bool, true, false, Option, Some, None, arith, ints, ℤ, pos}
use prelude.{◌≤ℤ◌, unsigned_abs, min, if◌then◌else◌, Liabilities, AccountId, OfferEntry, LedgerKey, EntryMap, offer_at}
use prelude.{Rounding, Amounts, Bounds, adjusted, exchanged, wheat_stays, unlimited, IsPriced, releasing, View}
use prelude.{bound_of, IsOwedRightly, Owed, IsLegalOwing, Plan, IsHeld, seller_gives_at, seller_takes_at, meeting}
use prelude.{map_after_trade, step, step_by, most_given, most_taken, location_key, changing, DoesChangeFit, left_in}
use prelude.{price_n, price_d, bounds_of, rest_by, rest_of, IsPlan, giving_change, taking_change, map_with_rest}
use prelude.{moved_by, gives_in, takes_in, map_of, IsCarried, given_with, taken_with, still_under, IsInRangeAt}
use prelude.{IsBoundOf, AreSidesReady, AreSidesOf, IsMoved, nonnegative_from_natural, unsigned_abs_natural}
use Rattle.ledger_types.specs.declared.key.LedgerKey.TheVariants as key
use Rattle.trade_cross.specs.declared.location.Location.{Location}
use Rattle.trade_cross.specs.declared.location.Location.TheVariants as location
use Rattle.trade_cross.specs.declared.plan.Left.{Left as LeftOfCall}
use Rattle.trade_cross.specs.declared.plan.Sides.{Sides}
use Rattle.trade_cross.specs.Plans.{amounts_of, still_most}
use Rattle.trade_cross.proofs.Binding.{given_fits, taken_fits}
use Rattle.trade_cross.proofs.Fits.{AreAllInRange}
use Rattle.trade_cross.proofs.SeenSides.{given_same, taken_same, given_then, taken_then}
use Rattle.trade_cross.proofs.StepIs.{all_in_range, apart, range, gives_held, takes_held, has, takes, rest, changes_fit}
use Rattle.trade_cross.proofs.StepIs.{step_is}
use Rattle.trade_cross.proofs.StepLegal.{IsOpen, owed_then, covered_then, release_open}

pub in_range_at : (m : EntryMap) → AreAllInRange m → (k : Option LedgerKey) → IsInRangeAt m k
in_range_at m all None = tt
in_range_at m all (Some (key.Account id)) = all.accounts id
in_range_at m all (Some (key.TrustLine id x)) = λ t there. (all.lines id x t there).0
in_range_at m all (Some other) = tt

still_is : (owner : AccountId) (p : Location) (most moved : ℕ)
    → still_most p most moved ≡ still_under (location_key owner p) most moved
still_is owner location.Account most moved = refl
still_is owner (location.Line held) most moved = refl
still_is owner location.Nowhere most moved = refl

module _ (v : View) (id_pool base : ℕ) (owed : Owed) (right : IsOwedRightly owed) (o : OfferEntry) (sum : ℤ)
    (m : EntryMap) (legal : IsLegalOwing v id_pool owed sum m) (exists : offer_at m o.seller_id o.offer_id ≡ Some o)
  where
    abbrev w : Option LedgerKey
    w = seller_gives_at o

    abbrev s : Option LedgerKey
    s = seller_takes_at o

    abbrev r : EntryMap
    r = releasing o m

    open_r : IsOpen v id_pool owed sum r o
    open_r = release_open v id_pool base owed right o sum m legal exists

    w_held : IsHeld m w
    w_held = gives_held v id_pool base owed right o sum m legal exists

    s_held : IsHeld m s
    s_held = takes_held v id_pool base owed right o sum m legal exists

    same_w : given_with base (pos (bound_of o).wheat) m w ≡ most_given base r w
    same_w = given_same base m legal.keyed o (apart v id_pool base owed right o sum m legal exists) w_held

    same_s : taken_with (pos (bound_of o).sheep) m s ≡ most_taken r s
    same_s = taken_same base m legal.keyed o (apart v id_pool base owed right o sum m legal exists) s_held

    pub priced : IsPriced o.price
    priced = let its = range v id_pool base owed right o sum m legal exists in record { n = its.n; d = its.d }

    pub amount_low : pos 0 ≤ℤ o.amount
    amount_low = let its = range v id_pool base owed right o sum m legal exists in let some = its.amount in
        omega (arith, ints)

    pub sides_ready : AreSidesReady base m o
    sides_ready = record {
      gives_range = in_range_at m (all_in_range v id_pool owed sum m legal) w;
      takes_range = in_range_at m (all_in_range v id_pool owed sum m legal) s;
      gives = subst (λ n. n ≤ unlimited) (sym same_w) (given_fits v id_pool base
          (owed_then v id_pool base owed right o) sum r open_r.legal (covered_then v id_pool base owed right o) w
          open_r.gives);
      takes = subst (λ n. n ≤ unlimited) (sym same_s) (taken_fits v id_pool base
          (owed_then v id_pool base owed right o) sum r open_r.legal s open_r.takes);
    }

    module _ (rounding : Rounding) (left : LeftOfCall) (sides : Sides) (are : AreSidesOf base m o sides) (plan : Plan)
        (is : IsPlan rounding o sides left plan) where
      abbrev b : Bounds
      b = meeting base r o (left_in left)

      abbrev a : Amounts
      a = exchanged rounding (price_n o) (price_d o) b

      abbrev t : EntryMap
      t = map_after_trade o a r

      gives_is : unsigned_abs sides.gives ≡ most_given base r w
      gives_is = unsigned_abs_natural sides.gives _ are.gives ∙ same_w

      takes_is : unsigned_abs sides.takes ≡ most_taken r s
      takes_is = unsigned_abs_natural sides.takes _ are.takes ∙ same_s

      bounds_is : bounds_of o sides left ≡ b
      bounds_is = λ i. record {
        wheat_send = adjusted (price_n o) (price_d o) (min (unsigned_abs o.amount) (gives_is i)) (takes_is i);
        wheat_receive = (left_in left).wheat_receive;
        sheep_send = (left_in left).sheep_send;
        sheep_receive = takes_is i;
      }

      amounts_is : amounts_of rounding o sides left ≡ a
      amounts_is = ap (exchanged rounding (price_n o) (price_d o)) bounds_is

      pub wheat_is : plan.wheat ≡ pos a.wheat
      wheat_is = is.wheat ∙ ap (λ (x : Amounts). pos x.wheat) amounts_is

      pub sheep_is : plan.sheep ≡ pos a.sheep
      sheep_is = is.sheep ∙ ap (λ (x : Amounts). pos x.sheep) amounts_is

      pub stays_is : plan.wheat_stays ≡ wheat_stays (price_n o) (price_d o) b
      stays_is = is.stays ∙ ap (wheat_stays (price_n o) (price_d o)) bounds_is

      gives_then : still_most sides.gives_at (unsigned_abs sides.gives) a.wheat ≡ most_given base t w
      gives_then =
          still_is o.seller_id sides.gives_at (unsigned_abs sides.gives) a.wheat
          ∙ (λ i. still_under (are.gives_at i) (gives_is i) a.wheat)
          ∙ sym (given_then base m legal.keyed o (apart v id_pool base owed right o sum m legal exists) a w_held
          (has v id_pool base owed right o sum m legal exists rounding (left_in left)))

      takes_then : still_most sides.takes_at (unsigned_abs sides.takes) a.sheep ≡ most_taken t s
      takes_then =
          still_is o.seller_id sides.takes_at (unsigned_abs sides.takes) a.sheep
          ∙ (λ i. still_under (are.takes_at i) (takes_is i) a.sheep)
          ∙ sym (taken_then base m legal.keyed o (apart v id_pool base owed right o sum m legal exists) a s_held
          (takes v id_pool base owed right o sum m legal exists rounding (left_in left)))

      abbrev its_rest : ℕ
      its_rest = rest v id_pool base owed right o sum m legal exists rounding (left_in left)

      rest_then : rest_of rounding o sides left ≡ its_rest
      rest_then =
          (λ i. rest_by o sides (bounds_is i).wheat_send (amounts_is i).wheat (amounts_is i).sheep
          (wheat_stays (price_n o) (price_d o) (bounds_is i)))
          ∙ (λ i. if wheat_stays (price_n o) (price_d o) b
          then adjusted (price_n o) (price_d o) (min (b.wheat_send - a.wheat) (gives_then i)) (takes_then i) else 0)

      pub rest_is : plan.rest ≡ pos its_rest
      rest_is = is.rest ∙ ap pos rest_then

      moved_is : moved_by plan ≡ a
      moved_is = λ i. record
          { wheat = unsigned_abs_natural plan.wheat _ wheat_is i; sheep = unsigned_abs_natural plan.sheep _ sheep_is i }

      rest_abs : unsigned_abs plan.rest ≡ its_rest
      rest_abs = unsigned_abs_natural plan.rest _ rest_is

      gives_change : gives_in o plan ≡ giving_change o a its_rest
      gives_change = λ i. giving_change o (moved_is i) (rest_abs i)

      takes_change : takes_in o plan ≡ taking_change o a its_rest
      takes_change = λ i. taking_change o (moved_is i) (rest_abs i)

      abbrev fit : DoesChangeFit m w (giving_change o a its_rest)
          × DoesChangeFit (changing w (giving_change o a its_rest) m) s (taking_change o a its_rest)
      fit = changes_fit v id_pool base owed right o sum m legal exists rounding (left_in left)

      pub gives_fit : DoesChangeFit m (location_key o.seller_id sides.gives_at) (gives_in o plan)
      gives_fit = subst (λ k. DoesChangeFit m k (gives_in o plan)) (sym are.gives_at)
          (subst (λ c. DoesChangeFit m w c) (sym gives_change) fit.0)

      pub takes_fit : DoesChangeFit (changing (location_key o.seller_id sides.gives_at) (gives_in o plan) m)
          (location_key o.seller_id sides.takes_at) (takes_in o plan)
      takes_fit = subst (λ k. DoesChangeFit (changing k (gives_in o plan) m) (location_key o.seller_id sides.takes_at)
          (takes_in o plan)) (sym are.gives_at)
          (subst (λ k. DoesChangeFit (changing w (gives_in o plan) m) k (takes_in o plan)) (sym are.takes_at)
          (subst (λ c. DoesChangeFit (changing w c m) s (takes_in o plan)) (sym gives_change)
          (subst (λ c. DoesChangeFit (changing w (giving_change o a its_rest) m) s c) (sym takes_change) fit.1)))

      pub carried : (bound : Liabilities) → IsBoundOf o bound → IsCarried o bound plan
      carried bound bound_is = record {
        wheat = nonnegative_from_natural plan.wheat _ wheat_is;
        sheep = nonnegative_from_natural plan.sheep _ sheep_is;
        rest = nonnegative_from_natural plan.rest _ rest_is;
        selling = bound_is.selling;
        buying = bound_is.buying;
      }

      pub entries_are : map_with_rest o (unsigned_abs plan.rest) (map_of o sides plan m)
          ≡ (step base rounding (left_in left) o m).entries
      entries_are =
          (λ i. map_with_rest o (rest_abs i) (changing (are.takes_at i) (takes_change i)
          (changing (are.gives_at i) (gives_change i) m)))
          ∙ sym (step_is v id_pool base owed right o sum m legal exists rounding (left_in left))

      amounts_of_step : (x : Bool) → (step_by base o b a x t).amounts ≡ a
      amounts_of_step true = refl
      amounts_of_step false = refl

      stays_of_step : (x : Bool) → (step_by base o b a x t).stays ≡ x
      stays_of_step true = refl
      stays_of_step false = refl

      pub is_moved : IsMoved plan (step base rounding (left_in left) o m)
      unfolding step
      is_moved = record {
        wheat = wheat_is ∙ ap (λ (x : Amounts).
            pos x.wheat) (sym (amounts_of_step (wheat_stays (price_n o) (price_d o) b)));
        sheep = sheep_is ∙ ap (λ (x : Amounts).
            pos x.sheep) (sym (amounts_of_step (wheat_stays (price_n o) (price_d o) b)));
        stays = stays_is ∙ sym (stays_of_step (wheat_stays (price_n o) (price_d o) b));
      }
