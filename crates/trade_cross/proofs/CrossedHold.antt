-- Offers that are crossed, one after another, in a map of which an invariant holds.
use Rattle.entry_map.specs.EntryMap.{EntryMap}
use Rattle.entry_slots.specs.Offers.{offer_at, with_offer}
use Rattle.ledger_types.proofs.Arithmetic.{natural_at_most_trans, suc_at_most_suc, unsigned_abs_positive}
use Rattle.ledger_types.proofs.Arithmetic.{zero_at_most}
use Rattle.ledger_types.proofs.Booleans.{if_either}
use Rattle.ledger_types.specs.declared.key.LedgerKey.{LedgerKey}
use Rattle.ledger_types.specs.declared.offer.OfferEntry.{OfferEntry}
use Rattle.legal_rules.proofs.OffersKept.{offer_entry}
use Rattle.legal_rules.specs.Aggregates.{Sponsored, Subentries, View}
use Rattle.legal_rules.specs.Binding.{releasing}
use Rattle.legal_rules.specs.OfferLiabilities.{bound_of}
use Rattle.legal_rules.specs.Owing.{IsLegalOwing, Owed}
use Rattle.legal_rules.specs.Ranges.{IsOfferInRange}
use Rattle.offer_exchange.proofs.Within.{exchanged_within}
use Rattle.offer_exchange.specs.Exchange.{Amounts, Bounds, adjusted, exchanged, offered, unlimited, wheat_stays}
use Rattle.offer_exchange.specs.declared.rounding.Rounding.TheVariants.{Normal}
use Rattle.offer_exchange.specs.declared.rounding.Rounding.{Rounding}
use Rattle.reserve_rules.specs.Reserve.{greatest_i64}
use Rattle.sponsor_rules.specs.Removing.{map_after_removing}
use Rattle.std.proofs.Common.{arith, refl, subst, suc, zero, ◌-◌}
use Rattle.std.proofs.Math.Nat.{min-le_right}
use Rattle.std.proofs.lemmas.Int.{ints}
use Rattle.std.proofs.lemmas.List.Elements.{All-cons, All-nil}
use Rattle.std.specs.Prelude.{All, Bool, Option, Some, false, if◌then◌else◌, length, min, neg_ℤ, pos, true}
use Rattle.std.specs.Prelude.{unsigned_abs, ℕ, ℤ, ◌+ℤ◌, ◌≡◌, ◌≤ℤ◌, ◌≤◌}
use Rattle.sponsor_rules.proofs.Changes.{offer_changed}
use Rattle.sponsor_rules.proofs.Charges.{removing_holds}
use Rattle.sponsor_rules.proofs.Entries.{FitsBody, Invariant}
use Rattle.trade_cross.proofs.Binding.{given_fits}
use Rattle.trade_cross.proofs.Bonds.{available_within}
use Rattle.trade_cross.proofs.CrossedLegal.{met}
use Rattle.trade_cross.proofs.StepLegal.{IsOpen, account_keeps, covered_then, enough, in_bounds, its_range, owed_then}
use Rattle.trade_cross.proofs.StepLegal.{release_open, same_given, sells_fit, step_legal, trade_open}
use Rattle.trade_cross.specs.Crossable.{IsCrossable}
use Rattle.trade_cross.specs.Crossing.{Crossing, Left, amount_at, at_limit, atom_of, crossed, ended, joined}
use Rattle.trade_cross.specs.Crossing.{left_after, map_after_rest, map_after_trade, meeting, offer_key}
use Rattle.trade_cross.specs.Crossing.{seller_gives_at, seller_takes_at, step, step_by, turn, with_amount}
use Rattle.trade_cross.specs.CrossingLaws.{kept_by}
use Rattle.trade_cross.specs.Holdings.{most_given, most_taken, paying}
use Rattle.trade_cross.specs.declared.crossed.CrossEnd.TheVariants.{Converted, TooMany}
use Rattle.trade_cross.specs.declared.crossed.CrossEnd.{CrossEnd}
use Rattle.trade_cross.specs.declared.trade.Trade.{Trade}
use Rattle.trade_cross.specs.declared.turn.Turn.TheVariants.{Ends, Meets}
use Rattle.trade_cross.specs.declared.turn.Turn.{Turn}
use Rattle.trade_cross.proofs.BoundHold.{MaySell, acquiring_holds, paying_holds, releasing_holds, same_may, still_may}
use Rattle.ledger_types.specs.declared.key.LedgerKey.TheVariants as key

-- ---- what may be sold

some_more : (n : ℕ) → pos 1 ≤ℤ pos (suc n)
some_more n = omega (arith, ints)

-- what is available may be sold
module _ (v : View) (id_pool : ℕ) (owed : Owed) (sum : ℤ) (m : EntryMap) (legal : IsLegalOwing v id_pool owed sum m)
    (base : ℕ) (covered : (k : LedgerKey) → owed Subentries k ≤ℤ owed Sponsored k) where
  pub available_may : (o : Option LedgerKey) (n : ℕ) → n ≤ most_given base m o → MaySell m o (pos n)
  available_may o zero le = same_may m o
  available_may (Some (key.Account id)) (suc n) le =
      λ a at most. available_within v id_pool owed sum m legal base covered (Some (key.Account id)) (suc n) le id a refl
      at (some_more n)
  available_may other (suc n) le = tt

-- ---- amounts

pub amount_high : (n : ℕ) → n ≤ unlimited → pos n ≤ℤ greatest_i64
amount_high n le = omega (arith, ints)

-- an amount that is adjusted is within what is sent
pub adjusted_few : (n d send receive most : ℕ) → 1 ≤ n → 1 ≤ d → send ≤ most → most ≤ unlimited
    → adjusted n d send receive ≤ unlimited
unfolding adjusted
adjusted_few n d send receive most n_some d_some fits few =
    natural_at_most_trans _ send unlimited (exchanged_within Normal n d (offered send receive) n_some d_some).wheat_send
    (natural_at_most_trans send most unlimited fits few)

-- ---- one offer

its_fits : (g : Invariant) (m : EntryMap) (o : OfferEntry) → offer_at m o.seller_id o.offer_id ≡ Some o → g.Holds m
    → g.of.Offer o
its_fits g m o exists holds =
    let found = offer_entry m o.seller_id o.offer_id o exists in
    subst (FitsBody g.of) found.1.is (g.found m (offer_key o) found.0 holds found.1.there).body

module _ (base : ℕ) (rounding : Rounding) (left : Left) (o : OfferEntry) (m : EntryMap) where
  abbrev w : Option LedgerKey
  w = seller_gives_at o

  abbrev s : Option LedgerKey
  s = seller_takes_at o

  abbrev r : EntryMap
  r = releasing o m

  abbrev n : ℕ
  n = unsigned_abs o.price.n

  abbrev d : ℕ
  d = unsigned_abs o.price.d

  abbrev b : Bounds
  b = meeting base r o left

  abbrev a : Amounts
  a = exchanged rounding n d b

  abbrev t : EntryMap
  t = map_after_trade o a r

  -- what is left of it
  abbrev new : ℕ → OfferEntry
  new j = with_amount (suc j) o

  abbrev now : ℕ → EntryMap
  now j = with_offer t o.seller_id o.offer_id (λ was. new j)

  -- what legality says of it
  module _ (k : IsCrossable m) (exists : offer_at m o.seller_id o.offer_id ≡ Some o) where
    abbrev sum_then : ℤ
    sum_then = k.sum +ℤ kept_by k.view.asset (atom_of o a)

    abbrev owed_t : Owed
    owed_t = owed_then k.view k.id_pool base k.owed k.right o

    open_t : IsOpen k.view k.id_pool k.owed sum_then t o
    open_t = trade_open k.view k.id_pool base k.owed k.right o k.sum r
        (release_open k.view k.id_pool base k.owed k.right o k.sum m k.legal exists) a
        (enough k.view k.id_pool base k.owed k.right o k.sum m k.legal exists rounding left)
        (in_bounds k.view k.id_pool base k.owed k.right o k.sum m k.legal exists rounding left).sheep_receive

    range : IsOfferInRange k.id_pool o
    range = its_range k.view k.id_pool base k.owed k.right o sum_then t open_t

    covered : (q : LedgerKey) → owed_t Subentries q ≤ℤ owed_t Sponsored q
    covered = covered_then k.view k.id_pool base k.owed k.right o

    few : (amount j : ℕ) → amount_at base t o amount ≡ suc j → pos (suc j) ≤ℤ greatest_i64
    few amount j is = amount_high (suc j) (subst (λ x. x ≤ unlimited) is
        (adjusted_few n d (min amount (most_given base t w)) (most_taken t s) (most_given base t w)
        (unsigned_abs_positive o.price.n range.n) (unsigned_abs_positive o.price.d range.d)
        (min-le_right amount (most_given base t w))
        (given_fits k.view k.id_pool base owed_t sum_then t open_t.legal covered w open_t.gives)))

    may : (amount j : ℕ) → amount_at base t o amount ≡ suc j
        → MaySell (now j) w (pos (bound_of (new j)).wheat)
    may amount j is =
        let has_wheat = subst (λ x. (bound_of (new j)).wheat ≤ x)
        (same_given t o (new j) open_t.exists refl refl base w)
        (sells_fit k.view k.id_pool base k.owed k.right o sum_then t open_t j amount is) in
        still_may t (now j) w (pos (bound_of (new j)).wheat) (account_keeps t o (new j) open_t.exists refl refl)
        (available_may k.view k.id_pool owed_t sum_then t open_t.legal base covered w
        (bound_of (new j)).wheat has_wheat)

    then_crossable : IsCrossable (step base rounding left o m).entries
    then_crossable = record {
      view = k.view;
      id_pool = k.id_pool;
      owed = k.owed;
      sum = _;
      legal = step_legal k.view k.id_pool base k.owed k.right o k.sum m k.legal exists rounding left;
      right = k.right;
    }

  module _ (g : Invariant) (legal : g.Asks → IsCrossable m)
      (exists : g.Asks → offer_at m o.seller_id o.offer_id ≡ Some o) (holds : g.Holds m) where
    traded : g.Holds t
    traded =
        paying_holds g s (pos a.sheep) (paying w (neg_ℤ (pos a.wheat)) r)
        (paying_holds g w (neg_ℤ (pos a.wheat)) r (releasing_holds g o m holds))

    gone : g.Holds (map_after_removing (offer_key o) t)
    gone = removing_holds g (offer_key o) t (g.others (offer_key o) tt) traded

    rest_by : (amount rest : ℕ) → amount_at base t o amount ≡ rest → g.Holds (map_after_rest o rest t)
    rest_by amount zero is = gone
    rest_by amount (suc j) is =
        acquiring_holds g (new j) (now j) (λ asks. may (legal asks) (exists asks) amount j is)
        (offer_changed g (λ was. new j) (λ was fits. g.offer_left (suc j) o
        (λ asks. (few (legal asks) (exists asks) amount j is, its_fits g m o (exists asks) holds))) t o.seller_id
        o.offer_id traded)

    by_stays : (x : Bool) → g.Holds (step_by base o b a x t).entries
    by_stays true = rest_by (b.wheat_send - a.wheat) (amount_at base t o (b.wheat_send - a.wheat)) refl
    by_stays false = gone

    pub step_holds : g.Holds (step base rounding left o m).entries
    unfolding step
    step_holds = by_stays (wheat_stays n d b)

-- ---- all that are crossed

-- what a trade of at most so many offers leaves and reports
pub record AreCrossed (g : Invariant) (most : ℕ) (done : Crossing) : Type 0 where
  pub entries : g.Holds done.entries
  pub reported : All g.Reported done.atoms
  pub few : length done.atoms ≤ most

module _ (g : Invariant) where
  nothing_crossed : (most : ℕ) (m : EntryMap) (end : CrossEnd) → g.Holds m → AreCrossed g most (ended m end)
  nothing_crossed most m end holds =
      record { entries = holds; reported = All-nil g.Reported; few = zero_at_most most }

  limited : (m : EntryMap) (t : Turn) → g.Holds m → AreCrossed g 0 (at_limit m t)
  limited m (Ends end) holds = nothing_crossed 0 m end holds
  limited m (Meets o) holds = nothing_crossed 0 m TooMany holds

  also_crossed : (most : ℕ) (o : OfferEntry) (a : Amounts) (rest : Crossing) → g.Reported (atom_of o a)
      → AreCrossed g most rest → AreCrossed g (suc most) (joined o a rest)
  also_crossed most o a rest reported h = record {
    entries = h.entries;
    reported = All-cons g.Reported (atom_of o a) rest.atoms reported h.reported;
    few = suc_at_most_suc (length rest.atoms) most h.few;
  }

  module _ (base : ℕ) (trade : Trade) where
    by_turn : (k : ℕ) (left : Left) (m : EntryMap)
        → ((left : Left) (m : EntryMap) → (g.Asks → IsCrossable m) → g.Holds m
        → AreCrossed g k (crossed base trade k left m)) → (g.Asks → IsCrossable m) → g.Holds m
        → (t : Turn) → turn trade left m ≡ t
        → AreCrossed g (suc k) (elim t as (λ s. Crossing) [
          | Ends end ↦ ended m end
          | Meets o ↦
              let x = step base trade.rounding left o m in
              joined o x.amounts (if x.stays then ended x.entries Converted
              else crossed base trade k (left_after left x.amounts) x.entries)
        ])
    by_turn k left m rest legal holds (Ends end) is = nothing_crossed (suc k) m end holds
    by_turn k left m rest legal holds (Meets o) is =
        let exists : g.Asks → offer_at m o.seller_id o.offer_id ≡ Some o =
        λ asks. (met trade left m (legal asks).legal.keyed o is).book.exists in
        let x = step base trade.rounding left o m in
        let next = crossed base trade k (left_after left x.amounts) x.entries in
        let now = step_holds base trade.rounding left o m g legal exists holds in
        also_crossed k o x.amounts (if x.stays then ended x.entries Converted else next)
        (g.crossed o (pos x.amounts.wheat) (pos x.amounts.sheep) (λ asks. its_fits g m o (exists asks) holds))
        (if_either (AreCrossed g k) x.stays (ended x.entries Converted) next
        (nothing_crossed k x.entries Converted now)
        (rest (left_after left x.amounts) x.entries
        (λ asks. then_crossable base trade.rounding left o m (legal asks) (exists asks)) now))

    pub crossed_holds : (k : ℕ) (left : Left) (m : EntryMap) → (g.Asks → IsCrossable m) → g.Holds m
        → AreCrossed g k (crossed base trade k left m)
    unfolding crossed
    crossed_holds zero left m legal holds = limited m (turn trade left m) holds
    crossed_holds (suc k) left m legal holds =
        by_turn k left m (crossed_holds k) legal holds (turn trade left m) refl
