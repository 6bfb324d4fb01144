-- An amount that goes along a path, hop by hop, in a map of which an invariant holds.
use Rattle.entry_map.specs.EntryMap.{EntryMap}
use Rattle.ledger_types.proofs.Arithmetic.{zero_at_most}
use Rattle.ledger_types.specs.declared.asset.Asset.{Asset}
use Rattle.op_payment.proofs.HopsMade.{receiving_asks, sending_asks}
use Rattle.op_payment.specs.Paths.{Carried, after_hop, and_then, by_end, carried_on, hopped, is_same_asset}
use Rattle.op_payment.specs.Paths.{needed_before, received, received_hop, receiving, sending, sent, sent_hop, set_out}
use Rattle.op_payment.specs.declared.hop_fault.HopFault.{HopFault}
use Rattle.sponsor_rules.specs.declared.context.Ctx.{Ctx}
use Rattle.std.proofs.Common.{arith, length-append, refl, subst, suc, sym, ◌*◌, ◌-◌}
use Rattle.std.proofs.lemmas.List.Elements.{All-append, All-head, All-nil, All-tail}
use Rattle.std.specs.Prelude.{All, Bool, Err, List, Ok, Result, [], false, if◌then◌else◌, length, true, ℕ, ℤ, ◌+◌}
use Rattle.std.specs.Prelude.{◌∷◌, ◌≡◌, ◌≤◌}
use Rattle.sponsor_rules.proofs.Entries.{Invariant}
use Rattle.trade_cross.proofs.HopsKeep.{hop_keeps}
use Rattle.trade_cross.specs.Crossable.{IsCrossable}
use Rattle.trade_cross.specs.Crossing.{Crossing, most_crossings}
use Rattle.trade_cross.specs.Hop.{hop, is_served}
use Rattle.trade_cross.specs.HopLaws.{IsHopTrade, crossings_in}
use Rattle.trade_cross.specs.declared.crossed.CrossEnd.TheVariants.{CrossSelf, TooMany}
use Rattle.trade_cross.specs.declared.crossed.CrossEnd.{CrossEnd}
use Rattle.trade_cross.specs.declared.trade.Trade.{Trade}
use Rattle.trade_cross.proofs.CrossedHold.{AreCrossed}
use Rattle.trade_cross.proofs.HopsHold.{AreNamed, hop_holds, most_atoms}
use Rattle.op_payment.specs.declared.hop_fault.HopFault.TheVariants as fault

-- ---- numbers

still_few : (n most : ℕ) → n ≤ most → n ≤ (most + most_atoms)
still_few n most le = omega arith

fewer_left : (n k most : ℕ) → n ≤ most → (n - k) ≤ most
fewer_left n k most le = omega arith

all_crossings : most_crossings ≤ most_crossings
all_crossings = omega arith

-- so many atoms more at most, by a path
abbrev pub most_after : ℕ → List Asset → ℕ
most_after most [] = most + most_atoms
most_after most (next ∷ path) = most_after most path + most_atoms

-- so many atoms more at most, by a path whose first hop was made
abbrev pub most_before : ℕ → List Asset → ℕ
most_before most [] = most + most_atoms
most_before most (next ∷ path) = most_before (most + most_atoms) path

module _ (g : Invariant) where
  -- what an amount on its way leaves and reports, in so many atoms at most
  pub record IsOnWay (most : ℕ) (carried : Carried) : Type 0 where
    pub entries : g.Holds carried.entries
    pub crossable : g.Asks → IsCrossable carried.entries
    pub reported : All g.Reported carried.atoms
    pub few : length carried.atoms ≤ most
    -- so many offers may still be crossed at most
    pub crossings : carried.crossings ≤ most_crossings

  -- if it gets there
  abbrev pub IsOnWayIf : ℕ → Result Carried HopFault → Type 0
  IsOnWayIf most (Err fault) = Unit {0}
  IsOnWayIf most (Ok carried) = IsOnWay most carried

  pub sets_out : (amount : ℤ) (m : EntryMap) → g.Holds m → (g.Asks → IsCrossable m) → IsOnWay 0 (set_out amount m)
  sets_out amount m holds k = record {
    entries = holds;
    crossable = k;
    reported = All-nil g.Reported;
    few = zero_at_most 0;
    crossings = all_crossings;
  }

  -- ---- one hop

  still_on : (most : ℕ) (carried : Carried) → IsOnWay most carried → IsOnWay (most + most_atoms) carried
  still_on most carried way = record {
    entries = way.entries;
    crossable = way.crossable;
    reported = way.reported;
    few = still_few (length carried.atoms) most way.few;
    crossings = way.crossings;
  }

  by_served : (most : ℕ) (next : Crossing → Carried) (done : Crossing) (t : Bool) → IsOnWay most (next done)
      → IsOnWayIf most (after_hop (if t then Ok done else Err fault.TooFew) next)
  by_served most next done true way = way
  by_served most next done false way = tt

  by_its_end : (most : ℕ) (trade : Trade) (next : Crossing → Carried) (done : Crossing) (end : CrossEnd)
      → IsOnWay most (next done) → IsOnWayIf most (after_hop (by_end trade done end) next)
  by_its_end most trade next done CrossSelf way = tt
  by_its_end most trade next done TooMany way = tt
  by_its_end most trade next done other way = by_served most next done (is_served trade done) way

  module _ (ctx : Ctx) (trade : Trade) (most : ℕ) (carried : Carried) (way : IsOnWay most carried)
      (asks : IsHopTrade trade) (named : AreNamed g trade) (few : trade.crossings ≤ most_crossings) where
    abbrev done : Crossing
    done = hop ctx trade carried.entries

    its_left : AreCrossed g most_atoms done
    its_left = hop_holds g ctx trade carried.entries way.crossable way.entries named few

    then_crossable : g.Asks → IsCrossable done.entries
    then_crossable asked =
        let k = way.crossable asked in
        record {
          view = k.view;
          id_pool = k.id_pool;
          owed = k.owed;
          sum = _;
          legal = (hop_keeps k.view k.id_pool k.owed k.sum ctx trade carried.entries asks k.legal k.right).legal;
          right = k.right;
        }

    -- both ways, with the atoms before or after those that were there
    onward : (next : Crossing → Carried) → (next done).entries ≡ done.entries → All g.Reported (next done).atoms
        → length (next done).atoms ≡ length done.atoms + length carried.atoms
        → (next done).crossings ≡ carried.crossings - crossings_in done.atoms
        → IsOnWayIf (most + most_atoms) (after_hop (hopped ctx trade carried.entries) next)
    onward next same reported count used = by_its_end (most + most_atoms) trade next done done.end (record {
      entries = subst g.Holds (sym same) its_left.entries;
      crossable = λ asked. subst IsCrossable (sym same) (then_crossable asked);
      reported = reported;
      few = all_few (length (next done).atoms) (length done.atoms) (length carried.atoms) count its_left.few way.few;
      crossings = subst (λ n. n ≤ most_crossings) (sym used)
          (fewer_left carried.crossings (crossings_in done.atoms) most_crossings way.crossings);
    })
      where
        all_few : (n a b : ℕ) → n ≡ a + b → a ≤ most_atoms → b ≤ most → n ≤ (most + most_atoms)
        all_few n a b is one other = omega arith

    pub back_on : IsOnWayIf (most + most_atoms) (after_hop (hopped ctx trade carried.entries) (needed_before carried))
    back_on = onward (needed_before carried) refl
        (All-append g.Reported done.atoms carried.atoms its_left.reported way.reported)
        (length-append done.atoms carried.atoms) refl

    pub carries_on : IsOnWayIf (most + most_atoms) (after_hop (hopped ctx trade carried.entries) (carried_on carried))
    carries_on = onward (carried_on carried) refl
        (All-append g.Reported carried.atoms done.atoms way.reported its_left.reported)
        (either_order (length done.atoms) (length carried.atoms) _ (length-append carried.atoms done.atoms)) refl
      where
        either_order : (a b n : ℕ) → n ≡ b + a → n ≡ a + b
        either_order a b n is = omega arith

  module _ (ctx : Ctx) (sheep wheat : Asset) (from : g.of.Named sheep) (to : g.of.Named wheat) (most : ℕ)
      (carried : Carried) (way : IsOnWay most carried) where
    received_by : (t : Bool) → is_same_asset sheep wheat ≡ t → IsOnWayIf (most + most_atoms) (if t then Ok carried
        else after_hop (hopped ctx (receiving ctx sheep wheat carried) carried.entries) (needed_before carried))
    received_by true same = still_on most carried way
    received_by false other =
        back_on ctx (receiving ctx sheep wheat carried) most carried way (receiving_asks ctx sheep wheat carried other)
        (record { sheep = from; wheat = to }) way.crossings

    sent_by : (t : Bool) → is_same_asset sheep wheat ≡ t → IsOnWayIf (most + most_atoms) (if t then Ok carried
        else after_hop (hopped ctx (sending ctx sheep wheat carried) carried.entries) (carried_on carried))
    sent_by true same = still_on most carried way
    sent_by false other =
        carries_on ctx (sending ctx sheep wheat carried) most carried way (sending_asks ctx sheep wheat carried other)
        (record { sheep = from; wheat = to }) way.crossings

    pub received_hop_on : IsOnWayIf (most + most_atoms) (received_hop ctx sheep wheat carried)
    received_hop_on = received_by (is_same_asset sheep wheat) refl

    pub sent_hop_on : IsOnWayIf (most + most_atoms) (sent_hop ctx sheep wheat carried)
    sent_hop_on = sent_by (is_same_asset sheep wheat) refl

  -- ---- along the path

  next_on : (most more : ℕ) (r : Result Carried HopFault) (next : Carried → Result Carried HopFault)
      → IsOnWayIf most r → ((carried : Carried) → IsOnWay most carried → IsOnWayIf more (next carried))
      → IsOnWayIf more (and_then r next)
  next_on most more (Err fault) next way on = tt
  next_on most more (Ok carried) next way on = on carried way

  pub received_on_way : (ctx : Ctx) (first : Asset) (path : List Asset) (last : Asset) (most : ℕ) (carried : Carried)
      → g.of.Named first → All g.of.Named path → g.of.Named last → IsOnWay most carried
      → IsOnWayIf (most_after most path) (received ctx first path last carried)
  received_on_way ctx first [] last most carried from all to way =
      received_hop_on ctx first last from to most carried way
  received_on_way ctx first (next ∷ path) last most carried from all to way =
      let head = All-head g.of.Named next path all in
      next_on (most_after most path) (most_after most path + most_atoms) (received ctx next path last carried)
      (received_hop ctx first next)
      (received_on_way ctx next path last most carried head (All-tail g.of.Named next path all) to way)
      (λ c so_far. received_hop_on ctx first next from head (most_after most path) c so_far)

  pub sent_on_way : (ctx : Ctx) (first : Asset) (path : List Asset) (last : Asset) (most : ℕ) (carried : Carried)
      → g.of.Named first → All g.of.Named path → g.of.Named last → IsOnWay most carried
      → IsOnWayIf (most_before most path) (sent ctx first path last carried)
  sent_on_way ctx first [] last most carried from all to way = sent_hop_on ctx first last from to most carried way
  sent_on_way ctx first (next ∷ path) last most carried from all to way =
      let head = All-head g.of.Named next path all in
      next_on (most + most_atoms) (most_before (most + most_atoms) path) (sent_hop ctx first next carried)
      (sent ctx next path last) (sent_hop_on ctx first next from head most carried way)
      (λ c so_far. sent_on_way ctx next path last (most + most_atoms) c head (All-tail g.of.Named next path all) to
      so_far)

-- ---- how many atoms in all

first_few : (most : ℕ) → (most + 1001) ≤ (most + (1 * 1001))
first_few most = omega arith

after_more : (n most k : ℕ) → n ≤ (most + (suc k * 1001)) → (n + 1001) ≤ (most + (suc (suc k) * 1001))
after_more n most k le = omega arith

before_more : (n most k : ℕ) → n ≤ ((most + 1001) + (suc k * 1001)) → n ≤ (most + (suc (suc k) * 1001))
before_more n most k le = omega arith

after_few : (path : List Asset) (most : ℕ) → most_after most path ≤ (most + (suc (length path) * 1001))
after_few [] most = first_few most
after_few (next ∷ path) most = after_more (most_after most path) most (length path) (after_few path most)

before_few : (path : List Asset) (most : ℕ) → most_before most path ≤ (most + (suc (length path) * 1001))
before_few [] most = first_few most
before_few (next ∷ path) most =
    before_more (most_before (most + most_atoms) path) most (length path) (before_few path (most + most_atoms))

-- the most that a path of at most 5 assets has
abbrev pub most_in_paths : ℕ
most_in_paths = 6006

in_all : (n k : ℕ) → n ≤ (0 + (suc k * 1001)) → k ≤ 5 → n ≤ most_in_paths
in_all n k few le = omega arith

pub past_path : (path : List Asset) → length path ≤ 5 → most_after 0 path ≤ most_in_paths
past_path path le = in_all (most_after 0 path) (length path) (after_few path 0) le

pub before_path : (path : List Asset) → length path ≤ 5 → most_before 0 path ≤ most_in_paths
before_path path le = in_all (most_before 0 path) (length path) (before_few path 0) le
