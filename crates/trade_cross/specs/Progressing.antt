-- How far a trade has come, and what one more turn adds to it.
use Rattle.std.specs.Prelude.{◌≡◌, ℕ, ◌+◌, ◌-◌, pos, ◌+ℤ◌, ◌-ℤ◌, ◌≤ℤ◌, unsigned_abs, [], ◌∷◌, ◌++◌, Option, Some}
use Rattle.std.specs.Prelude.{None}
use Rattle.ledger_types.specs.declared.claim_atom.ClaimAtom.{ClaimAtom}
use Rattle.ledger_types.specs.declared.claim_atom.ClaimAtom.TheVariants as atom
use Rattle.ledger_types.specs.declared.offer.OfferEntry.{OfferEntry}
use Rattle.entry_map.specs.EntryMap.{EntryMap}
use Rattle.reserve_rules.specs.Reserve.{greatest_i64}
use Rattle.trade_cross.specs.declared.crossed.CrossEnd.{CrossEnd}
use Rattle.trade_cross.specs.declared.crossed.Crossed.{Crossed}
use Rattle.trade_cross.specs.declared.plan.Left.{Left}
use Rattle.trade_cross.specs.declared.plan.Plan.{Plan}
use Rattle.trade_cross.specs.declared.progress.Progress.{Progress}
use Rattle.trade_cross.specs.declared.trade.Trade.{Trade}
use Rattle.trade_cross.specs.Crossing.{Crossing, crossed, ended}
use Rattle.trade_cross.specs.Plans.{AreLeft, left_in}

-- a trade's bounds are at least 0
pub record AreTradeBounds (trade : Trade) : Type 0 where
  pub sheep_send : pos 0 ≤ℤ trade.sheep_send
  pub wheat_receive : pos 0 ≤ℤ trade.wheat_receive

-- what a trade yielded
pub record IsCrossing (answer : Crossed) (done : Crossing) : Type 0 where
  pub sheep : answer.sheep ≡ pos done.sheep
  pub wheat : answer.wheat ≡ pos done.wheat
  pub atoms : answer.atoms ≡ done.atoms
  pub end : answer.end ≡ done.end

-- ---- one offer more

abbrev pub atom_of_plan : OfferEntry → Plan → ClaimAtom
atom_of_plan o plan = atom.OrderBook o.seller_id o.offer_id o.selling plan.wheat o.buying plan.sheep

abbrev pub left_less : Left → Plan → Left
left_less left plan =
    record { sheep_send = left.sheep_send -ℤ plan.sheep; wheat_receive = left.wheat_receive -ℤ plan.wheat }

abbrev pub noted : Progress → OfferEntry → Plan → Progress
noted p o plan =
    record {
      left = left_less p.left plan;
      crossings = p.crossings - 1;
      sheep = p.sheep +ℤ plan.sheep;
      wheat = p.wheat +ℤ plan.wheat;
      atoms = p.atoms ++ atom_of_plan o plan ∷ [];
    }

-- what moved is within what is left, and the sums fit
pub record DoesNoteFit (p : Progress) (plan : Plan) : Type 0 where
  pub sheep : pos 0 ≤ℤ plan.sheep
  pub wheat : pos 0 ≤ℤ plan.wheat
  pub sheep_left : plan.sheep ≤ℤ p.left.sheep_send
  pub wheat_left : plan.wheat ≤ℤ p.left.wheat_receive
  pub sheep_low : pos 0 ≤ℤ p.sheep
  pub wheat_low : pos 0 ≤ℤ p.wheat
  pub sheep_fits : (p.sheep +ℤ p.left.sheep_send) ≤ℤ greatest_i64
  pub wheat_fits : (p.wheat +ℤ p.left.wheat_receive) ≤ℤ greatest_i64

-- ---- so far

-- what was used of each bound and what is left of it add up to the bound
pub record IsWithin (trade : Trade) (p : Progress) : Type 0 where
  pub left : AreLeft p.left
  pub sheep_low : pos 0 ≤ℤ p.sheep
  pub wheat_low : pos 0 ≤ℤ p.wheat
  pub sheep : (p.sheep +ℤ p.left.sheep_send) ≡ trade.sheep_send
  pub wheat : (p.wheat +ℤ p.left.wheat_receive) ≡ trade.wheat_receive
  pub sheep_fits : trade.sheep_send ≤ℤ greatest_i64
  pub wheat_fits : trade.wheat_receive ≤ℤ greatest_i64

-- a trade after what was crossed before it
abbrev pub following : Progress → Crossing → Crossing
following p done =
    record {
      sheep = unsigned_abs p.sheep + done.sheep;
      wheat = unsigned_abs p.wheat + done.wheat;
      atoms = p.atoms ++ done.atoms;
      end = done.end;
      entries = done.entries;
    }

-- what a trade yields in all
abbrev pub in_all : ℕ → Trade → Progress → EntryMap → Crossing
in_all base trade p m = following p (crossed base trade p.crossings (left_in p.left) m)

-- a turn: the trade yields the same, and where it goes on an offer less may be crossed
abbrev pub Advances : ℕ → Trade → Option CrossEnd → Progress → EntryMap → Progress → EntryMap → Type 0
Advances base trade None p m q n =
    (in_all base trade q n ≡ in_all base trade p m) × (q.crossings + 1 ≡ p.crossings)
Advances base trade (Some end) p m q n = following q (ended n end) ≡ in_all base trade p m
