-- An amount that goes along a path of assets, hop by hop (PathPaymentOpFrameBase in stellar-core; CAP-0024).
use Rattle.std.specs.Prelude.{ℕ, ◌-◌, ℤ, pos, unsigned_abs, Bool, false, List, [], ◌∷◌, ◌++◌, None, Result, Ok, Err}
use Rattle.std.specs.Prelude.{if◌then◌else◌}
use Rattle.std.specs.Ordering.{is_eq}
use Rattle.ledger_types.specs.declared.asset.Asset.{Asset}
use Rattle.ledger_types.specs.declared.claim_atom.ClaimAtom.{ClaimAtom}
use Rattle.ledger_types.specs.KeyOrder.{asset_cmp}
use Rattle.entry_map.specs.EntryMap.{EntryMap}
use Rattle.sponsor_rules.specs.declared.context.Ctx.{Ctx}
use Rattle.offer_exchange.specs.declared.rounding.Rounding.TheVariants.{StrictReceive, StrictSend}
use Rattle.offer_exchange.specs.Exchange.{unlimited}
use Rattle.trade_cross.specs.declared.crossed.CrossEnd.{CrossEnd}
use Rattle.trade_cross.specs.declared.crossed.CrossEnd.TheVariants.{CrossSelf, TooMany}
use Rattle.trade_cross.specs.declared.trade.Trade.{Trade}
use Rattle.trade_cross.specs.Crossing.{Crossing, most_crossings}
use Rattle.trade_cross.specs.Hop.{hop, is_served}
use Rattle.trade_cross.specs.HopLaws.{crossings_in}
use Rattle.op_payment.specs.declared.hop_fault.HopFault.{HopFault}
use Rattle.op_payment.specs.declared.hop_fault.HopFault.TheVariants as fault

-- how far an amount has come
pub record Carried : Type 0 where
  -- what is needed of the asset at hand, or what is on its way in it
  pub amount : ℕ
  -- how many offers may still be crossed, on all hops together
  pub crossings : ℕ
  -- what was traded, in the direction of the payment
  pub atoms : List ClaimAtom
  pub entries : EntryMap

abbrev pub set_out : ℤ → EntryMap → Carried
set_out amount m =
    record { amount = unsigned_abs amount; crossings = most_crossings; atoms = []; entries = m }

abbrev pub and_then : Result Carried HopFault → (Carried → Result Carried HopFault) → Result Carried HopFault
and_then (Err fault) next = Err fault
and_then (Ok carried) next = next carried

-- ---- one hop

abbrev pub by_end : Trade → Crossing → CrossEnd → Result Crossing HopFault
by_end trade done CrossSelf = Err fault.CrossSelf
by_end trade done TooMany = Err fault.TooMany
by_end trade done other = if is_served trade done then Ok done else Err fault.TooFew

-- a hop that was served, or why it wasn't
abbrev pub hopped : Ctx → Trade → EntryMap → Result Crossing HopFault
hopped ctx trade m = let done = hop ctx trade m in by_end trade done done.end

abbrev pub after_hop : Result Crossing HopFault → (Crossing → Carried) → Result Carried HopFault
after_hop (Err fault) next = Err fault
after_hop (Ok done) next = Ok (next done)

-- so much wheat is received, for whatever it costs
abbrev pub receiving : Ctx → (sheep wheat : Asset) → Carried → Trade
receiving ctx sheep wheat carried =
    record {
      sheep = sheep;
      wheat = wheat;
      sheep_send = pos unlimited;
      wheat_receive = pos carried.amount;
      rounding = StrictReceive;
      greatest = None;
      passive = false;
      crossings = carried.crossings;
      taker = ctx.op_source;
    }

-- so much sheep is sent, for whatever it brings
abbrev pub sending : Ctx → (sheep wheat : Asset) → Carried → Trade
sending ctx sheep wheat carried =
    record {
      sheep = sheep;
      wheat = wheat;
      sheep_send = pos carried.amount;
      wheat_receive = pos unlimited;
      rounding = StrictSend;
      greatest = None;
      passive = false;
      crossings = carried.crossings;
      taker = ctx.op_source;
    }

-- ---- along the path

-- back by one hop: what was sent is what is needed next
abbrev pub needed_before : Carried → Crossing → Carried
needed_before carried done =
    record {
      amount = done.sheep;
      crossings = carried.crossings - crossings_in done.atoms;
      atoms = done.atoms ++ carried.atoms;
      entries = done.entries;
    }

-- on by one hop: what was received is what is sent next
abbrev pub carried_on : Carried → Crossing → Carried
carried_on carried done =
    record {
      amount = done.wheat;
      crossings = carried.crossings - crossings_in done.atoms;
      atoms = carried.atoms ++ done.atoms;
      entries = done.entries;
    }

-- two neighbours that are one asset are no hop
abbrev pub is_same_asset : Asset → Asset → Bool
is_same_asset a b = is_eq (asset_cmp a b)

abbrev pub received_hop : Ctx → (sheep wheat : Asset) → Carried → Result Carried HopFault
received_hop ctx sheep wheat carried =
    if is_same_asset sheep wheat then Ok carried
    else after_hop (hopped ctx (receiving ctx sheep wheat carried) carried.entries) (needed_before carried)

abbrev pub sent_hop : Ctx → (sheep wheat : Asset) → Carried → Result Carried HopFault
sent_hop ctx sheep wheat carried =
    if is_same_asset sheep wheat then Ok carried
    else after_hop (hopped ctx (sending ctx sheep wheat carried) carried.entries) (carried_on carried)

-- from an asset along a path to the last one: what is needed at its end is received, from the last pair back to the
-- first
abbrev pub received : Ctx → Asset → List Asset → (last : Asset) → Carried → Result Carried HopFault
received ctx first [] last carried = received_hop ctx first last carried
received ctx first (next ∷ path) last carried =
    and_then (received ctx next path last carried) (received_hop ctx first next)

-- what is sent at its beginning is carried on, from the first pair to the last
abbrev pub sent : Ctx → Asset → List Asset → (last : Asset) → Carried → Result Carried HopFault
sent ctx first [] last carried = sent_hop ctx first last carried
sent ctx first (next ∷ path) last carried =
    and_then (sent_hop ctx first next carried) (sent ctx next path last)
