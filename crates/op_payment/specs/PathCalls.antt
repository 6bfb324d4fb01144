-- What the calls of paths take and answer, by numbers of 64 bits.
use Rattle.std.specs.Prelude.{◌≡◌, ◌-◌, ◌≤◌, ℤ, pos, ◌≤ℤ◌, unsigned_abs, [], ◌++◌, Option, Some, None}
use Rattle.std.specs.Prelude.{Result, Ok, Err}
use Rattle.ledger_types.specs.declared.asset.Asset.{Asset}
use Rattle.entry_map.specs.EntryMap.{EntryMap}
use Rattle.entry_map.specs.Undo.{Undo, with_current}
use Rattle.op_types.specs.declared.operation_result.OperationResult.{OperationResult}
use Rattle.sponsor_rules.specs.declared.context.Ctx.{Ctx}
use Rattle.op_form.specs.Done.{Done, Attempt}
use Rattle.trade_cross.specs.declared.crossed.Crossed.{Crossed}
use Rattle.trade_cross.specs.declared.trade.Trade.{Trade}
use Rattle.trade_cross.specs.Crossable.{IsCrossable}
use Rattle.trade_cross.specs.Crossing.{Crossing, most_crossings}
use Rattle.trade_cross.specs.HopLaws.{crossings_in}
use Rattle.trade_cross.specs.Progressing.{IsCrossing}
use Rattle.op_payment.specs.declared.carried.Carried.{Carried as CarriedOfCall}
use Rattle.op_payment.specs.declared.hop_fault.HopFault.{HopFault}
use Rattle.op_payment.specs.Paths.{Carried, by_end, receiving, sending}

-- how far an amount has come, with the entries then
abbrev pub carried_of : CarriedOfCall → EntryMap → Carried
carried_of carried m =
    record { amount = unsigned_abs carried.amount; crossings = carried.crossings; atoms = carried.atoms; entries = m }

abbrev pub set_out_of : ℤ → CarriedOfCall
set_out_of amount = record { amount = amount; crossings = most_crossings; atoms = [] }

abbrev pub needed_before_of : CarriedOfCall → Crossed → CarriedOfCall
needed_before_of carried done =
    record {
      amount = done.sheep;
      crossings = carried.crossings - crossings_in done.atoms;
      atoms = done.atoms ++ carried.atoms;
    }

abbrev pub carried_on_of : CarriedOfCall → Crossed → CarriedOfCall
carried_on_of carried done =
    record {
      amount = done.wheat;
      crossings = carried.crossings - crossings_in done.atoms;
      atoms = carried.atoms ++ done.atoms;
    }

-- no more offers were crossed than might be
abbrev pub DoCrossingsFit : CarriedOfCall → Crossed → Type 0
DoCrossingsFit carried done = crossings_in done.atoms ≤ carried.crossings

-- the same trades as calls make them
abbrev pub IsReceiving : Trade → Ctx → (sheep wheat : Asset) → CarriedOfCall → Type 0
IsReceiving trade ctx sheep wheat carried =
    (m : EntryMap) → trade ≡ receiving ctx sheep wheat (carried_of carried m)

abbrev pub IsSending : Trade → Ctx → (sheep wheat : Asset) → CarriedOfCall → Type 0
IsSending trade ctx sheep wheat carried = (m : EntryMap) → trade ≡ sending ctx sheep wheat (carried_of carried m)

-- why a hop wasn't served, as its definition has it
abbrev pub IsEnd : Option HopFault → Crossing → Result Crossing HopFault → Type 0
IsEnd None done end = end ≡ Ok done
IsEnd (Some fault) done end = end ≡ Err fault

abbrev pub IsEndFault : Option HopFault → Trade → Crossed → Type 0
IsEndFault fault trade answer =
    (done : Crossing) → IsCrossing answer done → IsEnd fault done (by_end trade done done.end)

-- what the hop of a call yielded
abbrev pub IsHopped : Result Crossed HopFault → Undo → Undo → Result Crossing HopFault → Type 0
IsHopped (Ok answer) old new (Ok done) = IsCrossing answer done × (new ≡ with_current old done.entries)
IsHopped (Err fault) old new hop = (hop ≡ Err fault) × (new ≡ with_current old new.current)
IsHopped answer old new hop = ⊥

-- how far the amount came, and that it can go on from there; or why it didn't, and the map has to be undone
abbrev pub IsCarriedSo : Result CarriedOfCall HopFault → Undo → Undo → Result Carried HopFault → Type 0
IsCarriedSo (Ok carried) old new step =
    (step ≡ Ok (carried_of carried new.current)) × (new ≡ with_current old new.current) × (pos 0 ≤ℤ carried.amount)
    × IsCrossable new.current
IsCarriedSo (Err fault) old new step = (step ≡ Err fault) × (new ≡ with_current old new.current)

-- The operation succeeded, or it failed and the map has to be undone.
abbrev pub IsTried : Result OperationResult OperationResult → Ctx → Undo → Undo → Attempt → Type 0
IsTried (Ok result) ctx old new attempt =
    (done : Done) × (attempt ≡ Ok done) × (result ≡ done.result) × (new ≡ with_current old done.entries)
    × (done.ctx ≡ ctx)
IsTried (Err result) ctx old new attempt = (attempt ≡ Err result) × (new ≡ with_current old new.current)
