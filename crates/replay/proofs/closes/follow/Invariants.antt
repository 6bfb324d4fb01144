use Rattle.replay.proofs.Prelude.{ℕ, ◌+◌, ◌*◌, ◌-◌, ◌^◌, ◌≤◌, List, Option, seen, Status, Followed, DiskFailed}
use Rattle.replay.specs.Keeping.{IsGoing}
use Rattle.replay.proofs.Keeping.{CarriesKept}
use Rattle.replay.proofs.closes.follow.Given as goal
use Rattle.reports.proofs.Streams.{over}

-- whatever the run yields from here, it yielded from its start
abbrev pub invariant-loop-end : goal.invariant-loop-end
invariant-loop-end g l = record {
  carries : (now out_now : Option (List ℕ)) (faults out_faults vol_faults : ℕ) (end : Status)
      → Followed l.closing.ledger.state l.records.at l.records.ahead.items
      (over (g.I.Source.left l.input) now (g.I.Source.faults l.input) faults)
      (over (g.O.Sink.taken l.out) out_now (g.O.Sink.faults l.out) out_faults)
      (DiskFailed g.K.Keeper.stores (g.V.Volume.faults l.vol) vol_faults) end
      → Followed l.initial.closing.ledger.state l.initial.records.at l.initial.records.ahead.items
      (over (g.I.Source.left l.initial.input) now (g.I.Source.faults l.initial.input) faults)
      (over (g.O.Sink.taken l.initial.out) out_now (g.O.Sink.faults l.initial.out) out_faults)
      (DiskFailed g.K.Keeper.stores (g.V.Volume.faults l.initial.vol) vol_faults) end;
  carries_kept : g.K.Keeper.stores → g.V.Volume.reports
      → CarriesKept g.V.Volume.disk l.closing.ledger.state l.initial.closing.ledger.state
      l.records.at l.initial.records.at l.records.ahead.items l.initial.records.ahead.items
      (seen g.I.Source.left g.I.Source.faults l.input l.input)
      (seen g.I.Source.left g.I.Source.faults l.initial.input l.initial.input)
      (seen g.O.Sink.taken g.O.Sink.faults l.out l.out)
      (seen g.O.Sink.taken g.O.Sink.faults l.initial.out l.initial.out)
      (g.V.Volume.disk l.vol) (g.V.Volume.disk l.initial.vol);
  going : IsGoing g.K.Keeper.stores (g.K.Keeper.works l.closing.keeper) g.V.Volume.reports
      (g.K.Keeper.keeps l.closing.keeper) (g.V.Volume.disk l.vol) l.closing.ledger.state;
  crew : g.C.Crew.has l.crew l.side;
  vol_later : g.V.Volume.faults l.initial.vol ≤ g.V.Volume.faults l.vol;
  low : l.records.at ≤ (l.closing.ledger.state.header.ledger_seq + 1) * 2 ^ 64;
}

abbrev pub decreases-loop-end : goal.decreases-loop-end
decreases-loop-end g l = 2147483648 - l.closing.ledger.state.header.ledger_seq
