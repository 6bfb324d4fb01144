use Rattle.merge_board.proofs.Prelude.{◌≡◌, true, view, IsSeatOf, IsDrained}
use Rattle.merge_board.proofs.parts.Room.drain.Given as goal

abbrev pub invariant-loop : goal.invariant-loop
invariant-loop g l = record {
  outs : IsSeatOf l.self.outs l.log;
  collects : (view l.log).collects ≡ true;
  drained : IsDrained (view l.initial.log) (view l.log) l.queued.items;
}
