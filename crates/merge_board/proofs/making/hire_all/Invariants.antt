use Rattle.merge_board.proofs.Prelude.{◌≡◌, length, view, IsSeatOf, AllByRecursion, AreNumbered, IsWorkerOf}
use Rattle.merge_board.specs.Hired.{AreHired}
use Rattle.merge_board.proofs.making.hire_all.Given as goal

abbrev pub invariant-loop-number : goal.invariant-loop-number
invariant-loop-number l = record {
  jobs : IsSeatOf l.room.jobs l.poster;
  outs : IsSeatOf l.room.outs l.gatherer;
  hired : AreHired l.number (view l.poster) (view l.gatherer);
  each : AllByRecursion (IsWorkerOf l.room) l.hired.items;
  numbers : AreNumbered 0 l.hired.items;
  count : length l.hired.items ≡ l.number;
}
