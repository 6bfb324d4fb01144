use Rattle.merge_board.proofs.Prelude.{vec_len, view, IsSeatOf, AllByRecursion, IsWorkerEndOf, AreTakenIn}
use Rattle.merge_board.proofs.parts.Room.take_in_all.Given as goal

abbrev pub invariant-loop-end : goal.invariant-loop-end
invariant-loop-end l = record {
  jobs : IsSeatOf l.self.jobs l.hand;
  outs : IsSeatOf l.self.outs l.log;
  ends : AllByRecursion (IsWorkerEndOf l.self) l.ends.items;
  all : AreTakenIn l.initial.ends.items l.ends.items (view l.initial.hand) (view l.hand) (view l.initial.log)
      (view l.log)
      l.taken l.pushed;
}

abbrev pub decreases-loop-end : goal.decreases-loop-end
decreases-loop-end l = vec_len l.ends
