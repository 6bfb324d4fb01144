use Rattle.board_tests.proofs.Prelude.{◌+◌, [], ◌∷◌, length, length-append, ap, sym, subst, arith, AllByRecursion}
use Rattle.board_tests.proofs.Prelude.{IsWorkerOf, IsWorkerEndOf}
use Rattle.merge_board.proofs.Lists.{every_prefix, every_snoc}
use Rattle.board_tests.proofs.alone.finish_all.Goals as goal

pub loop-worker-preserved : goal.loop-worker-preserved
loop-worker-preserved c =
    let room = c.args.room.now in
    let it = c.loop-worker in
    let rest = c.pop.new.self.items in
    let worker = c.in-Some.worker in
    let is = c.in-Some.ensures.items in
    let more = c.in_ok-push.ensures.items in
    let all = every_prefix (IsWorkerOf room) rest worker
    (subst (AllByRecursion (IsWorkerOf room)) is it.invariant.workers) in
    let count = it.invariant.count in record {
      workers = all.0;
      ends = subst (AllByRecursion (IsWorkerEndOf room)) (sym more)
          (every_snoc (IsWorkerEndOf room) it.ends.items c.finish.result
          it.invariant.ends (c.finish.ensures.room room all.1));
      count = omega (
        arith,
        ap length is,
        ap length more,
        length-append rest (worker ∷ []),
        length-append it.ends.items (c.finish.result ∷ []),
      );
    }
