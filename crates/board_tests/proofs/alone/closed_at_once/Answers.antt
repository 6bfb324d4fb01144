use Rattle.board_tests.proofs.Prelude.{◌≡◌, List, [], ◌∷◌, ◌++◌, length, ap, sym, subst, ◌∙◌, arith, AllByRecursion}
use Rattle.board_tests.proofs.Prelude.{IsWorkerEndOf}
use Rattle.merge_board.specs.declared.parts.WorkerEnd.{WorkerEnd}
use Rattle.board_tests.proofs.alone.closed_at_once.Goals as goal

pub settle-requires : goal.settle-requires
settle-requires g c =
    let made = c.in_ok-parts.ensures in
    let room = c.in_ok-parts.parts.room in
    let board = made.board_has in
    let collector = made.collector_has in
    let end = c.run-end.result in
    let items : c.push.new.self.items ≡ end ∷ [] = c.in_ok-push.ensures.items
    ∙ ap (λ (l : List WorkerEnd). l ++ end ∷ []) c.new-ends.ensures.items in record {
      board_in = c.close-board.ensures.room;
      board_has = omega (arith, c.close-board.ensures.parts, ap length items);
      each = subst (AllByRecursion (IsWorkerEndOf room)) (sym items) (c.run-end.ensures.room, tt);
      collector_in = c.finish.ensures.room room made.collector;
      collector_has = omega (arith, c.finish.ensures.parts, ap length items);
    }
