use Rattle.board_tests.proofs.Prelude.{arith}
use Rattle.board_tests.proofs.alone.posted_to_nobody.Goals as goal

pub settle-requires : goal.settle-requires
settle-requires g c =
    let made = c.in_ok-parts.ensures in
    let board = made.board_has in
    let collector = made.collector_has in
    let count = made.count in record {
      board_in = c.close-board.ensures.room;
      board_has = omega (arith, c.close-board.ensures.parts, c.in_ok-posted.ensures.parts, c.in_ok-ends.ensures.count);
      each = c.in_ok-ends.ensures.each;
      collector_in = c.finish.ensures.room c.in_ok-parts.parts.room made.collector;
      collector_has = omega (arith, c.finish.ensures.parts, c.in_ok-ends.ensures.count);
    }
