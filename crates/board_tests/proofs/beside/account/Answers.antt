use Rattle.board_tests.proofs.Prelude.{◌≡◌, ◌+◌, subst, arith, IsBoardEndIn, board_end_parts}
use Rattle.std.specs.Prelude.{Option, IfSome}
use Rattle.merge_board.specs.declared.parts.BoardEnd.{BoardEnd}
use Rattle.board_tests.proofs.beside.account.Goals as goal

pub settle-requires : goal.settle-requires
settle-requires g c =
    let side = c.args.side in
    let has = c.requires.side in
    let board = subst (λ (o : Option BoardEnd). IfSome o (λ (b : BoardEnd). IsBoardEndIn c.args.room b
    × (board_end_parts b + side.workers ≡ 16))) c.in-Some.is has.board_end in
    let board_has = board.1 in
    let collector_has = has.collector_has in
    let len = c.args.ends.ok.0 in
    let count = c.len.ensures in
    let same = c.if-len-workers.false in record {
      board_in = board.0;
      board_has = omega arith;
      each = c.requires.ends;
      collector_in = c.finish.ensures.room c.args.room has.collector_in;
      collector_has = omega (arith, c.finish.ensures.parts);
    }
