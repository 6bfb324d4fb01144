use Rattle.board_tests.proofs.Prelude.{◌≡◌, IsBoardIn, board_parts}
use Rattle.board_tests.proofs.beside.post_one.Given as goal

abbrev pub invariant-loop : goal.invariant-loop
invariant-loop g l = IsBoardIn l.room l.board × (board_parts l.board ≡ board_parts l.initial.board)
