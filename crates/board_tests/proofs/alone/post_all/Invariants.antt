use Rattle.board_tests.proofs.Prelude.{◌≡◌, IsBoardIn, board_parts}
use Rattle.board_tests.proofs.alone.post_all.Given as goal

abbrev pub invariant-loop-seq : goal.invariant-loop-seq
invariant-loop-seq g l = IsBoardIn l.room l.board × (board_parts l.board ≡ board_parts l.initial.board)
