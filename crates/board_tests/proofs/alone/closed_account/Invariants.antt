use Rattle.board_tests.proofs.alone.closed_account.Given as goal

abbrev pub ghosts-closed_at_once : goal.ghosts-closed_at_once
ghosts-closed_at_once g a = record { name = a.blank.name; parts = a.blank.parts }
