use Rattle.board_tests.proofs.beside.work.Given as goal

abbrev pub ghosts-work_on : goal.ghosts-work_on
ghosts-work_on g a = record { name = a.blank.name; parts = a.blank.parts }
