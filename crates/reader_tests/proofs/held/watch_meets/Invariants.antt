use Rattle.reader_tests.proofs.held.watch_meets.Given as goal

abbrev pub ghosts-meets : goal.ghosts-meets
ghosts-meets g a = record { name = a.blank.name; parts = a.blank.parts }
