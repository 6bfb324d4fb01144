use Rattle.reader_tests.proofs.tests.a_reader_that_is_told_reads_the_last.Given as goal

-- the list that was just opened
abbrev pub ghosts-told_in : goal.ghosts-told_in
ghosts-told_in g a = record { book = a.list }
