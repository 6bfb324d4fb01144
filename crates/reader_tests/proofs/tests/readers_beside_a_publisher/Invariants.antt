use Rattle.reader_tests.proofs.tests.readers_beside_a_publisher.Given as goal

-- the list that was just opened
abbrev pub ghosts-race_in : goal.ghosts-race_in
ghosts-race_in g a = record { book = a.list }
