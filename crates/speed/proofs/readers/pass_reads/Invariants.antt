use Rattle.speed.proofs.readers.pass_reads.Given as goal

-- the list that was just opened
abbrev pub ghosts-read_often : goal.ghosts-read_often
ghosts-read_often g a = record { book = a.list }
