use Rattle.speed.proofs.readers.pass_counted.Given as goal

-- the list that was just opened
abbrev pub ghosts-close_read : goal.ghosts-close_read
ghosts-close_read g a = record { book = a.list }
