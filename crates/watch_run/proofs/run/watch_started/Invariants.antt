use Rattle.watch_run.proofs.run.watch_started.Given as goal

-- the list that was just opened
abbrev pub ghosts-watch_records-J-Publication : goal.ghosts-watch_records-J-Publication
ghosts-watch_records-J-Publication g a = record { book = a.list }

-- what is asked
abbrev pub ghosts-watch_records-W-Asked : goal.ghosts-watch_records-W-Asked
ghosts-watch_records-W-Asked g a = record { readers = a.readers; account = a.account }
