use Rattle.probe.proofs.levels.Closing.close.Given as goal

abbrev pub ghosts-close_in : goal.ghosts-close_in
ghosts-close_in a = record { name = a.blank.name; parts = a.blank.parts }
