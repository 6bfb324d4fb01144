use Rattle.probe.proofs.levels.made.Given as goal

abbrev pub ghosts-made_in : goal.ghosts-made_in
ghosts-made_in a = record { name = a.blank.name; parts = a.blank.parts }
