use Rattle.replay.proofs.Prelude.{◌≡◌, take}
use Rattle.replay.proofs.init.copy_files.Given as goal

abbrev pub invariant-loop-file : goal.invariant-loop-file
invariant-loop-file l = l.copies ≡ take l.file-index l.files
