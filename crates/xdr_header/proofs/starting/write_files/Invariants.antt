use Rattle.xdr_header.proofs.Prelude.{◌≡◌, drop, fold}
use Rattle.xdr_header.proofs.Files.{file_onto}
use Rattle.xdr_header.proofs.starting.write_files.Given as goal

-- the files left are put after those that were written
abbrev pub invariant-loop-file : goal.invariant-loop-file
invariant-loop-file l = fold file_onto l.builder (drop l.file-index l.files) ≡ fold file_onto l.initial.builder l.files
