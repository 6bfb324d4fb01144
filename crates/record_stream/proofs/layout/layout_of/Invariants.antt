use Rattle.record_stream.proofs.Prelude.{◌≡◌, length, take}
use Rattle.record_stream.proofs.Layouts.{AreSoFar}
use Rattle.record_stream.proofs.layout.layout_of.Given as goal

-- the files so far were passed by
abbrev pub invariant-loop-file : goal.invariant-loop-file
invariant-loop-file l = record {
  many : length l.file-items ≡ 22;
  so_far : AreSoFar l.text l.file-index l.room l.initial.ahead l.ahead (take l.file-index l.file-items);
}
