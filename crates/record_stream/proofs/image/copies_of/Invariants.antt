use Rattle.record_stream.proofs.Prelude.{◌≡◌, map, take, piece}
use Rattle.record_stream.proofs.image.copies_of.Given as goal

abbrev pub invariant-loop-span : goal.invariant-loop-span
invariant-loop-span l = l.copies ≡ map (piece l.text) (take l.span-index l.spans)
