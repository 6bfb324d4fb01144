use Rattle.change_stream.proofs.Prelude.{AreMadeSoFar}
use Rattle.change_stream.proofs.applying.make_all.Given as goal

abbrev pub invariant-loop-change : goal.invariant-loop-change
invariant-loop-change g l = AreMadeSoFar l.fn.entries l.list l.change-index l.index l.entries
