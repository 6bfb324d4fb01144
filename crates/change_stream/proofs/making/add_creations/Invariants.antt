use Rattle.change_stream.proofs.Prelude.{creation, map, take, ◌++◌, ◌≡◌}
use Rattle.change_stream.proofs.making.add_creations.Given as goal

abbrev pub invariant-loop-after : goal.invariant-loop-after
invariant-loop-after l = l.keyed.items ≡ l.fn.keyed.items ++ map creation (take l.after-index l.init)
