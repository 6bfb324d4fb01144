use Rattle.std.proofs.Common.{◌≡◌, ◌++◌, take}
use Rattle.std.specs.List.{flat_map}
use Rattle.run_outcome.specs.PathRun.{via_line}
use Rattle.run_text.proofs.path.push_via_lines.Given as goal

abbrev pub invariant-loop-via : goal.invariant-loop-via
invariant-loop-via l = l.text.items ≡ l.initial.text.items ++ flat_map via_line (take l.via-index l.path)
