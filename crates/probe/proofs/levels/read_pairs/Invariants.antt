use Rattle.probe.proofs.Prelude.{◌≡◌, vec_len}
use Rattle.probe.proofs.levels.read_pairs.Given as goal

abbrev pub invariant-loop-level : goal.invariant-loop-level
invariant-loop-level l = vec_len l.pairs ≡ l._level
