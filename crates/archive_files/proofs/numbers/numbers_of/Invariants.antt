use Rattle.archive_files.proofs.Prelude.{map, take, ◌≡◌}
use Rattle.archive_files.proofs.numbers.numbers_of.Given as goal

abbrev pub invariant-loop-header : goal.invariant-loop-header
invariant-loop-header l = l.numbers.items ≡ map (λ h. h.seq) (take l.header-index l.headers)
