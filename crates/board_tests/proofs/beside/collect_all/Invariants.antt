use Rattle.board_tests.proofs.Prelude.{◌≡◌, IsCollectorIn, collector_parts}
use Rattle.board_tests.proofs.beside.collect_all.Given as goal

abbrev pub invariant-loop : goal.invariant-loop
invariant-loop g l =
    IsCollectorIn l.room l.collector × (collector_parts l.collector ≡ collector_parts l.initial.collector)
