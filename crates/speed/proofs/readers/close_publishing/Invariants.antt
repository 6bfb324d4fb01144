use Rattle.std.specs.Prelude.{◌≡◌}
use Rattle.ledger_readers.specs.Published.{reader_count}
use Rattle.speed.proofs.readers.close_publishing.Given as goal

abbrev pub invariant-loop : goal.invariant-loop
invariant-loop g l = reader_count l.publisher ≡ reader_count l.fn.publisher
