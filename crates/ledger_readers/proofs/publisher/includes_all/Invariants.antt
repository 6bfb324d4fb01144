use Rattle.std.specs.List.{AllWithin}
use mathlib.Core.List.{IsPrefix}
use Rattle.ledger_readers.proofs.publisher.includes_all.Given as goal

abbrev pub invariant-loop-reader : goal.invariant-loop-reader
invariant-loop-reader g l = AllWithin (λ known. IsPrefix known l.prefix) l.readers 0 l.reader-index
