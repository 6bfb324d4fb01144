use Rattle.std.specs.Prelude.{take}
use Rattle.std.specs.List.{AllZip}
use Rattle.ledger_readers.specs.Reads.{IsToldRead}
use Rattle.ledger_readers.specs.Published.{published}
use Rattle.ledger_readers.proofs.last.read_all_told.Given as goal

-- the readers so far were told and have read
abbrev pub invariant-loop-reader : goal.invariant-loop-reader
invariant-loop-reader g l =
    AllZip (IsToldRead g.S.Lookup.seq_of g.S.Lookup.finds (published l.publisher) l.key)
    (take l.reader-index l.reader-items) l.reads.items
