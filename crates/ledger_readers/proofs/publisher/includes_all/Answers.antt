use mathlib.Core.List.{IsPrefix}
use Rattle.std.proofs.Common.{List}
use Rattle.std.proofs.lemmas.List.Elements.{AllWithin-more, at_read}
use Rattle.ledger_readers.proofs.publisher.includes_all.Goals as goal

pub loop-reader-preserved : goal.loop-reader-preserved
loop-reader-preserved g c =
    let it = c.loop-reader in
    let readers = c.args.readers.now in
    let whole = c.args.prefix.now in
    let P : List g.row.S.Denot → Type 0 = λ known. IsPrefix known whole in
    AllWithin-more P readers 0 it.reader-index it.invariant
    (at_read readers P it.reader-index c.reader-item.result c.loop-reader-test.true c.reader-item.is
    (rw (← c.reader.view_is) c.if-not-is_prefix_of.ensures))
