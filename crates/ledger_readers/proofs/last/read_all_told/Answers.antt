use Rattle.std.proofs.Common.{◌≡◌, ◌+◌, ◌∷◌, ◌++◌, [], List, sym, subst, arith, rules, take, slice_set}
use Rattle.std.specs.List.{AllZip}
use Rattle.std.proofs.lemmas.List.{take_more_set}
use Rattle.ledger_readers.specs.declared.lookup.Read.{Read}
use Rattle.ledger_readers.specs.Published.{published}
use Rattle.ledger_readers.specs.Reads.{IsToldRead}
use Rattle.ledger_readers.proofs.ReadOfAll.{zip_push}
use Rattle.ledger_readers.proofs.last.read_all_told.Goals as goal

pub loop-reader-preserved : goal.loop-reader-preserved
loop-reader-preserved g c =
    let it = c.loop-reader in
    let new = c.read_told.new.reader in
    let read = c.in_ok-read_told.field-0 in
    let R : List g.row.S.Denot → Read g.row.S-Entry.Denot → Type 0 =
    IsToldRead g.S.Lookup.seq_of g.S.Lookup.finds (published c.args.publisher.now) c.args.key.now in
    let more : take (it.reader-index + 1) (slice_set it.reader-items it.reader-index new)
    ≡ take it.reader-index it.reader-items ++ new ∷ [] =
    take_more_set it.reader-items it.reader-index new
    (omega (arith, c.loop-reader-test.true, it.auto.reader-items, it.auto.reader-index-end)) in
    let pushed : c.push.new.self.items ≡ it.reads.items ++ read ∷ [] = search (rules, c.in_ok-push.ensures.items) in
    subst (λ xs. AllZip R xs c.push.new.self.items) (sym more)
    (subst (λ ys. AllZip R (take it.reader-index it.reader-items ++ new ∷ []) ys) (sym pushed)
    (zip_push R (take it.reader-index it.reader-items) it.reads.items new read it.invariant
    (record { told = c.read_told.ensures.all; answer = c.in_ok-read_told.ensures.answer })))
