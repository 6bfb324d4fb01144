use Rattle.std.proofs.Common.{◌-◌, ap, subst, ◌∙◌}
use Rattle.std.specs.Arc.{arc_value}
use Rattle.ledger_readers.proofs.Prefixes.{answer_of}
use Rattle.ledger_readers.proofs.reader.LedgerReader.read.Goals as goal

pub returns-clause-answer : goal.returns-clause-answer
returns-clause-answer g c =
    let latest = c.in_ok-view.field-0 in
    let finds = g.S.Lookup.finds in
    answer_of g.S.Lookup.seq_of finds latest.prefix c.args.key.now (arc_value latest.view) _ _ _ latest.last
    (ap (λ n. n - 1) c.len-number.ensures)
    (c.seq.ensures ∙ ap g.S.Lookup.seq_of c.deref-2.ensures)
    (subst (λ view. finds view c.args.key.now c.in_ok-entry.entry) c.deref.ensures c.in_ok-entry.ensures)
