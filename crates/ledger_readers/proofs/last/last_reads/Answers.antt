use Rattle.std.proofs.Common.{◌∙◌, ap, length, List}
use Rattle.std.proofs.lemmas.Result.{IfOk-weaker}
use mathlib.Core.List.{IsPrefix}
use Rattle.ledger_readers.specs.declared.lookup.Read.{Read}
use Rattle.ledger_readers.specs.Published.{published}
use Rattle.ledger_readers.specs.Reads.{IsToldRead}
use Rattle.ledger_readers.proofs.ReadOfAll.{of_written, reads_of_all, zip_length}
use Rattle.ledger_readers.proofs.last.last_reads.Goals as goal

pub returns-clause-count : goal.returns-clause-count
returns-clause-count g c =
    let it = c.read_all_told-reads in
    let R : List g.row.S.Denot → Read g.row.S-Entry.Denot → Type 0 =
    IsToldRead g.S.Lookup.seq_of g.S.Lookup.finds (published c.args.publisher) c.args.key.now in
    IfOk-weaker it.result _ _
    (λ reads zip. zip_length R it.new.readers reads.items zip ∙ it.ensures.count
    ∙ ap length c.as_mut_slice.ensures.value ∙ c.requires) it.ensures.reads

pub returns-clause-answers : goal.returns-clause-answers
returns-clause-answers g c =
    let it = c.read_all_told-reads in
    let all = published c.args.publisher in
    let known = of_written (λ views. IsPrefix views all) _ it.new.readers _
    (it.ensures.count ∙ c.as_mut_slice.ensures.len) c.end.ensures in
    IfOk-weaker it.result _ _
    (λ reads zip. reads_of_all g.S.Lookup.seq_of g.S.Lookup.finds all c.args.key.now it.new.readers reads.items zip
    known) it.ensures.reads
