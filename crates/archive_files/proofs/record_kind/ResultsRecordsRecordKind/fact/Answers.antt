use Rattle.archive_files.proofs.Prelude.{Hash, ap, results_fact, ◌∙◌}
use Rattle.archive_files.proofs.Middles.{results_hash, results_long}
use Rattle.archive_files.proofs.record_kind.ResultsRecordsRecordKind.fact.Goals as goal

pub middle_of-requires : goal.middle_of-requires
middle_of-requires c = results_long c.args.value.now c.args.text.now c.requires.encoded

pub returns : goal.returns
returns c =
    ap (λ (own : Hash). record (results_fact c.args.at c.args.value.now) { hash = own })
    (c.hash.ensures
    ∙ results_hash c.args.value.now c.args.text.now c.middle_of.result.now c.requires.encoded c.middle_of.ensures)
