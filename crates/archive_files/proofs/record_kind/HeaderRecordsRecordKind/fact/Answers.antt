use Rattle.archive_files.proofs.Prelude.{Hash, ap, header_fact, ◌∙◌}
use Rattle.archive_files.proofs.Middles.{header_hash, header_long}
use Rattle.archive_files.proofs.record_kind.HeaderRecordsRecordKind.fact.Goals as goal

pub middle_of-requires : goal.middle_of-requires
middle_of-requires c = header_long c.args.value.now c.args.text.now c.requires.within c.requires.encoded

pub returns : goal.returns
returns c =
    ap (λ (own : Hash). record (header_fact c.args.at c.args.value.now) { own = own })
    (c.hash.ensures
    ∙ header_hash c.args.value.now c.args.text.now c.middle_of.result.now c.requires.within c.requires.encoded
    c.middle_of.ensures)
