use Rattle.reports.proofs.Prelude.{◌≡◌, ◌++◌, subst, sym}
use Rattle.std.specs.Prelude.{Contains}
use Rattle.std.proofs.lemmas.List.Elements.{Contains-get_or}
use Rattle.archive_files.specs.Encoded.{record_of}
use Rattle.change_stream.specs.declared.change.Change.{Change}
use Rattle.change_stream.specs.Grammar.{one_change}
use Rattle.reports.proofs.Recordings.{records_all, records_more}
use Rattle.reports.proofs.changes.add_changes.Goals as goal

pub add_change-requires : goal.add_change-requires
add_change-requires c =
    c.requires c.change-item.result
    (subst (λ (x : Change). Contains c.args.list.now x) (sym c.change-item.is)
    (Contains-get_or c.args.list.now c.loop-change.change-index c.change-item.result c.loop-change-test.true))

pub loop-change-preserved : goal.loop-change-preserved
loop-change-preserved c =
    let now = c.loop-change.text in
    let next = c.add_change.new.text in
    records_more (record_of one_change) c.args.list.now c.loop-change.change-index c.change-item.result
    c.args.text.now now next c.loop-change-test.true c.loop-change.invariant
    (subst (λ (x : Change). next ≡ now ++ record_of one_change x) c.change-item.is c.in_ok-add_change.ensures)

pub returns : goal.returns
returns c =
    records_all (record_of one_change) c.args.list.now c.loop-change.change-index c.args.text.now c.loop-change.text
    c.loop-change-test.false c.loop-change.invariant
