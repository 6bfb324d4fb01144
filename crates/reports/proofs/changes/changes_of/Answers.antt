use Rattle.std.proofs.Common.{sym, subst}
use Rattle.std.proofs.lemmas.Result.{IfOk-weaker}
use Rattle.std.specs.Prelude.{IfOk}
use Rattle.change_stream.specs.Changes.{AreChangesOf, IsBatchOver}
use Rattle.entry_map.specs.declared.batch.Batch.{Batch}
use Rattle.run_outcome.specs.Closes.{RecordClose}
use Rattle.run_outcome.specs.ChangesRun.{AreChangesIn}
use Rattle.reports.specs.Gathering.{IsDetailed}
use Rattle.reports.specs.Recording.{AreRecordable}
use Rattle.reports.proofs.Recordings.{are_recordable, are_changes_in}
use Rattle.reports.proofs.changes.changes_of.Goals as goal

pub changes-requires : goal.changes-requires
changes-requires c =
    let s = c.args.before.now.state in
    let close = c.args.close.now in
    subst (λ (b : Batch). IsBatchOver s.entries b) (sym c.batch.ensures)
    (close.prepared.state.entries, c.requires.1.detail.batch.batch)

pub returns-clause-changes : goal.returns-clause-changes
returns-clause-changes c =
    let s = c.args.before.now.state in
    let close = c.args.close.now in
    IfOk-weaker c.changes.result (λ v. AreChangesOf s.entries close.prepared.batch v.items)
    (λ v. (x : RecordClose) → IsDetailed s close x → AreChangesIn x v.items)
    (λ v are x detailed. are_changes_in s close x v.items detailed are)
    (subst (λ (b : Batch). IfOk c.changes.result (λ v. AreChangesOf s.entries b v.items)) c.batch.ensures
    c.changes.ensures)

pub returns-clause-recordable : goal.returns-clause-recordable
returns-clause-recordable c =
    let s = c.args.before.now.state in
    let close = c.args.close.now in
    IfOk-weaker c.changes.result (λ v. AreChangesOf s.entries close.prepared.batch v.items)
    (λ v. AreRecordable v.items)
    (λ v are. are_recordable c.taken_is_closable.ensures c.next_is_closing.ensures s close c.requires.0 v.items
    c.is_closing.ensures c.requires.1 are)
    (subst (λ (b : Batch). IfOk c.changes.result (λ v. AreChangesOf s.entries b v.items)) c.batch.ensures
    c.changes.ensures)
