-- The changes of closes lead from the entries before to those after, and back.
use Rattle.reports.proofs.Prelude.{ℕ, ◌+◌, ◌≤◌, List, length, subst, ClosingState, RecordClose, IsCloseOf}
use Rattle.reports.proofs.Prelude.{max_record_len}
use Rattle.change_stream.specs.declared.change.Change.{Change}
use Rattle.change_stream.specs.Laws.{AreCloseChanges, ChangesLead, ChangesLeadBack}
use Rattle.ledger_close.specs.close_laws.Closes.{NextIsClosing, TakenIsClosable}
use Rattle.ledger_close.proofs.Works.{keyed_by}
use Rattle.run_outcome.specs.close_rules.Close.{applied_in}
use Rattle.run_outcome.specs.close_rules.State.{IsClosingState}
use Rattle.run_outcome.specs.ChangesRun.{AreChangesBetween, AreChangesIn}
use Rattle.reports.specs.Changing.{ChangesOfClosesLead}
use Rattle.reports.proofs.Histories.{closes_on}

pub changes_lead : TakenIsClosable → NextIsClosing → ChangesLead → ChangesLeadBack → ChangesOfClosesLead
changes_lead closable closing lead back s bytes c changes state short is are =
    let with = is.closes.1 in
    let next = closes_on closable closing s bytes c state short is in
    let seq : ℕ = s.header.ledger_seq + 1 in
    let worked = (applied_in s with.taken.closing).entries in
    let after = c.closed.state.entries in
    let between = subst (λ (x : ClosingState). AreChangesBetween x.entries after changes) is.before are in
    let all : AreCloseChanges seq s.entries worked after between.0 changes = record {
      keyed_before = keyed_by s.entries state.legal.keyed;
      keyed_after = keyed_by after next.legal.keyed;
      next = with.closes.entries;
      batch_is = between.1;
      changes = between.2;
    } in
    (lead seq s.entries worked after between.0 changes all, back seq s.entries worked after between.0 changes all)
