-- Names that several proofs of this crate use.
pub use Rattle.std.proofs.Common.{Err, IfSome, List, None, Option, Some, [], ap, append-nil, append_assoc, arith, inl}
pub use Rattle.std.proofs.Common.{inr}
pub use Rattle.std.proofs.Common.{length, map, refl, rules, subst, suc, sym, take, zero, ℕ, ◌++◌, ◌+◌, ◌<◌, ◌∙◌, ◌∷◌}
pub use Rattle.std.proofs.Common.{◌≡◌, ◌≤◌, ◌⊎◌}
pub use Rattle.std.proofs.KnownBytes.{Appends-nil}
pub use Rattle.std.proofs.lemmas.List.{length-append, map-append}
pub use Rattle.std.proofs.lemmas.List.Elements.{All-weaker}
pub use Rattle.std.specs.FinMap.{get}
pub use Rattle.std.specs.List.{All}
pub use Rattle.ledger_readers.specs.Views.{IsAnswerOf}
pub use Rattle.ledger_readers.specs.declared.lookup.Read.{Read}
pub use Rattle.ledger_types.specs.declared.account.AccountEntry.{AccountEntry}
pub use Rattle.ledger_types.specs.declared.entry.LedgerEntry.{LedgerEntry}
pub use Rattle.ledger_types.specs.declared.header.LedgerHeader.{LedgerHeader}
pub use Rattle.ledger_types.specs.declared.ids.AccountId.{AccountId}
pub use Rattle.ledger_types.specs.declared.key.LedgerKey.{LedgerKey}
pub use Rattle.reports.proofs.Prefixes.{complete_prefix}
pub use Rattle.reports.proofs.Streams.{if_some}
pub use Rattle.reports.specs.Ends.{IsReportedSo, Wrote}
pub use Rattle.reports.specs.Gathering.{RunPosition, RunsTo, Stopped}
pub use Rattle.reports.specs.declared.gathering.Stop.{Stop}
pub use Rattle.run_outcome.specs.Closes.{RecordClose}
pub use Rattle.run_outcome.specs.FileRun.{FileOutcome, IsFileAnswer, IsFilePrefix, IsFileRun, with_file, without_file}
unfoldable pub use Rattle.run_outcome.specs.Lines.{refused_line}
pub use Rattle.run_outcome.specs.Outcome.{IsPrefix}
pub use Rattle.run_outcome.specs.Run.{IsReported}
pub use Rattle.run_outcome.specs.Statuses.{status_line}
pub use Rattle.run_outcome.specs.WatchRun.{IsLineless, last_state, reader_lines, reader_text, refused_on_output}
unfoldable pub use Rattle.run_outcome.specs.WatchRun.{reader_line, reader_lines_from}
pub use Rattle.run_outcome.specs.close_rules.State.{ClosingState}
pub use Rattle.run_outcome.specs.close_rules.declared.close_fault.CloseFault.{CloseFault}
pub use Rattle.run_outcome.specs.declared.status.Status.{Status}
pub use Rattle.run_outcome.specs.run_streams.Seen.{Failed, Received, ReceivedPrefix, Seen, seen}
pub use Rattle.watch_run.specs.Watching.{AnswersWatch, EndsWatch, IsReadOf, IsReadOfLast, IsWatchRun, StopsWatch}
pub use Rattle.watch_run.specs.Watching.{published_states}
