-- Names that several proofs of this crate use.
pub use Rattle.std.proofs.Common.{Bool, Err, IfSome, List, None, Ok, Option, Result, Some, [], add-zero, add_assoc, ap}
pub use Rattle.std.proofs.Common.{append-nil, append_assoc, arith, drop, false, inl, inr, length, refl, rules, subst}
pub use Rattle.std.proofs.Common.{sym}
pub use Rattle.std.proofs.Common.{take, true, zero-add, ℕ, ◌*◌, ◌++◌, ◌+◌, ◌-◌, ◌<◌, ◌^◌, ◌∙◌, ◌∷◌, ◌≡◌, ◌≤◌, ◌⊎◌}
pub use Rattle.std.proofs.KnownBytes.{Appends-nil, Appends-trans, Consumes-nil, Consumes-trans}
pub use Rattle.std.proofs.Math.Seq.{take-append-add, take-length}
pub use Rattle.std.proofs.lemmas.Bool.Decides.{leb_tells}
pub use Rattle.std.proofs.lemmas.List.{drop_at, length-append, length-take-le, nil_from_length, take-append-le, take_at}
pub use Rattle.std.proofs.lemmas.List.Elements.{All-push}
pub use Rattle.std.specs.Io.KnownBytes.{Appends, Consumes, IsAtEnd}
pub use Rattle.std.specs.Prelude.{All, IsNone, cond, map, nat_lt, ◌≢◌}
pub use Rattle.byteorder.specs.Endian.{big_bytes, big_number}
pub use Rattle.ledger_types.specs.declared.header.LedgerHeader.{LedgerHeader}
pub use Rattle.outside.specs.Streams.{Rose}
pub use Rattle.record_stream.proofs.Layouts.{bytes_of}
pub use Rattle.record_stream.specs.Filling.{Grown}
pub use Rattle.record_stream.specs.Measured.{end_by, record_end}
pub use Rattle.record_stream.specs.Piece.{IsPiece, IsShort}
pub use Rattle.record_stream.specs.declared.piece.PieceFault.{PieceFault}
pub use Rattle.run_outcome.specs.Closes.{AreClosesOf, IsCloseOf, RecordClose}
pub use Rattle.run_outcome.specs.FileRun.{FileKind, FileOutcome, IsFileAnswer, IsFileCut, IsFileEnd, IsFileLineReported}
pub use Rattle.run_outcome.specs.FileRun.{IsFilePrefix, IsFileRun, IsFileStop, IsFileless, refused_with, with_file}
pub use Rattle.run_outcome.specs.FileRun.{without_file}
pub use Rattle.run_outcome.specs.Outcome.{IsPrefix, framed, frames, max_record_len}
unfoldable pub use Rattle.run_outcome.specs.Lines.{refused_line}
pub use Rattle.run_outcome.specs.Run.{IsReported}
pub use Rattle.run_outcome.specs.Statuses.{status_line}
pub use Rattle.run_outcome.specs.close_rules.Close.{IsClose, PreparedClose, filled_header}
pub use Rattle.run_outcome.specs.close_rules.State.{ClosingState}
pub use Rattle.run_outcome.specs.close_rules.declared.close_fault.CloseFault.{CloseFault}
pub use Rattle.run_outcome.specs.declared.status.Status.{Status}
pub use Rattle.run_outcome.specs.op_form.Sequences.{last_seq}
pub use Rattle.run_outcome.specs.run_streams.Seen.{Failed, Received, ReceivedPrefix, Seen, seen}
pub use Rattle.reports.specs.Ends.{IsReportedOrRefused, IsReportedSo, Wrote}
pub use Rattle.reports.specs.Gathering.{Closes, EndsIn, Gathers, Goes, IsDetailed, IsGathered, IsGatheredOrNot}
pub use Rattle.reports.specs.Gathering.{IsRefusedAfter, IsUnread, Passes, Reached, RunPosition, RunsTo, Stopped}
pub use Rattle.reports.specs.Gathering.{StopsAt}
pub use Rattle.reports.specs.Gathering.{Turned, WroteGathered}
pub use Rattle.reports.specs.Writing.{WritesFile}
pub use Rattle.reports.specs.declared.gathering.Stop.{Stop}
pub use Rattle.xdr_core.proofs.FormatLaws.{faults_located, mark_laws}
pub use Rattle.xdr_core.proofs.Numbers.{wide4}
pub use Rattle.xdr_core.specs.Format.{IsBytes}
pub use Rattle.xdr_core.specs.Leaves.{bounded, bytes_at, mark_len, mark_word, number_at}
unfoldable pub use Rattle.xdr_core.specs.Leaves.{mark}
pub use Rattle.xdr_core.specs.Position.{Position, Reading, fault_at, short_at, start_of, ◌>>=◌}
pub use Rattle.xdr_core.specs.declared.fault.XdrFault.{XdrFault}
pub use Rattle.xdr_core.specs.declared.fault.XdrKind.{XdrKind}
pub use Rattle.xdr_core.specs.declared.fault.XdrKind.TheVariants.{BadMark, Short, TooLong}
