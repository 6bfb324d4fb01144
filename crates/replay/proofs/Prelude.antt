-- Names that several proofs of this crate use.
pub use Rattle.std.proofs.Common.{Bool, Err, IfSome, IsSome, List, None, Ok, Option, Result, Some, [], add-one}
pub use Rattle.std.proofs.Common.{add-zero, add_assoc, ap, append-nil, append_assoc, arith, drop, false, get_or, inl}
pub use Rattle.std.proofs.Common.{inr, length, ne_eqb, refl, rules, subst, suc, sym, take, true, zero, zero-add, ℕ, ◌%◌}
pub use Rattle.std.proofs.Common.{◌*◌, ◌++◌, ◌+◌, ◌-◌, ◌/◌, ◌<◌, ◌^◌, ◌∙◌, ◌∷◌, ◌≡◌, ◌≤◌, ◌⊎◌}
pub use Rattle.std.proofs.KnownBytes.{Appends-nil, Appends-trans, Consumes-nil, Consumes-trans}
pub use Rattle.std.proofs.Math.Seq.{take-append-add, take-append_seam, take-length, take-suc}
pub use Rattle.std.proofs.lemmas.Bool.Decides.{leb_tells}
pub use Rattle.std.proofs.lemmas.List.{drop_at, ext_get_or, length-append, length-take-le, nil_from_length}
pub use Rattle.std.proofs.lemmas.List.{take-append-drop, take-append-le, take_all, take_at}
pub use Rattle.std.proofs.lemmas.List.Elements.{All-cons, All-head, All-nil, All-push, All-same, All-tail}
pub use Rattle.std.proofs.lemmas.List.Sums.{sum_by-append, sum_by-cons}
pub use Rattle.std.proofs.lemmas.Result.{err_from_is_err_and}
pub use Rattle.std.specs.Fmt.{decimal, digit_glyph, digits_onto, signed_decimal}
unfoldable pub use Rattle.std.specs.Fmt.{digits}
pub use Rattle.std.specs.Io.KnownBytes.{Appends, Consumes, IsAtEnd}
pub use Rattle.std.specs.List.{flat_map}
pub use Rattle.std.specs.Prelude.{All, IsNone, MatchOption, MatchResult, codes, cond, count_by, if◌then◌else◌, map}
pub use Rattle.std.specs.Prelude.{nat_eq, nat_lt, negsuc, pos, slice_get, slice_index, ℤ, ◌≢◌}
pub use Rattle.byteorder.specs.Endian.{big_bytes, big_number}
pub use Rattle.command_words.proofs.OneCommand.{commands_are_one}
pub use Rattle.command_words.specs.Words.{CatchUp, Command, Parses, ParsesNone, words_of}
pub use Rattle.hash_ids.specs.Ids.{network_id_of}
pub use Rattle.image_store.proofs.OneOpening.{images_same, openings_are_one}
pub use Rattle.image_store.specs.Calls.{Creates, HoldsEither, IsCreateFault, IsCreated, IsRollFault, IsSettled}
pub use Rattle.image_store.specs.Calls.{first_kept}
pub use Rattle.image_store.specs.ImageFiles.{IsImage}
pub use Rattle.image_store.specs.Opening.{Holds, HoldsNoStore, HoldsNothing, Kept, grown, rolled}
pub use Rattle.image_store.specs.State.{StoreState}
pub use Rattle.image_store.specs.gate_journal.Records.{block, blocks}
pub use Rattle.image_store.specs.gate_journal.declared.fault.StoreFault.{StoreFault}
pub use Rattle.ledger_types.specs.declared.header.LedgerHeader.{LedgerHeader}
pub use Rattle.ledger_types.specs.declared.ids.Hash.{Hash}
pub use Rattle.outside.proofs.Running.{onward, widened}
pub use Rattle.outside.specs.Disk.{Disk, Image, IsSafe, Runs, Same}
pub use Rattle.record_stream.proofs.Layouts.{bytes_of}
pub use Rattle.record_stream.specs.Filling.{Grown}
pub use Rattle.record_stream.specs.Measured.{end_by, image_end, record_end}
pub use Rattle.record_stream.specs.Piece.{IsPiece, IsShort}
pub use Rattle.record_stream.specs.declared.piece.PieceFault.{PieceFault}
pub use Rattle.replay.specs.ClosingAgain.{AreClosedIn, AreClosedTo, IsRefusedAt, ClosesTo}
pub use Rattle.replay.specs.CommandLaws.{CatchupsAgree, IsByCommand, IsFullAt, IsShowAnswered, IsShowComplete}
pub use Rattle.replay.specs.CommandLaws.{IsShowFault, IsUnopenedShown, IsUsageReported, SamplesAreComplete}
pub use Rattle.replay.specs.CommandLaws.{SamplesAreCompleteOrFull, SamplesAreOne, Showings, outcome_after}
pub use Rattle.replay.specs.Following.{AnsweredFrom, Closes, CompleteLines, EndsAt, Followed, FollowedFrom, Goes, IsCut}
pub use Rattle.replay.specs.Following.{Passes, Refuses, RunPosition, Stops, Turned, WroteClose}
pub use Rattle.reports.specs.Ends.{Wrote}
pub use Rattle.replay.specs.Initing.{IsInput, IsLedgers, IsStoringEnd, IsUnread, Storing}
pub use Rattle.reports.specs.EndOfInput.{IsEnded, IsFollowed, IsUnended}
pub use Rattle.replay.specs.Keeping.{Answers, DidFollow, DiskFailed, IsCaused, IsHalfway, IsUnkept, IsWriting}
pub use Rattle.replay.specs.Keeping.{IsWritten, Keeps, KeptClose, KeptOn, KeptPass, KeptTurn, KeptWriting, OpensEither}
pub use Rattle.replay.specs.Keeping.{OpensOnward, Ready, UnlessDisk}
pub use Rattle.replay.specs.Outcomes.{OutcomesAreOne, OutputsArePrefixes, PrefixesAreOfOutcomes, PrefixesAreOfRuns}
pub use Rattle.replay.specs.Outcomes.{RunsAreOne, RunsGoOn}
pub use Rattle.reports.specs.Ends.{IsReportedOrRefused, IsReportedSo}
pub use Rattle.replay.specs.Sampling.{HasReached, Samples}
pub use Rattle.replay.specs.Starting.{Begins, CaughtUp, Cut, GaveNoImage, IsBarred, IsFaulty, IsJudgedSo, IsUncut}
pub use Rattle.replay.specs.Starting.{IsUnstarted}
pub use Rattle.replay.specs.Starting.{StartsAt}
pub use Rattle.replay.specs.Stored.{IsStored, keep_fault_of}
pub use Rattle.replay.specs.StoredLaws.{AcknowledgedAreCounted, Inits, IsBadImageAnswered, IsBadInputAnswered}
pub use Rattle.replay.specs.StoredLaws.{IsImageAnswered, IsInitFault, IsInputFault, IsRunAnswered, IsRunComplete}
pub use Rattle.replay.specs.StoredLaws.{IsRunDone, IsSoundAgain, IsSoundInRun, NothingFailed, OpeningsAreOne}
pub use Rattle.replay.specs.StoredLaws.{StoredRuns}
pub use Rattle.replay.specs.StoredRuns.{IsUnbegun, OpensNot, RanOrNot, RanSo, RanStored, Unopened, status_of}
pub use Rattle.run_text.specs.op_types.declared.transaction_result.TransactionResultPair.{TransactionResultPair}
pub use Rattle.stored_outcome.specs.After.{AreAcknowledged, IsAfter, OpensAfter, OpensWithin, closed_count}
pub use Rattle.stored_outcome.specs.After.{is_closed_line}
unfoldable pub use Rattle.stored_outcome.specs.After.{complete_lines}
pub use Rattle.stored_outcome.specs.Init.{Asked, DidInit, InitLeft, IsBadImage, IsBadInput, IsInitEnd, IsLedgerImage}
pub use Rattle.stored_outcome.specs.Init.{MomentsOfInit, Stored}
pub use Rattle.stored_outcome.specs.Opening.{BreaksRule, IsBadStore, IsRefusedIn, IsSound, MayHold, OpensOn}
pub use Rattle.stored_outcome.specs.Opening.{OpensTo, RefusesRecord, Yields}
pub use Rattle.stored_outcome.specs.Program.{DidNothing, Ran, RanAs}
pub use Rattle.stored_outcome.specs.Sample.{DidSample, IsEntire, IsRefusedAfter, IsSampleEnd, IsSamplePrefix, IsSampled}
pub use Rattle.stored_outcome.specs.Show.{DidShow, IsShown, IsUnshown, ReadsStay, lines_shown}
pub use Rattle.stored_outcome.specs.StoredRun.{AnsweredAfter, DidNotOpen, DidNotRun, DidRun, IsAnswerAfter, IsFailedEnd}
pub use Rattle.stored_outcome.specs.StoredRun.{IsOpenedEnd, IsRunEnd, IsUnbrokenEnd, IsUnopenedEnd, MayBeAhead}
pub use Rattle.stored_outcome.specs.StoredRun.{MayLeaveNow, MayRead, OpensAcknowledged, OpensInRun, RanFrom, Survived}
pub use Rattle.stored_outcome.specs.close_rules.Close.{ClosesWith, IsClose, IsClosed, PreparedClose, filled_header}
pub use Rattle.stored_outcome.specs.close_rules.Images.{IsJudged}
pub use Rattle.stored_outcome.specs.close_rules.State.{ClosingState, max_file_total}
pub use Rattle.stored_outcome.specs.close_rules.declared.close_fault.CloseFault.{CloseFault}
pub use Rattle.stored_outcome.specs.close_rules.declared.image_fault.ImageFault.{ImageFault}
pub use Rattle.stored_outcome.specs.close_rules.declared.image_fault.ImageRule.{ImageRule}
pub use Rattle.stored_outcome.specs.op_form.Sequences.{last_seq}
pub use Rattle.stored_outcome.specs.run_outcome.Lines.{hash_text, is_success, kind_name, spaced, success_count}
unfoldable pub use Rattle.stored_outcome.specs.run_outcome.Lines.{closed_line, closed_lines, end_line, fault_text}
unfoldable pub use Rattle.stored_outcome.specs.run_outcome.Lines.{refused_line, sample_line, shown_lines, tx_line}
pub use Rattle.stored_outcome.specs.run_outcome.Outcome.{AreClosed, AreClosedAhead, AreComplete, AreLinesOf, IsEnd}
pub use Rattle.stored_outcome.specs.run_outcome.Outcome.{IsOutcome, IsOutcomeOf, IsOutputPrefix, IsOutputPrefixOf}
pub use Rattle.stored_outcome.specs.run_outcome.Outcome.{IsPrefix, IsRun, IsRunPrefix, IsStarted, IsStopped, Outcome}
pub use Rattle.stored_outcome.specs.run_outcome.Outcome.{after, framed, frames, lines_of, max_record_len, silent}
pub use Rattle.stored_outcome.specs.run_outcome.Run.{Answered, AnsweredTo, DidCatchUp, IsAnswer, IsLineReported}
pub use Rattle.stored_outcome.specs.run_outcome.Run.{IsReported}
pub use Rattle.stored_outcome.specs.run_outcome.Statuses.{IsCatchUpEnd, IsCutShort, IsRecordsEnd, ended_line}
pub use Rattle.stored_outcome.specs.run_outcome.Statuses.{status_line}
pub use Rattle.stored_outcome.specs.run_outcome.declared.status.Status.{Status}
pub use Rattle.stored_outcome.specs.run_streams.Seen.{Failed, Gave, IsUntouched, Received, ReceivedPrefix, Seen, seen}
pub use Rattle.stored_outcome.specs.run_streams.SeenVolume.{SeenVolume, VolumeFailed, seen_volume}
pub use Rattle.stored_outcome.specs.sample_ledger.Samples.{FirstStatesClose, IsAcceptedOrFull, Progress, SamplesClose}
pub use Rattle.stored_outcome.specs.sample_ledger.Samples.{SamplesGoOn, first_progress, first_state, progress_after}
pub use Rattle.stored_outcome.specs.sample_ledger.Samples.{record_bytes, sample_network}
unfoldable pub use Rattle.stored_outcome.specs.sample_ledger.Samples.{HaveClosed}
pub use Rattle.stored_outcome.specs.value_hashes.Hashes.{ledger_hash_of}
pub use Rattle.worker_merges.proofs.close_laws_proofs.OneClose.{closes_are_one}
pub use Rattle.worker_merges.proofs.close_laws_proofs.OneImage.{images_are_one}
pub use Rattle.worker_merges.specs.WorkerSlots.{HasEnded}
pub use Rattle.worker_merges.specs.ledger_close.Answers.{FaultIs}
pub use Rattle.xdr_core.proofs.FormatLaws.{faults_located, mark_laws}
pub use Rattle.xdr_core.proofs.Numbers.{wide4}
pub use Rattle.xdr_core.specs.Format.{IsBytes}
pub use Rattle.xdr_core.specs.Leaves.{bounded, bytes_at, mark_len, mark_word, number_at}
unfoldable pub use Rattle.xdr_core.specs.Leaves.{mark}
pub use Rattle.xdr_core.specs.Position.{Position, Reading, fault_at, short_at, start_of, ◌>>=◌}
pub use Rattle.xdr_core.specs.declared.fault.XdrFault.{XdrFault}
pub use Rattle.xdr_core.specs.declared.fault.XdrKind.{XdrKind}
pub use Rattle.xdr_core.specs.declared.fault.XdrKind.TheVariants.{BadMark, Short, TooLong}
unfoldable pub use Rattle.xdr_header.specs.Image.{start_image}
pub use Rattle.xdr_header.specs.declared.image.StartImage.{StartImage}
