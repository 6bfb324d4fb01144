-- The end of a run that writes a file, with its line on standard error.
use Rattle.reports.proofs.Prelude.{◌≡◌, ◌≢◌, ℕ, List, [], ◌++◌, Option, Some, None, IfSome, refl, sym, ap, subst, ◌∙◌}
use Rattle.reports.proofs.Prelude.{inl}
use Rattle.reports.proofs.Prelude.{inr, ◌⊎◌, ◌≤◌, length, take, IsAtEnd, Seen, Failed, Received, Status, LedgerHeader}
use Rattle.reports.proofs.Prelude.{CloseFault}
use Rattle.reports.proofs.Prelude.{status_line, refused_line, FileKind, FileOutcome, IsFileRun, IsFileAnswer}
use Rattle.reports.proofs.Prelude.{IsFilePrefix}
use Rattle.reports.proofs.Prelude.{IsFileless, IsFileLineReported, with_file, without_file, refused_with, IsReported}
use Rattle.reports.proofs.Prelude.{IsReportedOrRefused, IsReportedSo, Wrote, RunPosition, Stopped, RunsTo, Gathers}
use Rattle.reports.proofs.Prelude.{WroteGathered, WritesFile, ClosingState, RecordClose}
use Rattle.run_outcome.specs.Run.{IsLineReported}
use Rattle.run_outcome.specs.close_rules.declared.image_fault.ImageRule.{ImageRule}
use Rattle.reports.specs.Files.{IsRefusalReported}
use Rattle.reports.specs.Writing.{IsFileRecordsEnd}
use Rattle.reports.specs.declared.gathering.Stop.TheVariants as stop
use Rattle.run_outcome.specs.declared.status.Status.TheVariants as status
use Rattle.reports.proofs.Prefixes.{complete_prefix}
use Rattle.reports.proofs.Streams.{if_some}

-- what a run answers whose outcomes are these and whose ends are these
pub record AnswersFile (IsOne : List ℕ → FileOutcome → Type 0) (IsEnd : Status → Type 0) (input out err : Seen) (end :
    Status)
    : Type 0 where
  pub answered : IfSome input.before (λ bytes. IsFileAnswer (IsOne bytes) out err end)
  pub ended : end ≡ status.Done → IsAtEnd input.now
  pub unwritten : IsFileless end → Received out []
  pub read_fault : end ≡ status.ReadFault → Failed input
  pub write_fault : end ≡ status.WriteFault → Failed out ⊎ Failed err
  pub is_end : IsEnd end
  pub reported : IsFileLineReported err end

-- an end with an outcome that has no text
pub record IsSilent (IsEnd : Status → Type 0) (err : Seen) (why : Status) : Type 0 where
  pub no_done : why ≢ status.Done
  pub no_read : why ≢ status.ReadFault
  pub no_write : why ≢ status.WriteFault
  pub is_end : IsEnd why
  pub line : Received err (status_line why) → IsFileLineReported err why

pub bad_input_is_silent : (IsEnd : Status → Type 0) (err : Seen) (at : ℕ) → IsEnd (status.BadInput at)
    → IsSilent IsEnd err (status.BadInput at)
bad_input_is_silent IsEnd err at is_end = record {
  no_done = λ e. cc;
  no_read = λ e. cc;
  no_write = λ e. cc;
  is_end = is_end;
  line = λ h. inl h;
}

pub bad_image_is_silent : (IsEnd : Status → Type 0) (err : Seen) (rule : ImageRule) → IsEnd (status.BadImage rule)
    → IsSilent IsEnd err (status.BadImage rule)
bad_image_is_silent IsEnd err rule is_end = record {
  no_done = λ e. cc;
  no_read = λ e. cc;
  no_write = λ e. cc;
  is_end = is_end;
  line = λ h. inl h;
}

pub too_large_is_silent : (IsEnd : Status → Type 0) (err : Seen) → IsEnd status.TooLarge
    → IsSilent IsEnd err status.TooLarge
too_large_is_silent IsEnd err is_end = record {
  no_done = λ e. cc;
  no_read = λ e. cc;
  no_write = λ e. cc;
  is_end = is_end;
  line = λ h. inl h;
}

all_known : (o : Option (List ℕ)) (P : List ℕ → Type 0) → ((x : List ℕ) → P x) → IfSome o P
all_known None P f = tt
all_known (Some x) P f = f x

module _ (IsOne : List ℕ → FileOutcome → Type 0) (IsEnd : Status → Type 0) (input out err : Seen)
    (may_fail : IsEnd status.WriteFault) (may_lack : IsEnd status.NoMemory) where
  -- ---- ends that cut the text short

  pub cut_by_write : (text : List ℕ) → Received out text
      → IfSome input.before (λ bytes. IsFilePrefix (IsOne bytes) text) → Failed out ⊎ Failed err
      → IsLineReported err status.WriteFault → AnswersFile IsOne IsEnd input out err status.WriteFault
  cut_by_write text received prefix failed line = record {
    answered = if_some input.before (λ bytes. IsFilePrefix (IsOne bytes) text)
        (λ bytes. IsFileAnswer (IsOne bytes) out err status.WriteFault)
        (λ bytes h. inr (inr (tt, (text, received, h)))) prefix;
    ended = λ e. absurd cc;
    unwritten = λ h. absurd h;
    read_fault = λ e. absurd cc;
    write_fault = λ e. failed;
    is_end = may_fail;
    reported = line;
  }

  -- the line on standard error failed, and nothing was written before
  pub cut_by_line : Received out [] → Failed err → AnswersFile IsOne IsEnd input out err status.WriteFault
  cut_by_line received failed =
      cut_by_write [] received (all_known input.before (λ bytes. IsFilePrefix (IsOne bytes) []) (λ bytes. inl refl))
      (inr failed) (inr (refl, failed))

  cut_by_memory : Received out [] → Received err (status_line status.NoMemory)
      → AnswersFile IsOne IsEnd input out err status.NoMemory
  cut_by_memory received line = record {
    answered = all_known input.before (λ bytes. IsFileAnswer (IsOne bytes) out err status.NoMemory)
        (λ bytes. inr (inr (tt, ([], received, inl refl))));
    ended = λ e. absurd cc;
    unwritten = λ h. absurd h;
    read_fault = λ e. absurd cc;
    write_fault = λ e. absurd cc;
    is_end = may_lack;
    reported = inl line;
  }

  pub memory_reported : (end : Status) → Received out [] → IsReported status.NoMemory err end
      → AnswersFile IsOne IsEnd input out err end
  memory_reported end received (inl (e, line)) =
      subst (AnswersFile IsOne IsEnd input out err) (sym e) (cut_by_memory received line)
  memory_reported end received (inr (e, failed)) =
      subst (AnswersFile IsOne IsEnd input out err) (sym e) (cut_by_line received failed)

  -- ---- a read that failed

  read_failed : IsEnd status.ReadFault → Failed input → Received out [] → Received err (status_line status.ReadFault)
      → AnswersFile IsOne IsEnd input out err status.ReadFault
  read_failed is_end failed received line = record {
    answered = all_known input.before (λ bytes. IsFileAnswer (IsOne bytes) out err status.ReadFault)
        (λ bytes. inr (inl (refl, received)));
    ended = λ e. absurd cc;
    unwritten = λ h. received;
    read_fault = λ e. failed;
    write_fault = λ e. absurd cc;
    is_end = is_end;
    reported = inl line;
  }

  pub read_reported : (end : Status) → IsEnd status.ReadFault → Failed input → Received out []
      → IsReported status.ReadFault err end → AnswersFile IsOne IsEnd input out err end
  read_reported end is_end failed received (inl (e, line)) =
      subst (AnswersFile IsOne IsEnd input out err) (sym e) (read_failed is_end failed received line)
  read_reported end is_end failed received (inr (e, line)) =
      subst (AnswersFile IsOne IsEnd input out err) (sym e) (cut_by_line received line)

  -- ---- outcomes without a text

  silent_end : (why : Status) → IsSilent IsEnd err why → IfSome input.before (λ bytes. IsOne bytes (without_file why))
      → Received out [] → Received err (status_line why) → AnswersFile IsOne IsEnd input out err why
  silent_end why is one received line = record {
    answered = if_some input.before (λ bytes. IsOne bytes (without_file why))
        (λ bytes. IsFileAnswer (IsOne bytes) out err why)
        (λ bytes h. inl (without_file why, h, refl, received, line)) one;
    ended = λ e. absurd (is.no_done e);
    unwritten = λ h. received;
    read_fault = λ e. absurd (is.no_read e);
    write_fault = λ e. absurd (is.no_write e);
    is_end = is.is_end;
    reported = is.line line;
  }

  pub silent_reported : (why end : Status) → IsSilent IsEnd err why
      → IfSome input.before (λ bytes. IsOne bytes (without_file why)) → Received out []
      → IsReportedOrRefused why err end → AnswersFile IsOne IsEnd input out err end
  silent_reported why end is one received (inl (inl (e, line))) =
      subst (AnswersFile IsOne IsEnd input out err) (sym e) (silent_end why is one received line)
  silent_reported why end is one received (inl (inr (e, failed))) =
      subst (AnswersFile IsOne IsEnd input out err) (sym e) (cut_by_line received failed)
  silent_reported why end is one received (inr h) = memory_reported end received h

  -- ---- a record that is refused

  refused_end : (header : LedgerHeader) (wrong : CloseFault) → IsEnd status.Refused
      → IfSome input.before (λ bytes. IsOne bytes (refused_with header wrong)) → Received out []
      → Received err (refused_line header wrong) → AnswersFile IsOne IsEnd input out err status.Refused
  refused_end header wrong is_end one received line = record {
    answered = if_some input.before (λ bytes. IsOne bytes (refused_with header wrong))
        (λ bytes. IsFileAnswer (IsOne bytes) out err status.Refused)
        (λ bytes h. inl (refused_with header wrong, h, refl, received, line)) one;
    ended = λ e. absurd cc;
    unwritten = λ h. received;
    read_fault = λ e. absurd cc;
    write_fault = λ e. absurd cc;
    is_end = is_end;
    reported = (header, wrong, line);
  }

  pub refusal_reported : (header : LedgerHeader) (wrong : CloseFault) (end : Status) → IsEnd status.Refused
      → IfSome input.before (λ bytes. IsOne bytes (refused_with header wrong)) → Received out []
      → IsRefusalReported (refused_line header wrong) err end → AnswersFile IsOne IsEnd input out err end
  refusal_reported header wrong end is_end one received (inl (e, line)) =
      subst (AnswersFile IsOne IsEnd input out err) (sym e) (refused_end header wrong is_end one received line)
  refusal_reported header wrong end is_end one received (inr (inl (e, failed))) =
      subst (AnswersFile IsOne IsEnd input out err) (sym e) (cut_by_line received failed)
  refusal_reported header wrong end is_end one received (inr (inr h)) = memory_reported end received h

  -- ---- a text

  done : (text : List ℕ) → IsEnd status.Done → IsAtEnd input.now
      → IfSome input.before (λ bytes. IsOne bytes (with_file text)) → Received out text → Received err []
      → AnswersFile IsOne IsEnd input out err status.Done
  done text is_end at_end one received line = record {
    answered = if_some input.before (λ bytes. IsOne bytes (with_file text))
        (λ bytes. IsFileAnswer (IsOne bytes) out err status.Done)
        (λ bytes h. inl (with_file text, h, refl, received, line)) one;
    ended = λ e. at_end;
    unwritten = λ h. absurd h;
    read_fault = λ e. absurd cc;
    write_fault = λ e. absurd cc;
    is_end = is_end;
    reported = inl line;
  }

  -- a prefix of the text was written
  prefix_of_text : (text : List ℕ) (n : ℕ) → IfSome input.before (λ bytes. IsOne bytes (with_file text))
      → n ≤ length text → IfSome input.before (λ bytes. IsFilePrefix (IsOne bytes) (take n text))
  prefix_of_text text n one le =
      if_some input.before (λ bytes. IsOne bytes (with_file text))
      (λ bytes. IsFilePrefix (IsOne bytes) (take n text))
      (λ bytes h. inr (with_file text, h, (n, le, refl))) one

  complete_text : (text : List ℕ) → IfSome input.before (λ bytes. IsOne bytes (with_file text))
      → IfSome input.before (λ bytes. IsFilePrefix (IsOne bytes) text)
  complete_text text one =
      if_some input.before (λ bytes. IsOne bytes (with_file text)) (λ bytes. IsFilePrefix (IsOne bytes) text)
      (λ bytes h. inr (with_file text, h, complete_prefix text)) one

  pub text_reported : (text : List ℕ) (mid end : Status) → IsEnd status.Done → IsAtEnd input.now
      → IfSome input.before (λ bytes. IsOne bytes (with_file text)) → Wrote out text status.Done mid
      → IsReportedSo mid err end → AnswersFile IsOne IsEnd input out err end
  text_reported text mid end is_end at_end one (inl (e, received)) reported =
      elim (subst (λ (x : Status). IsReportedSo x err end) e reported) [
        | inl line ↦ subst (AnswersFile IsOne IsEnd input out err) (sym line.0)
            (done text is_end at_end one received line.1)
        | inr failed ↦ subst (AnswersFile IsOne IsEnd input out err) (sym failed.0)
            (cut_by_write text received (complete_text text one) (inr failed.1) (inr (refl, failed.1)))
      ]
  text_reported text mid end is_end at_end one (inr (inl (e, failed_out, (n, le, received)))) reported =
      elim (subst (λ (x : Status). IsReportedSo x err end) e reported) [
        | inl line ↦ subst (AnswersFile IsOne IsEnd input out err) (sym line.0)
            (cut_by_write (take n text) received (prefix_of_text text n one le) (inl failed_out) (inl line.1))
        | inr failed ↦ subst (AnswersFile IsOne IsEnd input out err) (sym failed.0)
            (cut_by_write (take n text) received (prefix_of_text text n one le) (inl failed_out)
            (inr (refl, failed.1)))
      ]
  text_reported text mid end is_end at_end one (inr (inr (e, received))) reported =
      memory_reported end received (subst (λ (x : Status). IsReportedSo x err end) e reported)

-- ---- the records after a start image

abbrev RunOf : FileKind → RunPosition → List ℕ → FileOutcome → Type 0
RunOf kind p bytes o = IsFileRun kind p.state (record { at = p.at; rest = p.ahead ++ bytes }) o

writes_file : (kind : FileKind) (p : RunPosition) (input out err : Seen) (end : Status)
    → AnswersFile (RunOf kind p) (IsFileRecordsEnd kind) input out err end
    → WritesFile kind p.state p.at p.ahead input out err end
writes_file kind p input out err end a = record {
  answered = a.answered;
  ended = a.ended;
  unwritten = a.unwritten;
  read_fault = a.read_fault;
  write_fault = a.write_fault;
  is_end = a.is_end;
  reported = a.reported;
}

pub finished_at_end : (kind : FileKind) (now : Gathers) (p : RunPosition) (s : ClosingState) (input out err : Seen)
    (mid end : Status) → Stopped kind now p s input stop.AtEnd → WroteGathered kind now out mid
    → IsReportedSo mid err end → WritesFile kind p.state p.at p.ahead input out err end
finished_at_end kind now p s input out err mid end (at_end, (closes, gathered, runs)) wrote reported =
    let w = wrote p.state closes gathered in
    writes_file kind p input out err end
    (text_reported (RunOf kind p) (IsFileRecordsEnd kind) input out err tt tt w.0 mid end tt at_end
    (runs w.0 w.1) w.2 reported)

pub finished_refused : (kind : FileKind) (now : Gathers) (p : RunPosition) (s : ClosingState) (input out err : Seen)
    (wrong : CloseFault) (end : Status) → kind.refused ≡ refused_with → Stopped kind now p s input (stop.Refused wrong)
    → Received out [] → IsRefusalReported (refused_line s.header wrong) err end
    → WritesFile kind p.state p.at p.ahead input out err end
finished_refused kind now p s input out err wrong end on_error runs received reported =
    let one = subst (λ (f : LedgerHeader → CloseFault → FileOutcome). RunsTo kind p input (f s.header wrong)) on_error
    runs in
    writes_file kind p input out err end
    (refusal_reported (RunOf kind p) (IsFileRecordsEnd kind) input out err tt tt s.header wrong end tt one received
    reported)

pub finished : (kind : FileKind) (now : Gathers) (p : RunPosition) (s : ClosingState) (input out err : Seen)
    (why end : Status) → Stopped kind now p s input (stop.Ended why) → Received out [] → IsReportedSo why err end
    → WritesFile kind p.state p.at p.ahead input out err end
finished kind now p s input out err (status.BadInput at) end runs received reported =
    writes_file kind p input out err end
    (silent_reported (RunOf kind p) (IsFileRecordsEnd kind) input out err tt tt (status.BadInput at) end
    (bad_input_is_silent (IsFileRecordsEnd kind) err at tt) runs received reported)
finished kind now p s input out err status.TooLarge end runs received reported =
    writes_file kind p input out err end
    (silent_reported (RunOf kind p) (IsFileRecordsEnd kind) input out err tt tt status.TooLarge end
    (too_large_is_silent (IsFileRecordsEnd kind) err runs.1) runs.0 received (inl reported))
finished kind now p s input out err status.ReadFault end failed received reported =
    writes_file kind p input out err end
    (read_reported (RunOf kind p) (IsFileRecordsEnd kind) input out err tt tt end tt failed received reported)
finished kind now p s input out err status.NoMemory end runs received reported =
    writes_file kind p input out err end
    (memory_reported (RunOf kind p) (IsFileRecordsEnd kind) input out err tt tt end received reported)
finished kind now p s input out err status.Done end h received reported = absurd h
finished kind now p s input out err status.Usage end h received reported = absurd h
finished kind now p s input out err status.Refused end h received reported = absurd h
finished kind now p s input out err status.WriteFault end h received reported = absurd h
finished kind now p s input out err status.DiskFault end h received reported = absurd h
finished kind now p s input out err (status.BadStore file place) end h received reported = absurd h
finished kind now p s input out err (status.BadImage rule) end h received reported = absurd h
finished kind now p s input out err status.Missing end h received reported = absurd h
finished kind now p s input out err status.AlreadyThere end h received reported = absurd h
