-- The end of a run of `watch`, with its line on standard error.
use Rattle.watch_run.proofs.Prelude.{◌≡◌, ℕ, List, [], ◌++◌, Option, Some, None, IfSome, refl, sym, subst}
use Rattle.watch_run.proofs.Prelude.{inl, inr, ◌⊎◌, Seen, Failed, Received, Status, status_line}
use Rattle.watch_run.proofs.Prelude.{FileOutcome, IsFileAnswer, IsFilePrefix, with_file, without_file, IsReported}
use Rattle.watch_run.proofs.Prelude.{complete_prefix, if_some}
use Rattle.watch_run.proofs.Prelude.{IsReportedSo, refused_line, refused_on_output, IsLineless, AnswersWatch, EndsWatch}
use Rattle.watch_run.proofs.Prelude.{AccountId, reader_text}
use Rattle.run_outcome.specs.FileRun.{IsFileOutcome}
use Rattle.run_outcome.specs.WatchRun.{DidWatch}
use Rattle.run_outcome.specs.declared.status.Status.TheVariants as status

all_known : (o : Option (List ℕ)) (P : List ℕ → Type 0) → ((x : List ℕ) → P x) → IfSome o P
all_known None P f = tt
all_known (Some x) P f = f x

module _ (IsOne : List ℕ → FileOutcome → Type 0) (input out err : Seen) where
  -- ---- ends that cut the text short

  cut_by_line : (text : List ℕ) → Received out text
      → IfSome input.before (λ bytes. IsFilePrefix (IsOne bytes) text) → Failed out ⊎ Failed err
      → Received err (status_line status.WriteFault) ⊎ Failed err
      → AnswersWatch IsOne input out err status.WriteFault
  cut_by_line text received prefix failed line = record {
    answered = if_some input.before (λ bytes. IsFilePrefix (IsOne bytes) text)
        (λ bytes. IsFileAnswer (IsOne bytes) out err status.WriteFault)
        (λ bytes h. inr (inr (tt, (text, received, h)))) prefix;
    ended = λ e. absurd cc;
    unwritten = λ h. absurd h;
    read_fault = λ e. absurd cc;
    write_fault = λ e. failed;
    is_end = tt;
    reported = line_or line;
  } where
    line_or : Received err (status_line status.WriteFault) ⊎ Failed err
        → Received err (status_line status.WriteFault) ⊎ ((status.WriteFault ≡ status.WriteFault) × Failed err)
    line_or (inl h) = inl h
    line_or (inr h) = inr (refl, h)

  -- nothing was written before the line on standard error failed
  unwritten_by_line : Received out [] → Failed err → AnswersWatch IsOne input out err status.WriteFault
  unwritten_by_line received failed =
      cut_by_line [] received (all_known input.before (λ bytes. IsFilePrefix (IsOne bytes) []) (λ bytes. inl refl))
      (inr failed) (inr failed)

  -- the text of an outcome was written before the line on standard error failed
  written_by_line : (o : FileOutcome) → Received out o.text → IfSome input.before (λ bytes. IsOne bytes o) → Failed err
      → AnswersWatch IsOne input out err status.WriteFault
  written_by_line o received one failed =
      cut_by_line o.text received
      (if_some input.before (λ bytes. IsOne bytes o) (λ bytes. IsFilePrefix (IsOne bytes) o.text)
      (λ bytes h. inr (o, h, complete_prefix o.text)) one)
      (inr failed) (inr failed)

  cut_by_memory : Received out [] → Received err (status_line status.NoMemory)
      → AnswersWatch IsOne input out err status.NoMemory
  cut_by_memory received line = record {
    answered = all_known input.before (λ bytes. IsFileAnswer (IsOne bytes) out err status.NoMemory)
        (λ bytes. inr (inr (tt, ([], received, inl refl))));
    ended = λ e. absurd cc;
    unwritten = λ h. absurd h;
    read_fault = λ e. absurd cc;
    write_fault = λ e. absurd cc;
    is_end = tt;
    reported = inl line;
  }

  memory_reported : (end : Status) → Received out [] → IsReported status.NoMemory err end
      → AnswersWatch IsOne input out err end
  memory_reported end received (inl (e, line)) =
      subst (AnswersWatch IsOne input out err) (sym e) (cut_by_memory received line)
  memory_reported end received (inr (e, failed)) =
      subst (AnswersWatch IsOne input out err) (sym e) (unwritten_by_line received failed)

  -- ---- outcomes

  outcome_of : (o : FileOutcome) → Received out o.text → Received err o.line
      → IfSome input.before (λ bytes. IsOne bytes o)
      → IfSome input.before (λ bytes. IsFileAnswer (IsOne bytes) out err o.status)
  outcome_of o received line one =
      if_some input.before (λ bytes. IsOne bytes o) (λ bytes. IsFileAnswer (IsOne bytes) out err o.status)
      (λ bytes h. inl (o, h, refl, received, line)) one

  done_reported : (end : Status) → EndsWatch IsOne input out status.Done → IsReported status.Done err end
      → AnswersWatch IsOne input out err end
  done_reported end (at_end, (text, received, one)) (inl (e, line)) =
      subst (AnswersWatch IsOne input out err) (sym e) (record {
        answered = outcome_of (with_file text) received line one;
        ended = λ e. at_end;
        unwritten = λ h. absurd h;
        read_fault = λ e. absurd cc;
        write_fault = λ e. absurd cc;
        is_end = tt;
        reported = inl line;
      })
  done_reported end (at_end, (text, received, one)) (inr (e, failed)) =
      subst (AnswersWatch IsOne input out err) (sym e) (written_by_line (with_file text) received one failed)

  refused_reported : (end : Status) → EndsWatch IsOne input out status.Refused → IsReported status.Refused err end
      → AnswersWatch IsOne input out err end
  refused_reported end (header, wrong, received, one) (inl (e, line)) =
      subst (AnswersWatch IsOne input out err) (sym e) (record {
        answered = outcome_of (refused_on_output header wrong) received line one;
        ended = λ e. absurd cc;
        unwritten = λ h. absurd h;
        read_fault = λ e. absurd cc;
        write_fault = λ e. absurd cc;
        is_end = tt;
        reported = inl line;
      })
  refused_reported end (header, wrong, received, one) (inr (e, failed)) =
      subst (AnswersWatch IsOne input out err) (sym e)
      (written_by_line (refused_on_output header wrong) received one failed)

  read_reported : (end : Status) → Failed input → Received out [] → IsReported status.ReadFault err end
      → AnswersWatch IsOne input out err end
  read_reported end failed received (inl (e, line)) =
      subst (AnswersWatch IsOne input out err) (sym e) (record {
        answered = all_known input.before (λ bytes. IsFileAnswer (IsOne bytes) out err status.ReadFault)
            (λ bytes. inr (inl (refl, received)));
        ended = λ e. absurd cc;
        unwritten = λ h. received;
        read_fault = λ e. failed;
        write_fault = λ e. absurd cc;
        is_end = tt;
        reported = inl line;
      })
  read_reported end failed received (inr (e, line)) =
      subst (AnswersWatch IsOne input out err) (sym e) (unwritten_by_line received line)

  write_reported : (end : Status) → EndsWatch IsOne input out status.WriteFault
      → IsReported status.WriteFault err end → AnswersWatch IsOne input out err end
  write_reported end (failed, (text, received, prefix)) (inl (e, line)) =
      subst (AnswersWatch IsOne input out err) (sym e) (cut_by_line text received prefix (inl failed) (inl line))
  write_reported end (failed, (text, received, prefix)) (inr (e, other)) =
      subst (AnswersWatch IsOne input out err) (sym e) (cut_by_line text received prefix (inl failed) (inr other))

  bad_input_reported : (at : ℕ) (end : Status) → EndsWatch IsOne input out (status.BadInput at)
      → IsReported (status.BadInput at) err end → AnswersWatch IsOne input out err end
  bad_input_reported at end (received, one) (inl (e, line)) =
      subst (AnswersWatch IsOne input out err) (sym e) (record {
        answered = outcome_of (without_file (status.BadInput at)) received line one;
        ended = λ e. absurd cc;
        unwritten = λ h. received;
        read_fault = λ e. absurd cc;
        write_fault = λ e. absurd cc;
        is_end = tt;
        reported = inl line;
      })
  bad_input_reported at end (received, one) (inr (e, failed)) =
      subst (AnswersWatch IsOne input out err) (sym e) (unwritten_by_line received failed)

  -- ---- all ends

  pub reported_watch : (why end : Status) → EndsWatch IsOne input out why → IsReportedSo why err end
      → AnswersWatch IsOne input out err end
  reported_watch status.Done end h r = done_reported end h r
  reported_watch status.Refused end h r = refused_reported end h r
  reported_watch status.ReadFault end h r = read_reported end h.0 h.1 r
  reported_watch status.WriteFault end h r = write_reported end h r
  reported_watch status.NoMemory end h r = memory_reported end h r
  reported_watch (status.BadInput at) end h (inl r) = bad_input_reported at end h r
  reported_watch (status.BadInput at) end h (inr r) = memory_reported end h.0 r
  reported_watch (status.BadImage rule) end h (inl (inl (e, line))) =
      subst (AnswersWatch IsOne input out err) (sym e) (record {
        answered = outcome_of (without_file (status.BadImage rule)) h.0 line h.1;
        ended = λ e. absurd cc;
        unwritten = λ no. h.0;
        read_fault = λ e. absurd cc;
        write_fault = λ e. absurd cc;
        is_end = tt;
        reported = inl line;
      })
  reported_watch (status.BadImage rule) end h (inl (inr (e, failed))) =
      subst (AnswersWatch IsOne input out err) (sym e) (unwritten_by_line h.0 failed)
  reported_watch (status.BadImage rule) end h (inr r) = memory_reported end h.0 r
  reported_watch status.Usage end h r = absurd h
  reported_watch status.DiskFault end h r = absurd h
  reported_watch (status.BadStore file offset) end h r = absurd h
  reported_watch status.Missing end h r = absurd h
  reported_watch status.AlreadyThere end h r = absurd h
  reported_watch status.TooLarge end h r = absurd h

-- a run of `watch`, whose line on standard error was written
pub did_watch : (passphrase : List ℕ) (readers : ℕ) (id : AccountId) (input out err : Seen) (why end : Status)
    → EndsWatch (IsFileOutcome (reader_text readers id) passphrase) input out why → IsReportedSo why err end
    → DidWatch passphrase readers id input out err end
did_watch passphrase readers id input out err why end h r =
    let a = reported_watch (IsFileOutcome (reader_text readers id) passphrase) input out err why end h r in
    record {
      answered = a.answered;
      ended = a.ended;
      unwritten = a.unwritten;
      read_fault = a.read_fault;
      write_fault = a.write_fault;
      is_end = a.is_end;
      reported = a.reported;
    }
