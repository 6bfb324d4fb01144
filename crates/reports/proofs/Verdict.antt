-- What `verify` leaves but the line on standard error.
use Rattle.std.proofs.Common.{◌≢◌, ℕ, List, ◌++◌, [], Option, Some, None, IfSome, Result, Ok, Err, refl, sym, ap}
use Rattle.std.proofs.Common.{subst, ◌∙◌, inl, inr, append-nil, take}
use Rattle.std.specs.Io.KnownBytes.{IsAtEnd}
use Rattle.xdr_core.specs.declared.fault.XdrFault.{XdrFault}
use Rattle.xdr_core.specs.Position.{Reading}
use Rattle.archive_files.specs.declared.form.StatedHistory.{StatedHistory}
use Rattle.archive_files.specs.declared.history.Verified.{Verified}
use Rattle.archive_files.specs.declared.history.HistoryFault.{HistoryFault}
use Rattle.archive_files.specs.declared.history.HistoryFault.TheVariants as fault
use Rattle.archive_files.specs.Chain.{IsJudged}
use Rattle.run_outcome.specs.run_streams.Seen.{Seen, Received}
use Rattle.run_outcome.specs.declared.status.Status.{Status}
use Rattle.run_outcome.specs.declared.status.Status.TheVariants as status
use Rattle.run_outcome.specs.Statuses.{IsCutShort}
use Rattle.run_outcome.specs.Outcome.{Outcome, silent}
use Rattle.run_outcome.specs.Run.{Answered}
use Rattle.run_outcome.specs.VerifyRun.{IsVerdict, IsVerdictOf, IsVerdictPrefix, IsVerdictless, IsVerifyEnd}
use Rattle.run_outcome.specs.VerifyRun.{verdict_outcome}
use Rattle.reports.specs.Ends.{Wrote}
use Rattle.reports.specs.HistoryInput.{IsUnread, IsInput, IsText, Judges}
use Rattle.reports.specs.Verifying.{Verifies}
use Rattle.reports.proofs.Streams.{reported_prefix, nothing_after_end}

abbrev AnsweredOf : (out : Seen) (end : Status) → List ℕ → Type 0
AnsweredOf out end bytes = Answered (IsVerdict bytes) (IsVerdictPrefix bytes) out end

-- ---- nothing was written

cut_answered : (before : Option (List ℕ)) (out : Seen) (end : Status) → Received out [] → IsCutShort end
    → IfSome before (AnsweredOf out end)
cut_answered None out end h short = tt
cut_answered (Some bytes) out end h short = ([], h, inr (short, inl refl))

silent_answered : (before : Option (List ℕ)) (out : Seen) (end : Status) → Received out []
    → IfSome before (λ bytes. IsVerdict bytes (silent end)) → IfSome before (AnsweredOf out end)
silent_answered None out end h is = tt
silent_answered (Some bytes) out end h is = ([], h, inl (silent end, is, refl, refl))

without_memory : (input out : Seen) → Received out [] → Verifies input out status.NoMemory
without_memory input out h = record {
  answered = cut_answered input.before out status.NoMemory h tt;
  ended = λ e. absurd cc;
  unwritten = λ n. h;
  read_fault = λ e. absurd cc;
  write_fault = λ e. absurd cc;
  is_end = tt;
}

pub unread_verifies : (input out : Seen) (end : Status) → IsUnread input end → Received out [] → Verifies input out end
unread_verifies input out (status.BadInput at) is h = record {
  answered = silent_answered input.before out (status.BadInput at) h is;
  ended = λ e. absurd cc;
  unwritten = λ n. h;
  read_fault = λ e. absurd cc;
  write_fault = λ e. absurd cc;
  is_end = tt;
}
unread_verifies input out status.ReadFault failed h = record {
  answered = cut_answered input.before out status.ReadFault h tt;
  ended = λ e. absurd cc;
  unwritten = λ n. h;
  read_fault = λ e. failed;
  write_fault = λ e. absurd cc;
  is_end = tt;
}
unread_verifies input out status.NoMemory is h = without_memory input out h
unread_verifies input out status.Done is h = absurd is
unread_verifies input out status.Usage is h = absurd is
unread_verifies input out status.Refused is h = absurd is
unread_verifies input out status.WriteFault is h = absurd is
unread_verifies input out status.DiskFault is h = absurd is
unread_verifies input out (status.BadStore file offset) is h = absurd is
unread_verifies input out (status.BadImage rule) is h = absurd is
unread_verifies input out status.Missing is h = absurd is
unread_verifies input out status.AlreadyThere is h = absurd is
unread_verifies input out status.TooLarge is h = absurd is

-- ---- a history was judged

-- the verdict of a history is that of its text
verdict_of : (h : StatedHistory) (text : List ℕ) (judged : Result Verified HistoryFault) → IsText h text
    → IsJudged h.history h.before h.first judged → judged ≢ Err fault.NoMemory
    → IsVerdict text (verdict_outcome judged)
verdict_of h text judged is j some =
    subst (λ (r : Reading XdrFault StatedHistory). IsVerdictOf r (verdict_outcome judged)) (sym is.1)
    (judged, j, some, refl)

-- which is the entire input
input_verdict : (h : StatedHistory) (input : Seen) (o : Outcome) → IsInput h input
    → ((text : List ℕ) → IsText h text → IsVerdict text o) → IfSome input.before (λ bytes. IsVerdict bytes o)
input_verdict h input o i is =
    reported_prefix input.before input.now i.text (λ bytes. IsVerdict bytes o) i.gave
    (λ others reported.
    subst (λ (t : List ℕ). IsVerdict t o)
    (sym (ap (λ (t : List ℕ). i.text ++ t) (nothing_after_end input.now others i.ended reported) ∙ append-nil i.text))
    (is i.text i.is))

-- its line was written entirely, or in part, or not
written_answered : (before : Option (List ℕ)) (out : Seen) (o : Outcome) (end : Status)
    → IfSome before (λ bytes. IsVerdict bytes o) → Wrote out o.text o.status end → IfSome before (AnsweredOf out end)
written_answered None out o end is wrote = tt
written_answered (Some bytes) out o end is (inl (e, received)) = (o.text, received, inl (o, is, e, refl))
written_answered (Some bytes) out o end is (inr (inl (e, failed, prefix))) =
    (take prefix.0 o.text, prefix.2, inr (subst IsCutShort (sym e) tt, inr (o, is, (prefix.0, prefix.1, refl))))
written_answered (Some bytes) out o end is (inr (inr (e, none))) =
    ([], none, inr (subst IsCutShort (sym e) tt, inl refl))

-- the ends of a verdict
pub record IsVerdictEnd (end : Status) : Type 0 where
  pub is_end : IsVerifyEnd end
  pub written : IsVerdictless end → ⊥
  pub no_read : end ≢ status.ReadFault
  pub no_write : end ≢ status.WriteFault

verdict_end : (judged : Result Verified HistoryFault) → IsVerdictEnd (verdict_outcome judged).status
verdict_end (Ok v) = record { is_end = tt; written = λ n. n; no_read = λ e. cc; no_write = λ e. cc }
verdict_end (Err wrong) = record { is_end = tt; written = λ n. n; no_read = λ e. cc; no_write = λ e. cc }

written_verifies : (input out : Seen) (o : Outcome) (end : Status) → IsAtEnd input.now
    → IfSome input.before (λ bytes. IsVerdict bytes o) → IsVerdictEnd o.status → Wrote out o.text o.status end
    → Verifies input out end
written_verifies input out o end ended is ends (inl (e, received)) = record {
  answered = written_answered input.before out o end is (inl (e, received));
  ended = λ d. ended;
  unwritten = λ n. absurd (ends.written (subst IsVerdictless e n));
  read_fault = λ r. absurd (ends.no_read (sym e ∙ r));
  write_fault = λ w. absurd (ends.no_write (sym e ∙ w));
  is_end = subst IsVerifyEnd (sym e) ends.is_end;
}
written_verifies input out o end ended is ends (inr (inl (e, failed, prefix))) = record {
  answered = written_answered input.before out o end is (inr (inl (e, failed, prefix)));
  ended = λ d. ended;
  unwritten = λ n. absurd (subst IsVerdictless e n);
  read_fault = λ r. absurd cc;
  write_fault = λ w. failed;
  is_end = subst IsVerifyEnd (sym e) tt;
}
written_verifies input out o end ended is ends (inr (inr (e, none))) =
    subst (Verifies input out) (sym e) (without_memory input out none)

pub judged_verifies : (h : StatedHistory) (input out : Seen) (end : Status) → IsInput h input → Judges h out end
    → Verifies input out end
judged_verifies h input out end i (inl w) =
    written_verifies input out (verdict_outcome w.judged) end i.ended
    (input_verdict h input (verdict_outcome w.judged) i (λ text is. verdict_of h text w.judged is w.is w.not_memory))
    (verdict_end w.judged) w.wrote
judged_verifies h input out end i (inr (e, none)) =
    subst (Verifies input out) (sym e) (without_memory input out none)
