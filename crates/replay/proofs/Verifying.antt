-- The line of an end after a run of `verify`.
use Rattle.replay.proofs.Prelude.{List, ℕ, Option, Some, None, IfSome, refl, sym, subst, inl, inr, Seen, Failed}
use Rattle.replay.proofs.Prelude.{Received, Status, status_line, IsCutShort, IsPrefix, Answered, IsReported}
use Rattle.replay.proofs.Prelude.{IsReportedOrRefused, IsReportedSo}
use Rattle.stored_outcome.specs.run_outcome.declared.status.Status.TheVariants as status
use Rattle.stored_outcome.specs.run_outcome.VerifyRun.{DidVerify, IsVerdict, IsVerdictPrefix}
use Rattle.reports.specs.Verifying.{Verifies}
use Rattle.reports.proofs.Prefixes.{complete_prefix}

abbrev AnsweredOf : (out : Seen) (end : Status) → List ℕ → Type 0
AnsweredOf out end bytes = Answered (IsVerdict bytes) (IsVerdictPrefix bytes) out end

-- an end that cuts the line short in place of another one
shorter : (before : Option (List ℕ)) (out : Seen) (end after : Status) → IsCutShort after
    → IfSome before (AnsweredOf out end) → IfSome before (AnsweredOf out after)
shorter None out end after short h = tt
shorter (Some bytes) out end after short (text, h, inl (o, is, e, same)) =
    (text, h, inr (short, inr (o, is, subst (λ t. IsPrefix t o.text) (sym same) (complete_prefix o.text))))
shorter (Some bytes) out end after short (text, h, inr (old, prefix)) = (text, h, inr (short, prefix))

module _ (input out err : Seen) where
  -- memory was refused for the line
  without_memory : (end : Status) → Verifies input out end → Verifies input out status.NoMemory
  without_memory end v = record {
    answered = shorter input.before out end status.NoMemory tt v.answered;
    ended = λ e. absurd cc;
    unwritten = λ h. absurd h;
    read_fault = λ e. absurd cc;
    write_fault = λ e. absurd cc;
    is_end = tt;
  }

  reported_complete : (end : Status) → Verifies input out end → Received err (status_line end)
      → DidVerify input out err end
  reported_complete end v h = record {
    answered = v.answered;
    ended = v.ended;
    unwritten = v.unwritten;
    read_fault = v.read_fault;
    write_fault = λ e. inl (v.write_fault e);
    is_end = v.is_end;
    reported = inl h;
  }

  reported_failed : (end : Status) → Verifies input out end → Failed err → DidVerify input out err status.WriteFault
  reported_failed end v failed = record {
    answered = shorter input.before out end status.WriteFault tt v.answered;
    ended = λ e. absurd cc;
    unwritten = λ h. absurd h;
    read_fault = λ e. absurd cc;
    write_fault = λ e. inr failed;
    is_end = tt;
    reported = inr (refl, failed);
  }

  reported_as : (end after : Status) → Verifies input out end → IsReported end err after → DidVerify input out err after
  reported_as end after v (inl (e, h)) = subst (DidVerify input out err) (sym e) (reported_complete end v h)
  reported_as end after v (inr (e, failed)) = subst (DidVerify input out err) (sym e) (reported_failed end v failed)

  reported_or : (end after : Status) → Verifies input out end → IsReportedOrRefused end err after
      → DidVerify input out err after
  reported_or end after v (inl reported) = reported_as end after v reported
  reported_or end after v (inr reported) = reported_as status.NoMemory after (without_memory end v) reported

  pub did_verify : (end after : Status) → Verifies input out end → IsReportedSo end err after
      → DidVerify input out err after
  did_verify (status.BadInput at) after v reported = reported_or (status.BadInput at) after v reported
  did_verify (status.BadStore file offset) after v reported = absurd v.is_end
  did_verify (status.BadImage rule) after v reported = absurd v.is_end
  did_verify status.Done after v reported = reported_as status.Done after v reported
  did_verify status.Usage after v reported = absurd v.is_end
  did_verify status.Refused after v reported = reported_as status.Refused after v reported
  did_verify status.ReadFault after v reported = reported_as status.ReadFault after v reported
  did_verify status.WriteFault after v reported = reported_as status.WriteFault after v reported
  did_verify status.DiskFault after v reported = absurd v.is_end
  did_verify status.NoMemory after v reported = reported_as status.NoMemory after v reported
  did_verify status.Missing after v reported = absurd v.is_end
  did_verify status.AlreadyThere after v reported = absurd v.is_end
  did_verify status.TooLarge after v reported = absurd v.is_end
