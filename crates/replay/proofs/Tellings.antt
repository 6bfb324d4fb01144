-- The line of an end after a run of `catchup`.
use Rattle.replay.proofs.Prelude.{ℕ, List, Option, Some, None, IfSome, Result, Ok, Err, refl, sym, ap, subst, inl, inr}
use Rattle.replay.proofs.Prelude.{Seen, Failed, Received, Hash, XdrFault, Position, Reading, start_of, StartImage}
use Rattle.replay.proofs.Prelude.{start_image, network_id_of, ImageFault, ClosingState, IsJudged, Status, status_line}
use Rattle.replay.proofs.Prelude.{IsCutShort, Outcome, IsStarted, IsOutcomeOf, IsOutcome, IsOutputPrefixOf}
use Rattle.replay.proofs.Prelude.{IsOutputPrefix, IsAnswer, AnsweredTo, DidCatchUp, CaughtUp, IsReportedOrRefused}
use Rattle.replay.proofs.Prelude.{IsReportedSo}
use Rattle.stored_outcome.specs.close_rules.declared.image_fault.ImageFault.TheVariants as fault
use Rattle.stored_outcome.specs.run_outcome.declared.status.Status.TheVariants as status
use Rattle.reports.proofs.Prefixes.{complete_prefix}

-- the text of an outcome is a prefix of itself
started_prefix : (network : Hash) (image : StartImage) (p : Position) (judged : Result ClosingState ImageFault)
    (o : Outcome) → IsJudged network image judged → IsStarted judged p o
    → IsOutputPrefixOf network (Ok (image, p)) o.text
started_prefix network image p (Ok s) o is h = inr (s, is, inr (o, h, complete_prefix o.text))
started_prefix network image p (Err (fault.BadImage rule)) o is h = inl (ap (λ (x : Outcome). x.text) h)
started_prefix network image p (Err fault.NoMemory) o is h = absurd h

outcome_prefix : (network : Hash) (r : Reading XdrFault StartImage) (o : Outcome) → IsOutcomeOf network r o
    → IsOutputPrefixOf network r o.text
outcome_prefix network (Err wrong) o h = ap (λ (x : Outcome). x.text) h
outcome_prefix network (Ok x) o h = started_prefix network x.0 x.1 h.0 o h.1 h.2

-- an end that cuts a run short in place of another one
shorter : (passphrase bytes text : List ℕ) (end after : Status) → IsCutShort after
    → IsAnswer (IsOutcome passphrase bytes) (IsOutputPrefix passphrase bytes) text end
    → IsAnswer (IsOutcome passphrase bytes) (IsOutputPrefix passphrase bytes) text after
shorter passphrase bytes text end after short (inl (o, is, e, same)) = inr (
  short,
  subst (IsOutputPrefix passphrase bytes) (sym same)
      (outcome_prefix (network_id_of passphrase) (start_image.read (start_of bytes)) o is),
)
shorter passphrase bytes text end after short (inr (old, f)) = inr (short, f)

shorter_if : (passphrase : List ℕ) (before : Option (List ℕ)) (out : Seen) (end after : Status) → IsCutShort after
    → IfSome before (λ bytes. AnsweredTo passphrase bytes out end)
    → IfSome before (λ bytes. AnsweredTo passphrase bytes out after)
shorter_if passphrase None out end after short h = tt
shorter_if passphrase (Some bytes) out end after short (text, h, answer) =
    (text, h, shorter passphrase bytes text end after short answer)

reported_complete : (passphrase : List ℕ) (input out err : Seen) (end : Status) → CaughtUp passphrase input out end
    → Received err (status_line end) → DidCatchUp passphrase input out err end
reported_complete passphrase input out err end run h = record {
  answered = run.answered;
  bad_image = run.bad_image;
  ended = run.ended;
  read_fault = run.read_fault;
  write_fault = λ e. inl (run.write_fault e);
  is_end = run.is_end;
  reported = inl h;
}

reported_failed : (passphrase : List ℕ) (input out err : Seen) (end : Status) → CaughtUp passphrase input out end
    → Failed err → DidCatchUp passphrase input out err status.WriteFault
reported_failed passphrase input out err end run failed = record {
  answered = shorter_if passphrase input.before out end status.WriteFault tt run.answered;
  bad_image = λ rule e. absurd cc;
  ended = λ e. absurd cc;
  read_fault = λ e. absurd cc;
  write_fault = λ e. inr failed;
  is_end = tt;
  reported = inr (refl, failed);
}

reported_no_memory : (passphrase : List ℕ) (input out err : Seen) (end : Status) → CaughtUp passphrase input out end
    → Received err (status_line status.NoMemory) → DidCatchUp passphrase input out err status.NoMemory
reported_no_memory passphrase input out err end run h = record {
  answered = shorter_if passphrase input.before out end status.NoMemory tt run.answered;
  bad_image = λ rule e. absurd cc;
  ended = λ e. absurd cc;
  read_fault = λ e. absurd cc;
  write_fault = λ e. absurd cc;
  is_end = tt;
  reported = inl h;
}

pub did_catch_up : (passphrase : List ℕ) (input out err : Seen) (end after : Status)
    → CaughtUp passphrase input out end → IsReportedOrRefused end err after → DidCatchUp passphrase input out err after
did_catch_up passphrase input out err end after run (inl (inl (e, h))) =
    subst (DidCatchUp passphrase input out err) (sym e) (reported_complete passphrase input out err end run h)
did_catch_up passphrase input out err end after run (inl (inr (e, failed))) =
    subst (DidCatchUp passphrase input out err) (sym e) (reported_failed passphrase input out err end run failed)
did_catch_up passphrase input out err end after run (inr (inl (e, h))) =
    subst (DidCatchUp passphrase input out err) (sym e) (reported_no_memory passphrase input out err end run h)
did_catch_up passphrase input out err end after run (inr (inr (e, failed))) =
    subst (DidCatchUp passphrase input out err) (sym e) (reported_failed passphrase input out err end run failed)

-- ---- lines without numbers take no memory

pub reported_or_refused : (end : Status) (err : Seen) (after : Status) → IsReportedSo end err after
    → IsReportedOrRefused end err after
reported_or_refused (status.BadStore file offset) err after reported = reported
reported_or_refused (status.BadInput at) err after reported = reported
reported_or_refused (status.BadImage rule) err after reported = reported
reported_or_refused status.Done err after reported = inl reported
reported_or_refused status.Usage err after reported = inl reported
reported_or_refused status.Refused err after reported = inl reported
reported_or_refused status.ReadFault err after reported = inl reported
reported_or_refused status.WriteFault err after reported = inl reported
reported_or_refused status.DiskFault err after reported = inl reported
reported_or_refused status.NoMemory err after reported = inl reported
reported_or_refused status.Missing err after reported = inl reported
reported_or_refused status.AlreadyThere err after reported = inl reported
reported_or_refused status.TooLarge err after reported = inl reported
