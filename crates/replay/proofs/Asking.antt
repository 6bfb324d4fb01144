-- What a query of a store leaves, once its end is written.
use Rattle.replay.proofs.Prelude.{◌≡◌, List, ℕ, [], Option, Some, None, IfSome, refl, sym, subst, inl, inr, ◌⊎◌}
use Rattle.replay.proofs.Prelude.{Appends, Appends-nil, IsAtEnd, Seen, Failed, Received, IsUntouched, SeenVolume}
use Rattle.replay.proofs.Prelude.{VolumeFailed, ClosingState, Status, status_line, IsReported, IsCutShort}
use Rattle.replay.proofs.Prelude.{IsPrefix, IsUnopenedEnd, ReadsStay, IsUnbegun, OpensNot}
use Rattle.replay.proofs.Prelude.{IsReportedOrRefused, IsReportedSo}
use Rattle.stored_outcome.specs.run_outcome.declared.status.Status.TheVariants as status
use Rattle.stored_outcome.specs.run_outcome.PathRun.{IsPathAnswer, IsPathAnswerPrefix, IsPathEnd, IsPathless}
use Rattle.stored_outcome.specs.run_outcome.PathRun.{IsQueryAnswered}
use Rattle.stored_outcome.specs.run_outcome.Run.{Answered}
use Rattle.stored_outcome.specs.Path.{DidPath, IsAnsweredOrUntouched}
use Rattle.reports.proofs.Prefixes.{complete_prefix}
use Rattle.replay.proofs.Showing.{reads_stay, unshown}
use Rattle.replay.specs.Asking.{AnsweredOrNot, Asks}

-- ---- ends

-- an end of an open ledger isn't one of a volume that doesn't open
not_unopened : (end : Status) → IsPathEnd end → IsUnopenedEnd end → ⊥
not_unopened status.Done is un = un
not_unopened status.Refused is un = un
not_unopened status.ReadFault is un = un
not_unopened status.WriteFault is un = un
not_unopened status.NoMemory is un = un
not_unopened (status.BadInput at) is un = un
not_unopened status.Usage is un = is
not_unopened status.DiskFault is un = is
not_unopened (status.BadStore file offset) is un = is
not_unopened (status.BadImage rule) is un = is
not_unopened status.Missing is un = is
not_unopened status.AlreadyThere is un = is
not_unopened status.TooLarge is un = is

abbrev IsAskEnd : Status → Type 0
IsAskEnd end = IsPathEnd end ⊎ (end ≡ status.DiskFault) ⊎ IsUnopenedEnd end

unbegun_end : (failed : Type 0) (end : Status) → IsUnbegun failed end → IsAskEnd end
unbegun_end failed status.DiskFault b = inr (inl refl)
unbegun_end failed status.NoMemory b = inl tt
unbegun_end failed status.Missing b = inr (inr tt)
unbegun_end failed (status.BadStore file offset) b = inr (inr tt)
unbegun_end failed status.Done b = absurd b
unbegun_end failed status.Usage b = absurd b
unbegun_end failed status.Refused b = absurd b
unbegun_end failed status.ReadFault b = absurd b
unbegun_end failed status.WriteFault b = absurd b
unbegun_end failed (status.BadInput at) b = absurd b
unbegun_end failed (status.BadImage rule) b = absurd b
unbegun_end failed status.AlreadyThere b = absurd b
unbegun_end failed status.TooLarge b = absurd b

-- ---- what was written

-- an answer whose end is another one, at which it may be cut short
cut_answer : (s : ClosingState) (input out : Seen) (end after : Status) → IsCutShort after
    → IsQueryAnswered s input out end → IsQueryAnswered s input out after
cut_answer s input out end after short h = by input.before h
  where
    by : (before : Option (List ℕ))
        → IfSome before (λ bytes. Answered (IsPathAnswer s bytes) (IsPathAnswerPrefix s bytes) out end)
        → IfSome before (λ bytes. Answered (IsPathAnswer s bytes) (IsPathAnswerPrefix s bytes) out after)
    by None g = tt
    by (Some bytes) (text, received, inl (o, is, e, same)) = (
      text,
      received,
      inr (
        short,
        inr (
          o,
          is,
          subst (λ (t : List ℕ). IsPrefix t o.text) (sym same) (complete_prefix o.text),
        ),
      ),
    )
    by (Some bytes) (text, received, inr (cut, prefix)) = (text, received, inr (short, prefix))

untouched_none : (out : Seen) → IsUntouched out → Received out []
untouched_none out same =
    subst (λ (now : Option (List ℕ)). Appends out.before now []) (sym same.0) (Appends-nil out.before)

-- ---- what is known whatever the volume reports

module _ (input out : Seen) (vol : SeenVolume) (end : Status) where
  disk_failed : AnsweredOrNot input out vol end → end ≡ status.DiskFault → VolumeFailed vol
  disk_failed (inl (s, x)) e = absurd (subst IsPathEnd e x.is_end)
  disk_failed (inr (i, o, b)) e = subst (IsUnbegun (VolumeFailed vol)) e b

  read_failed : AnsweredOrNot input out vol end → end ≡ status.ReadFault → Failed input
  read_failed (inl (s, x)) e = x.read_fault e
  read_failed (inr (i, o, b)) e = absurd (subst (IsUnbegun (VolumeFailed vol)) e b)

  write_failed : AnsweredOrNot input out vol end → end ≡ status.WriteFault → Failed out
  write_failed (inl (s, x)) e = x.write_fault e
  write_failed (inr (i, o, b)) e = absurd (subst (IsUnbegun (VolumeFailed vol)) e b)

  at_end : AnsweredOrNot input out vol end → end ≡ status.Done → IsAtEnd input.now
  at_end (inl (s, x)) e = x.ended e
  at_end (inr (i, o, b)) e = absurd (subst (IsUnbegun (VolumeFailed vol)) e b)

  none_written : AnsweredOrNot input out vol end → IsPathless end → Received out []
  none_written (inl (s, x)) h = x.unwritten h
  none_written (inr (i, o, b)) h = untouched_none out o

  untouched : AnsweredOrNot input out vol end → IsUnopenedEnd end → IsUntouched input × IsUntouched out
  untouched (inl (s, x)) un = absurd (not_unopened end x.is_end un)
  untouched (inr (i, o, b)) un = (i, o)

  ask_end : AnsweredOrNot input out vol end → IsAskEnd end
  ask_end (inl (s, x)) = inl x.is_end
  ask_end (inr (i, o, b)) = unbegun_end (VolumeFailed vol) end b

  answered_or_untouched : AnsweredOrNot input out vol end → IsAnsweredOrUntouched input out end
  answered_or_untouched (inl (s, x)) = inl (s, x.answered, x.is_end)
  answered_or_untouched (inr (i, o, b)) = inr (i, o)

  -- the same with a later end, at which an answer may be cut short
  cut_or_untouched : (after : Status) → IsCutShort after → IsPathEnd after → AnsweredOrNot input out vol end
      → IsAnsweredOrUntouched input out after
  cut_or_untouched after short is (inl (s, x)) = inl (s, cut_answer s input out end after short x.answered, is)
  cut_or_untouched after short is (inr (i, o, b)) = inr (i, o)

-- ---- the line

module _ (input out err : Seen) (vol : SeenVolume) (end : Status) (a : Asks input out vol end) where
  abbrev failing : end ≡ status.DiskFault → VolumeFailed vol
  failing = disk_failed input out vol end a.any

  stays : vol.reports → VolumeFailed vol ⊎ ReadsStay vol
  stays te = elim (a.reported te) [
    | inl answered ↦ inr answered.1
    | inr none ↦ reads_stay vol end none.2 failing
  ]

  -- its line was written
  as_reported : Received err (status_line end) → DidPath input out err vol end
  as_reported line = record {
    asked = λ te. elim (a.reported te) [
      | inl answered ↦ let x = answered.0 in inl (x.0, x.1, x.2.answered, x.2.is_end, answered.1)
      | inr none ↦ inr (none.0, none.1, unshown err vol end none.2 failing)
    ];
    runs = a.runs;
    reads = stays;
    survives = a.survives;
    any = answered_or_untouched input out vol end a.any;
    unopened = untouched input out vol end a.any;
    ended = at_end input out vol end a.any;
    unwritten = none_written input out vol end a.any;
    read_fault = read_failed input out vol end a.any;
    write_fault = λ e. inl (write_failed input out vol end a.any e);
    disk_fault = failing;
    is_end = ask_end input out vol end a.any;
    reported = inl line;
  }

  -- its line wasn't taken
  as_untold : Failed err → DidPath input out err vol status.WriteFault
  as_untold failed = record {
    asked = λ te. elim (a.reported te) [
      | inl answered ↦ let x = answered.0 in
          inl (x.0, x.1, cut_answer x.0 input out end status.WriteFault tt x.2.answered, tt, answered.1)
      | inr none ↦ inr (none.0, none.1, failed)
    ];
    runs = a.runs;
    reads = stays;
    survives = a.survives;
    any = cut_or_untouched input out vol end status.WriteFault tt tt a.any;
    unopened = λ un. absurd un;
    ended = λ e. absurd cc;
    unwritten = λ h. absurd h;
    read_fault = λ e. absurd cc;
    write_fault = λ e. inr failed;
    disk_fault = λ e. absurd cc;
    is_end = inl tt;
    reported = inr (refl, failed);
  }

  -- memory was refused for its line, which is the end then; the volume failed at no such end
  as_refused : (OpensNot vol.before.reads vol.now.reads end → ReadsStay vol)
      → Received err (status_line status.NoMemory) → DidPath input out err vol status.NoMemory
  as_refused still line = record {
    asked = λ te. elim (a.reported te) [
      | inl answered ↦ let x = answered.0 in
          inl (x.0, x.1, cut_answer x.0 input out end status.NoMemory tt x.2.answered, tt, answered.1)
      | inr none ↦ inr (none.0, none.1, still none.2)
    ];
    runs = a.runs;
    reads = stays;
    survives = a.survives;
    any = cut_or_untouched input out vol end status.NoMemory tt tt a.any;
    unopened = λ un. absurd un;
    ended = λ e. absurd cc;
    unwritten = λ h. absurd h;
    read_fault = λ e. absurd cc;
    write_fault = λ e. absurd cc;
    disk_fault = λ e. absurd cc;
    is_end = inl tt;
    reported = inl line;
  }

  reported_as : (after : Status) → IsReported end err after → DidPath input out err vol after
  reported_as after (inl (e, line)) = subst (DidPath input out err vol) (sym e) (as_reported line)
  reported_as after (inr (e, failed)) = subst (DidPath input out err vol) (sym e) (as_untold failed)

  reported_or_refused : (OpensNot vol.before.reads vol.now.reads end → ReadsStay vol) → (after : Status)
      → IsReportedOrRefused end err after → DidPath input out err vol after
  reported_or_refused still after (inl reported) = reported_as after reported
  reported_or_refused still after (inr (inl (e, line))) =
      subst (DidPath input out err vol) (sym e) (as_refused still line)
  reported_or_refused still after (inr (inr (e, failed))) =
      subst (DidPath input out err vol) (sym e) (as_untold failed)

pub did_path : (input out err : Seen) (vol : SeenVolume) (end after : Status) → Asks input out vol end
    → IsReportedSo end err after → DidPath input out err vol after
did_path input out err vol (status.BadStore file offset) after a reported =
    reported_or_refused input out err vol (status.BadStore file offset) a (λ o. o.1) after reported
did_path input out err vol (status.BadInput at) after a reported =
    reported_or_refused input out err vol (status.BadInput at) a (λ o. absurd o) after reported
did_path input out err vol (status.BadImage rule) after a reported =
    reported_or_refused input out err vol (status.BadImage rule) a (λ o. absurd o) after reported
did_path input out err vol status.Done after a reported =
    reported_as input out err vol status.Done a after reported
did_path input out err vol status.Usage after a reported =
    reported_as input out err vol status.Usage a after reported
did_path input out err vol status.Refused after a reported =
    reported_as input out err vol status.Refused a after reported
did_path input out err vol status.ReadFault after a reported =
    reported_as input out err vol status.ReadFault a after reported
did_path input out err vol status.WriteFault after a reported =
    reported_as input out err vol status.WriteFault a after reported
did_path input out err vol status.DiskFault after a reported =
    reported_as input out err vol status.DiskFault a after reported
did_path input out err vol status.NoMemory after a reported =
    reported_as input out err vol status.NoMemory a after reported
did_path input out err vol status.Missing after a reported =
    reported_as input out err vol status.Missing a after reported
did_path input out err vol status.AlreadyThere after a reported =
    reported_as input out err vol status.AlreadyThere a after reported
did_path input out err vol status.TooLarge after a reported =
    reported_as input out err vol status.TooLarge a after reported
