-- What showing a ledger leaves, once its end is written.
use Rattle.replay.proofs.Prelude.{◌≡◌, ℕ, List, [], length, refl, sym, subst, ◌∙◌, arith, inl, inr, ◌⊎◌, take_all, Seen}
use Rattle.replay.proofs.Prelude.{Failed, Received, ReceivedPrefix, IsUntouched, SeenVolume, VolumeFailed, Status}
use Rattle.replay.proofs.Prelude.{status_line, IsReported, IsFailedEnd, IsUnopenedEnd, lines_shown, ReadsStay, IsShown}
use Rattle.replay.proofs.Prelude.{IsUnshown, DidShow, Wrote, IsUnbegun, OpensNot, IsReportedOrRefused, IsReportedSo}
use Rattle.stored_outcome.specs.run_outcome.declared.status.Status.TheVariants as status
use Rattle.replay.specs.Showing.{WroteOrNot, Shows}

-- ---- the text

prefix_of_none : (out : Seen) (text : List ℕ) → Received out [] → ReceivedPrefix out text
prefix_of_none out text received = (0, omega arith, received)

prefix_of_all : (out : Seen) (text : List ℕ) → Received out text → ReceivedPrefix out text
prefix_of_all out text received =
    (length text, omega arith, subst (Received out) (sym (take_all (length text) text (omega arith))) received)

prefix_of : (out : Seen) (text : List ℕ) (end : Status) → Wrote out text status.Done end → ReceivedPrefix out text
prefix_of out text end (inl (e, received)) = prefix_of_all out text received
prefix_of out text end (inr (inl (e, failed, prefix))) = prefix
prefix_of out text end (inr (inr (e, received))) = prefix_of_none out text received

shown_as : (text : List ℕ) (out err : Seen) (end : Status) → Wrote out text status.Done end → IsShown text out err end
shown_as text out err end (inl (e, received)) = inl (e, received)
shown_as text out err end (inr (inl (e, failed, prefix))) = inr (inl (e, inl failed, prefix))
shown_as text out err end (inr (inr (e, received))) = inr (inr (e, prefix_of_none out text received))

-- ---- the end

-- the ends of what was shown, and of what wasn't
abbrev IsShowEnd : Status → Type 0
IsShowEnd end = (end ≡ status.Done) ⊎ IsFailedEnd end ⊎ IsUnopenedEnd end

wrote_end : (out : Seen) (text : List ℕ) (end : Status) → Wrote out text status.Done end → IsShowEnd end
wrote_end out text end (inl (e, received)) = inl e
wrote_end out text end (inr (inl (e, failed, prefix))) = inr (inl (subst IsFailedEnd (sym e) tt))
wrote_end out text end (inr (inr (e, received))) = inr (inl (subst IsFailedEnd (sym e) tt))

unbegun_shown : (failed : Type 0) (end : Status) → IsUnbegun failed end → IsShowEnd end
unbegun_shown failed status.DiskFault b = inr (inl tt)
unbegun_shown failed status.NoMemory b = inr (inl tt)
unbegun_shown failed status.Missing b = inr (inr tt)
unbegun_shown failed (status.BadStore file offset) b = inr (inr tt)
unbegun_shown failed status.Done b = absurd b
unbegun_shown failed status.Usage b = absurd b
unbegun_shown failed status.Refused b = absurd b
unbegun_shown failed status.ReadFault b = absurd b
unbegun_shown failed status.WriteFault b = absurd b
unbegun_shown failed (status.BadInput at) b = absurd b
unbegun_shown failed (status.BadImage rule) b = absurd b
unbegun_shown failed status.AlreadyThere b = absurd b
unbegun_shown failed status.TooLarge b = absurd b

show_end : (out : Seen) (vol : SeenVolume) (end : Status) → WroteOrNot out vol end → IsShowEnd end
show_end out vol end (inl (text, w)) = wrote_end out text end w
show_end out vol end (inr (same, b)) = unbegun_shown (VolumeFailed vol) end b

-- a write didn't fail as a volume does, and a volume not as a write does
disk_failed : (out : Seen) (vol : SeenVolume) (end : Status) → WroteOrNot out vol end → end ≡ status.DiskFault
    → VolumeFailed vol
disk_failed out vol end (inl (text, inl (e, received))) is =
    let no : status.Done ≡ status.DiskFault = sym e ∙ is in absurd cc
disk_failed out vol end (inl (text, inr (inl (e, failed, prefix)))) is =
    let no : status.WriteFault ≡ status.DiskFault = sym e ∙ is in absurd cc
disk_failed out vol end (inl (text, inr (inr (e, received)))) is =
    let no : status.NoMemory ≡ status.DiskFault = sym e ∙ is in absurd cc
disk_failed out vol end (inr (same, b)) is = subst (IsUnbegun (VolumeFailed vol)) is b

write_failed : (out : Seen) (vol : SeenVolume) (end : Status) → WroteOrNot out vol end → end ≡ status.WriteFault
    → Failed out
write_failed out vol end (inl (text, inl (e, received))) is =
    let no : status.Done ≡ status.WriteFault = sym e ∙ is in absurd cc
write_failed out vol end (inl (text, inr (inl (e, failed, prefix)))) is = failed
write_failed out vol end (inl (text, inr (inr (e, received)))) is =
    let no : status.NoMemory ≡ status.WriteFault = sym e ∙ is in absurd cc
write_failed out vol end (inr (same, b)) is = absurd (subst (IsUnbegun (VolumeFailed vol)) is b)

none_written : (out : Seen) (vol : SeenVolume) (end : Status) → WroteOrNot out vol end → IsUnopenedEnd end
    → IsUntouched out
none_written out vol end (inl (text, inl (e, received))) un = absurd (subst IsUnopenedEnd e un)
none_written out vol end (inl (text, inr (inl (e, failed, prefix)))) un = absurd (subst IsUnopenedEnd e un)
none_written out vol end (inl (text, inr (inr (e, received)))) un = absurd (subst IsUnopenedEnd e un)
none_written out vol end (inr (same, b)) un = same

-- ---- what is read

pub unshown : (err : Seen) (vol : SeenVolume) (end : Status) → OpensNot vol.before.reads vol.now.reads end
    → (end ≡ status.DiskFault → VolumeFailed vol) → IsUnshown err vol end
unshown err vol status.Missing o d = o
unshown err vol (status.BadStore file offset) o d = o
unshown err vol status.NoMemory o d = o
unshown err vol status.DiskFault o d = d refl
unshown err vol status.Done o d = absurd o
unshown err vol status.Usage o d = absurd o
unshown err vol status.Refused o d = absurd o
unshown err vol status.ReadFault o d = absurd o
unshown err vol status.WriteFault o d = absurd o
unshown err vol (status.BadInput at) o d = absurd o
unshown err vol (status.BadImage rule) o d = absurd o
unshown err vol status.AlreadyThere o d = absurd o
unshown err vol status.TooLarge o d = absurd o

pub reads_stay : (vol : SeenVolume) (end : Status) → OpensNot vol.before.reads vol.now.reads end
    → (end ≡ status.DiskFault → VolumeFailed vol) → VolumeFailed vol ⊎ ReadsStay vol
reads_stay vol status.Missing o d = inr o.1
reads_stay vol (status.BadStore file offset) o d = inr o.1
reads_stay vol status.NoMemory o d = inr o
reads_stay vol status.DiskFault o d = inl (d refl)
reads_stay vol status.Done o d = absurd o
reads_stay vol status.Usage o d = absurd o
reads_stay vol status.Refused o d = absurd o
reads_stay vol status.ReadFault o d = absurd o
reads_stay vol status.WriteFault o d = absurd o
reads_stay vol (status.BadInput at) o d = absurd o
reads_stay vol (status.BadImage rule) o d = absurd o
reads_stay vol status.AlreadyThere o d = absurd o
reads_stay vol status.TooLarge o d = absurd o

module _ (out err : Seen) (vol : SeenVolume) (end : Status) (s : Shows out vol end) where
  stays : vol.reports → VolumeFailed vol ⊎ ReadsStay vol
  stays te = elim (s.reported te) [
    | inl wrote ↦ inr wrote.1
    | inr none ↦ reads_stay vol end none.1 (disk_failed out vol end s.any)
  ]

  -- its line was written
  as_reported : Received err (status_line end) → DidShow out err vol end
  as_reported line = record {
    shown = λ te. elim (s.reported te) [
      | inl wrote ↦ let w = wrote.0 in
          inl (w.0, w.1, w.2, w.3, shown_as (lines_shown w.0 w.1) out err end w.4, wrote.1)
      | inr none ↦ inr (none.0, unshown err vol end none.1 (disk_failed out vol end s.any))
    ];
    runs = s.runs;
    reads = stays;
    survives = s.survives;
    unopened = none_written out vol end s.any;
    write_fault = λ e. inl (write_failed out vol end s.any e);
    disk_fault = disk_failed out vol end s.any;
    is_end = show_end out vol end s.any;
    reported = inl line;
  }

  -- its line wasn't taken
  as_untold : Failed err → DidShow out err vol status.WriteFault
  as_untold failed = record {
    shown = λ te. elim (s.reported te) [
      | inl wrote ↦ let w = wrote.0 in
          inl (w.0, w.1, w.2, w.3, inr (inl (refl, inr failed, prefix_of out (lines_shown w.0 w.1) end w.4)), wrote.1)
      | inr none ↦ inr (none.0, failed)
    ];
    runs = s.runs;
    reads = stays;
    survives = s.survives;
    unopened = λ un. absurd un;
    write_fault = λ e. inr failed;
    disk_fault = λ e. absurd cc;
    is_end = inr (inl tt);
    reported = inr (refl, failed);
  }

  -- memory was refused for its line, which is the end then; the volume failed at no such end
  as_refused : (OpensNot vol.before.reads vol.now.reads end → ReadsStay vol)
      → Received err (status_line status.NoMemory) → DidShow out err vol status.NoMemory
  as_refused still line = record {
    shown = λ te. elim (s.reported te) [
      | inl wrote ↦ let w = wrote.0 in
          inl (w.0, w.1, w.2, w.3, inr (inr (refl, prefix_of out (lines_shown w.0 w.1) end w.4)), wrote.1)
      | inr none ↦ inr (none.0, still none.1)
    ];
    runs = s.runs;
    reads = stays;
    survives = s.survives;
    unopened = λ un. absurd un;
    write_fault = λ e. absurd cc;
    disk_fault = λ e. absurd cc;
    is_end = inr (inl tt);
    reported = inl line;
  }

  reported_as : (after : Status) → IsReported end err after → DidShow out err vol after
  reported_as after (inl (e, line)) = subst (DidShow out err vol) (sym e) (as_reported line)
  reported_as after (inr (e, failed)) = subst (DidShow out err vol) (sym e) (as_untold failed)

  reported_or_refused : (OpensNot vol.before.reads vol.now.reads end → ReadsStay vol) → (after : Status)
      → IsReportedOrRefused end err after → DidShow out err vol after
  reported_or_refused still after (inl reported) = reported_as after reported
  reported_or_refused still after (inr (inl (e, line))) = subst (DidShow out err vol) (sym e) (as_refused still line)
  reported_or_refused still after (inr (inr (e, failed))) = subst (DidShow out err vol) (sym e) (as_untold failed)

pub did_show : (out err : Seen) (vol : SeenVolume) (end after : Status) → Shows out vol end → IsReportedSo end err after
    → DidShow out err vol after
did_show out err vol (status.BadStore file offset) after s reported =
    reported_or_refused out err vol (status.BadStore file offset) s (λ o. o.1) after reported
did_show out err vol (status.BadInput at) after s reported =
    reported_or_refused out err vol (status.BadInput at) s (λ o. absurd o) after reported
did_show out err vol (status.BadImage rule) after s reported =
    reported_or_refused out err vol (status.BadImage rule) s (λ o. absurd o) after reported
did_show out err vol status.Done after s reported = reported_as out err vol status.Done s after reported
did_show out err vol status.Usage after s reported = reported_as out err vol status.Usage s after reported
did_show out err vol status.Refused after s reported = reported_as out err vol status.Refused s after reported
did_show out err vol status.ReadFault after s reported = reported_as out err vol status.ReadFault s after reported
did_show out err vol status.WriteFault after s reported = reported_as out err vol status.WriteFault s after reported
did_show out err vol status.DiskFault after s reported = reported_as out err vol status.DiskFault s after reported
did_show out err vol status.NoMemory after s reported = reported_as out err vol status.NoMemory s after reported
did_show out err vol status.Missing after s reported = reported_as out err vol status.Missing s after reported
did_show out err vol status.AlreadyThere after s reported = reported_as out err vol status.AlreadyThere s after reported
did_show out err vol status.TooLarge after s reported = reported_as out err vol status.TooLarge s after reported
