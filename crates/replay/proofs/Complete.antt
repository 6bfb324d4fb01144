-- An entire run.
use Rattle.replay.proofs.Prelude.{◌≡◌, ◌≤◌, ℕ, List, [], refl, subst, ◌⊎◌, inl, inr, Seen, IsUntouched, ClosingState}
use Rattle.replay.proofs.Prelude.{Status, Image, Disk, Runs, Same, SeenVolume, VolumeFailed, OpensTo, Followed, Ready}
use Rattle.replay.proofs.Prelude.{DiskFailed, KeptOn, DidNotRun, IsUnopenedEnd, IsRunEnd, IsRecordsEnd, OpensNot}
use Rattle.replay.proofs.Prelude.{IsUnbegun, Unopened, RanSo, RanStored}
use Rattle.stored_outcome.specs.run_outcome.declared.status.Status.TheVariants as status
use Rattle.replay.proofs.Surviving.{ran_from}
use Rattle.replay.proofs.Opening.{not_of_records}
use Rattle.reports.proofs.Streams.{rose_before}

ran_on : (s : ClosingState) (ahead : List ℕ) (input out : Seen) (vol : SeenVolume) (mid : Disk) (F K : Type 0)
    (end : Status) → ((c : Image) → vol.before.left_since vol.before.moment c → vol.before.may_leave c)
    → vol.now.may_leave vol.now.reads → Runs Same vol.before mid → Ready K mid s → mid.reads ≡ vol.before.reads
    → ahead ≡ [] → Followed s 0 ahead input out F end → KeptOn s 0 ahead input out mid vol.now end
    → RanSo input out vol end
ran_on s ahead input out vol mid F K end only reads_now first ready same empty f k = inl (
  s,
  subst (λ (x : Image). OpensTo x s) same ready.opens,
  ran_from s input out vol mid F end only reads_now first ready.safe ready.opens
      (subst (λ (t : List ℕ). Followed s 0 t input out F end) empty f)
      (subst (λ (t : List ℕ). KeptOn s 0 t input out mid vol.now end) empty k),
)

unopened : (vol : SeenVolume) (end : Status) → OpensNot vol.before.reads vol.now.reads end
    → IsUnbegun (VolumeFailed vol) end → Unopened vol end
unopened vol status.Missing h b = h
unopened vol (status.BadStore file offset) h b = h
unopened vol status.NoMemory h b = h
unopened vol status.DiskFault h b = b
unopened vol status.Done h b = absurd h
unopened vol status.Usage h b = absurd h
unopened vol status.Refused h b = absurd h
unopened vol status.ReadFault h b = absurd h
unopened vol status.WriteFault h b = absurd h
unopened vol (status.BadInput at) h b = absurd h
unopened vol (status.BadImage rule) h b = absurd h
unopened vol status.AlreadyThere h b = absurd h
unopened vol status.TooLarge h b = absurd h

-- what is read stays, where the volume didn't fail
reads_so : (vol : SeenVolume) (end : Status) → Unopened vol end → VolumeFailed vol ⊎ (vol.now.reads ≡ vol.before.reads)
reads_so vol status.Missing u = inr u.1
reads_so vol (status.BadStore file offset) u = inr u.1
reads_so vol status.NoMemory u = inr u
reads_so vol status.DiskFault u = inl u
reads_so vol status.Done u = absurd u
reads_so vol status.Usage u = absurd u
reads_so vol status.Refused u = absurd u
reads_so vol status.ReadFault u = absurd u
reads_so vol status.WriteFault u = absurd u
reads_so vol (status.BadInput at) u = absurd u
reads_so vol (status.BadImage rule) u = absurd u
reads_so vol status.AlreadyThere u = absurd u
reads_so vol status.TooLarge u = absurd u

-- nothing but that the volume was read
not_run : (input out : Seen) (vol : SeenVolume) (end : Status)
    → IsUntouched input → IsUntouched out → Runs Same vol.before vol.now
    → (vol.reports → OpensNot vol.before.reads vol.now.reads end) → IsUnbegun (VolumeFailed vol) end
    → DidNotRun input out vol
not_run input out vol end unread unwritten runs h b = record {
  unread = unread;
  unwritten = unwritten;
  runs = runs;
  reads = λ te. reads_so vol end (unopened vol end (h te) b);
}

ran_off : (input out : Seen) (vol : SeenVolume) (end : Status) → DidNotRun input out vol
    → OpensNot vol.before.reads vol.now.reads end → IsUnbegun (VolumeFailed vol) end → RanSo input out vol end
ran_off input out vol end none h b = inr (none, unopened vol end h b)

-- a run over records doesn't end as one that doesn't begin
did_begin : (end : Status) (P : Type 0) → IsRecordsEnd end → IsUnopenedEnd end → P
did_begin end P records unopened = absurd (not_of_records end unopened records)

-- the ends of a run that doesn't begin are ends of a run
unbegun_end : (failed : Type 0) (end : Status) → IsUnbegun failed end → IsRunEnd end
unbegun_end failed status.DiskFault b = inl tt
unbegun_end failed status.NoMemory b = inl tt
unbegun_end failed status.Missing b = inr tt
unbegun_end failed (status.BadStore file offset) b = inr tt
unbegun_end failed status.Done b = absurd b
unbegun_end failed status.Usage b = absurd b
unbegun_end failed status.Refused b = absurd b
unbegun_end failed status.ReadFault b = absurd b
unbegun_end failed status.WriteFault b = absurd b
unbegun_end failed (status.BadInput at) b = absurd b
unbegun_end failed (status.BadImage rule) b = absurd b
unbegun_end failed status.AlreadyThere b = absurd b
unbegun_end failed status.TooLarge b = absurd b

-- a run over the records after an opened store
pub stored_on : (s : ClosingState) (input out : Seen) (vol : SeenVolume) (mid : Disk) (mid_faults : ℕ) (K : Type 0)
    (end : Status) → ((c : Image) → vol.before.left_since vol.before.moment c → vol.before.may_leave c)
    → (vol.reports → vol.now.may_leave vol.now.reads) → Runs Same vol.before mid
    → (vol.reports → Ready K mid s × (mid.reads ≡ vol.before.reads)) → vol.faults_before ≤ mid_faults
    → Followed s 0 [] input out (DiskFailed (Unit {0}) mid_faults vol.faults_now) end
    → (vol.reports → KeptOn s 0 [] input out mid vol.now end) → RanStored input out vol end
stored_on s input out vol mid mid_faults K end only now first ready later f k = record {
  ran = λ te. let r = ready te in ran_on s [] input out vol mid _ K end only (now te) first r.0 r.1 refl f (k te);
  printed = inr (s, f.answered);
  unbegun = λ un. did_begin end _ f.is_end un;
  ended = f.ended;
  read_fault = λ e. (f.read_fault e).0;
  write_fault = f.write_fault;
  disk_fault = λ e. rose_before vol.faults_before mid_faults vol.faults_now later (f.disk_fault e).1;
  is_end = inl f.is_end;
}

-- a store that isn't opened
pub stored_off : (input out : Seen) (vol : SeenVolume) (end : Status) → IsUntouched input → IsUntouched out
    → Runs Same vol.before vol.now → (vol.reports → OpensNot vol.before.reads vol.now.reads end)
    → IsUnbegun (VolumeFailed vol) end → RanStored input out vol end
stored_off input out vol end unread unwritten runs opens cause =
    let none = not_run input out vol end unread unwritten runs opens cause in
    record {
      ran = λ te. ran_off input out vol end none (opens te) cause;
      printed = inl none;
      unbegun = λ un. none;
      ended = λ e. absurd (subst (IsUnbegun (VolumeFailed vol)) e cause);
      read_fault = λ e. absurd (subst (IsUnbegun (VolumeFailed vol)) e cause);
      write_fault = λ e. absurd (subst (IsUnbegun (VolumeFailed vol)) e cause);
      disk_fault = λ e. subst (IsUnbegun (VolumeFailed vol)) e cause;
      is_end = unbegun_end (VolumeFailed vol) end cause;
    }
