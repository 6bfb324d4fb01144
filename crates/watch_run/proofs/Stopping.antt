-- How a run ends, by why the run over its records stopped.
use Rattle.watch_run.proofs.Prelude.{◌≡◌, ℕ, List, [], refl, sym, subst, inl, inr, ◌⊎◌, IfSome, All, take, if_some}
use Rattle.watch_run.proofs.Prelude.{Read}
use Rattle.watch_run.proofs.Prelude.{AccountId, ClosingState, CloseFault, EndsWatch, FileOutcome, IsFilePrefix}
use Rattle.watch_run.proofs.Prelude.{IsReadOf}
use Rattle.watch_run.proofs.Prelude.{IsReadOfLast, IsWatchRun, LedgerEntry, LedgerKey, Received, RunPosition, Seen}
use Rattle.watch_run.proofs.Prelude.{Status, StopsWatch, Wrote, last_state, reader_lines, refused_line}
use Rattle.watch_run.proofs.Prelude.{refused_on_output, with_file}
use Rattle.watch_run.proofs.Published.{reads_of}
use Rattle.run_outcome.specs.declared.status.Status.TheVariants as status
use Rattle.reports.specs.declared.gathering.Stop.TheVariants as stop

-- the text of an outcome was written, or a prefix of it
wrote : (IsOne : List ℕ → FileOutcome → Type 0) (input out : Seen) (o : FileOutcome) (entire end : Status)
    → IfSome input.before (λ bytes. IsOne bytes o) → (Received out o.text → EndsWatch IsOne input out entire)
    → Wrote out o.text entire end → EndsWatch IsOne input out end
wrote IsOne input out o entire end one all (inl (e, received)) =
    subst (EndsWatch IsOne input out) (sym e) (all received)
wrote IsOne input out o entire end one all (inr (inl (e, failed, (n, le, received)))) =
    subst (EndsWatch IsOne input out) (sym e) (
      failed,
      (
        take n o.text,
        received,
        if_some input.before (λ bytes. IsOne bytes o) (λ bytes. IsFilePrefix (IsOne bytes) (take n o.text))
            (λ bytes h. inr (o, h, (n, le, refl))) one,
      ),
    )
wrote IsOne input out o entire end one all (inr (inr (e, received))) =
    subst (EndsWatch IsOne input out) (sym e) received

-- at the end of the input the lines of what the readers read were written
pub at_end : (readers : ℕ) (id : AccountId) (states : List ClosingState) (key : LedgerKey) (p : RunPosition)
    (next : ClosingState) (input out : Seen) (reads : List (Read LedgerEntry)) (text : List ℕ) (end : Status)
    → ((s : ClosingState) → All (λ r. IsReadOf s key r.seq r.entry) reads → text ≡ reader_lines readers id s)
    → Wrote out text status.Done end
    → StopsWatch readers id states p next input stop.AtEnd
    → All (λ r. IsReadOfLast states key r.number r.seq r.entry) reads
    → EndsWatch (IsWatchRun readers id p) input out end
at_end readers id states key p next input out reads text end says w (ended, (closes, all, runs)) each =
    let s = last_state p.state closes in
    let is : text ≡ reader_lines readers id s = says s (reads_of p.state closes states key reads all each) in
    let one = runs text is in
    wrote (IsWatchRun readers id p) input out (with_file text) status.Done end one
    (λ received. (ended, (text, received, one))) w

-- the line of the record that is refused was written
pub at_refusal : (readers : ℕ) (id : AccountId) (states : List ClosingState) (p : RunPosition) (next : ClosingState)
    (input out : Seen) (wrong : CloseFault) (end : Status)
    → Wrote out (refused_line next.header wrong) status.Refused end
    → StopsWatch readers id states p next input (stop.Refused wrong)
    → EndsWatch (IsWatchRun readers id p) input out end
at_refusal readers id states p next input out wrong end w one =
    wrote (IsWatchRun readers id p) input out (refused_on_output next.header wrong) status.Refused end one
    (λ received. (next.header, wrong, received, one)) w

-- the end of a run that no close was too large for
abbrev pub small_end : Status → Status
small_end status.TooLarge = status.NoMemory
small_end end = end

-- nothing was written before this end
pub at_fault : (readers : ℕ) (id : AccountId) (states : List ClosingState) (p : RunPosition) (next : ClosingState)
    (input out : Seen) (end : Status) → Received out [] → StopsWatch readers id states p next input (stop.Ended end)
    → EndsWatch (IsWatchRun readers id p) input out (small_end end)
at_fault readers id states p next input out (status.BadInput at) received h = (received, h)
at_fault readers id states p next input out status.ReadFault received h = (h, received)
at_fault readers id states p next input out status.NoMemory received h = received
at_fault readers id states p next input out status.TooLarge received h = received
at_fault readers id states p next input out status.Done received h = absurd h
at_fault readers id states p next input out status.Usage received h = absurd h
at_fault readers id states p next input out status.Refused received h = absurd h
at_fault readers id states p next input out status.WriteFault received h = absurd h
at_fault readers id states p next input out status.DiskFault received h = absurd h
at_fault readers id states p next input out (status.BadStore file offset) received h = absurd h
at_fault readers id states p next input out (status.BadImage rule) received h = absurd h
at_fault readers id states p next input out status.Missing received h = absurd h
at_fault readers id states p next input out status.AlreadyThere received h = absurd h
