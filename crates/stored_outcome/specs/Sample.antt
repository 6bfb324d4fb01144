-- What `sample` leaves, over what was seen of its output and of standard error.
use Rattle.std.specs.Prelude.{◌≡◌, ◌<◌, ℕ, suc, List, [], length, Err, ◌⊎◌}
use Rattle.run_outcome.specs.run_streams.Seen.{Seen, Failed}
use Rattle.run_outcome.specs.close_rules.declared.close_fault.CloseFault.{CloseFault}
use Rattle.run_outcome.specs.close_rules.Close.{IsClose}
use Rattle.run_outcome.specs.declared.status.Status.{Status}
use Rattle.run_outcome.specs.declared.status.Status.TheVariants as status
use Rattle.run_outcome.specs.Lines.{sample_line, refused_line, success_count}
use Rattle.run_outcome.specs.Outcome.{Outcome, IsPrefix}
use Rattle.run_outcome.specs.Run.{Answered, IsLineReported}
use Rattle.sample_ledger.specs.Samples.{Progress, HaveClosed, record_bytes}

-- so many records close ledgers: the line of the last one
abbrev pub IsEntire : (seed ledgers : ℕ) → Outcome → Type 0
IsEntire seed ledgers o =
    (now : Progress) × HaveClosed seed ledgers now
    × (o ≡ record {
      status = status.Done;
      text = sample_line seed ledgers now.state.header (length now.results) (success_count now.results);
    })

-- k records close ledgers, and the next one is refused
abbrev pub IsRefusedAfter : (seed k : ℕ) → Outcome → Type 0
IsRefusedAfter seed k o =
    (now : Progress) × HaveClosed seed k now
    × (wrong : CloseFault) × IsClose now.state (record_bytes seed (suc k) now.state) (Err wrong)
    × (o ≡ record { status = status.Refused; text = refused_line now.state.header wrong })

-- what a sample of so many ledgers yields
abbrev pub IsSampled : (seed ledgers : ℕ) → Outcome → Type 0
IsSampled seed ledgers o = IsEntire seed ledgers o ⊎ ((k : ℕ) × (k < ledgers) × IsRefusedAfter seed k o)

abbrev pub IsSamplePrefix : (seed ledgers : ℕ) → (prefix : List ℕ) → Type 0
IsSamplePrefix seed ledgers prefix =
    (prefix ≡ []) ⊎ ((o : Outcome) × IsSampled seed ledgers o × IsPrefix prefix o.text)

-- all is done, a record is refused, or a stream or memory failed
abbrev pub IsSampleEnd : Status → Type 0
IsSampleEnd status.Done = Unit {0}
IsSampleEnd status.Refused = Unit {0}
IsSampleEnd status.WriteFault = Unit {0}
IsSampleEnd status.NoMemory = Unit {0}
IsSampleEnd other = ⊥

-- `sample`, over these streams, with this end and its line on standard error
pub record DidSample (seed ledgers : ℕ) (out err : Seen) (end : Status) : Type 0 where
  pub answered : Answered (IsSampled seed ledgers) (IsSamplePrefix seed ledgers) out end
  pub write_fault : end ≡ status.WriteFault → Failed out ⊎ Failed err
  pub is_end : IsSampleEnd end
  pub reported : IsLineReported err end
