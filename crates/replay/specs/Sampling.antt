-- What closing the ledgers of a sample yields, before its end is written.
use Rattle.std.specs.Prelude.{◌≡◌, ◌≤◌, ◌*◌, ◌^◌, ℕ, suc, [], length, Result, Ok, Err, ◌⊎◌}
use Rattle.stored_outcome.specs.run_streams.Seen.{Seen, Received}
use Rattle.stored_outcome.specs.close_rules.declared.close_fault.CloseFault.{CloseFault}
use Rattle.stored_outcome.specs.close_rules.State.{ClosingState}
use Rattle.stored_outcome.specs.close_rules.Close.{IsClose}
use Rattle.stored_outcome.specs.run_outcome.declared.status.Status.{Status}
use Rattle.stored_outcome.specs.run_outcome.declared.status.Status.TheVariants as status
use Rattle.stored_outcome.specs.run_outcome.Lines.{success_count}
use Rattle.stored_outcome.specs.run_outcome.Outcome.{Outcome}
use Rattle.worker_merges.specs.ledger_close.Answers.{FaultIs}
use Rattle.stored_outcome.specs.sample_ledger.Samples.{Progress, HaveClosed, record_bytes}
use Rattle.stored_outcome.specs.Sample.{IsSampled}
use Rattle.reports.specs.Ends.{Wrote}

-- the first k records have closed ledgers: the state, how many transactions these have, and how many succeeded
pub record HasReached (seed k : ℕ) (state : ClosingState) (transactions successes : ℕ) : Type 0 where
  pub now : Progress
  pub closed : HaveClosed seed k now
  pub state_is : state ≡ now.state
  pub transactions_are : transactions ≡ length now.results
  pub successes_are : successes ≡ success_count now.results
  -- each ledger has no more of them than a slice has items
  pub few : transactions ≤ k * 2 ^ 64
  pub few_successes : successes ≤ k * 2 ^ 64

-- the next record closes its ledger, or it doesn't, and all is as it was
abbrev pub Advances : (seed k : ℕ) (was : ClosingState) (state : ClosingState) (transactions successes : ℕ)
    → Result (Unit {0}) CloseFault → Type 0
Advances seed k was state transactions successes (Ok done) = HasReached seed (suc k) state transactions successes
Advances seed k was state transactions successes (Err wrong) =
    (state ≡ was) × FaultIs wrong (λ fault. IsClose was (record_bytes seed (suc k) was) (Err fault))

-- the text of what a sample yields was written, or nothing was, where memory was refused
abbrev pub Samples : (seed ledgers : ℕ) (out : Seen) (end : Status) → Type 0
Samples seed ledgers out end =
    ((o : Outcome) × IsSampled seed ledgers o × Wrote out o.text o.status end)
    ⊎ ((end ≡ status.NoMemory) × Received out [])
