-- What a query of a store leaves, before its end is written.
use Rattle.std.specs.Prelude.{◌≡◌, ◌⊎◌}
use Rattle.stored_outcome.specs.run_streams.Seen.{Seen, IsUntouched}
use Rattle.stored_outcome.specs.run_streams.SeenVolume.{SeenVolume, VolumeFailed}
use Rattle.stored_outcome.specs.close_rules.State.{ClosingState}
use Rattle.stored_outcome.specs.run_outcome.declared.status.Status.{Status}
use Rattle.outside.specs.Disk.{Runs, Same}
use Rattle.stored_outcome.specs.Opening.{OpensTo}
use Rattle.reports.specs.Answering.{AnswersQuery}
use Rattle.replay.specs.StoredRuns.{IsUnbegun, OpensNot}

-- the ledger to which what is read opens answered
abbrev pub HasAnswered : (input out : Seen) → SeenVolume → Status → Type 0
HasAnswered input out vol end = (s : ClosingState) × OpensTo vol.before.reads s × AnswersQuery s input out end

-- whatever the volume reports: some ledger answered, or nothing was read or written
abbrev pub AnsweredOrNot : (input out : Seen) → SeenVolume → Status → Type 0
AnsweredOrNot input out vol end =
    ((s : ClosingState) × AnswersQuery s input out end)
    ⊎ (IsUntouched input × IsUntouched out × IsUnbegun (VolumeFailed vol) end)

pub record Asks (input out : Seen) (vol : SeenVolume) (end : Status) : Type 0 where
  pub runs : Runs Same vol.before vol.now
  pub survives : vol.reports → vol.before.may_leave vol.now.reads
  pub reported : vol.reports → (HasAnswered input out vol end × (vol.now.reads ≡ vol.before.reads))
      ⊎ (IsUntouched input × IsUntouched out × OpensNot vol.before.reads vol.now.reads end)
  pub any : AnsweredOrNot input out vol end
