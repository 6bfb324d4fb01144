-- What showing a ledger yields, before its end is written.
use Rattle.std.specs.Prelude.{◌≡◌, List, ℕ, ◌⊎◌}
use Rattle.stored_outcome.specs.run_streams.Seen.{Seen, IsUntouched}
use Rattle.stored_outcome.specs.run_streams.SeenVolume.{SeenVolume, VolumeFailed}
use Rattle.stored_outcome.specs.close_rules.State.{ClosingState}
use Rattle.stored_outcome.specs.run_outcome.declared.status.Status.{Status}
use Rattle.stored_outcome.specs.run_outcome.declared.status.Status.TheVariants as status
use Rattle.outside.specs.Disk.{Runs, Same}
use Rattle.image_store.specs.Opening.{Kept, Holds}
use Rattle.stored_outcome.specs.Opening.{Yields}
use Rattle.stored_outcome.specs.Show.{lines_shown}
use Rattle.reports.specs.Ends.{Wrote}
use Rattle.replay.specs.StoredRuns.{IsUnbegun, OpensNot}

-- the lines of what the volume keeps
abbrev pub WroteShown : (out : Seen) → SeenVolume → Status → Type 0
WroteShown out vol end =
    (k : Kept) × (s : ClosingState) × Holds vol.before.reads k × Yields k s
    × Wrote out (lines_shown k s) status.Done end

-- whatever the volume reports: lines were written, or nothing was
abbrev pub WroteOrNot : (out : Seen) → SeenVolume → Status → Type 0
WroteOrNot out vol end =
    ((text : List ℕ) × Wrote out text status.Done end) ⊎ (IsUntouched out × IsUnbegun (VolumeFailed vol) end)

pub record Shows (out : Seen) (vol : SeenVolume) (end : Status) : Type 0 where
  pub runs : Runs Same vol.before vol.now
  pub survives : vol.reports → vol.before.may_leave vol.now.reads
  pub reported : vol.reports → (WroteShown out vol end × (vol.now.reads ≡ vol.before.reads))
      ⊎ (IsUntouched out × OpensNot vol.before.reads vol.now.reads end)
  pub any : WroteOrNot out vol end
