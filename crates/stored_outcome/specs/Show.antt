-- What `show` leaves, over what was seen of its output, of standard error and of its volume before and after.
use Rattle.std.specs.Prelude.{◌≡◌, List, ℕ, length, ◌⊎◌}
use Rattle.std.specs.FinMap.{entries}
use Rattle.run_outcome.specs.run_streams.Seen.{Seen, Failed, IsUntouched, Received, ReceivedPrefix}
use Rattle.run_outcome.specs.close_rules.State.{ClosingState}
use Rattle.run_outcome.specs.declared.status.Status.{Status}
use Rattle.run_outcome.specs.declared.status.Status.TheVariants as status
use Rattle.run_outcome.specs.Lines.{shown_lines}
use Rattle.run_outcome.specs.Run.{IsLineReported}
use Rattle.image_store.specs.outside.Disk.{Runs, Same}
use Rattle.run_outcome.specs.run_streams.SeenVolume.{SeenVolume, VolumeFailed}
use Rattle.image_store.specs.Opening.{Kept, Holds, HoldsNothing}
use Rattle.stored_outcome.specs.Opening.{Yields, IsBadStore}
use Rattle.stored_outcome.specs.StoredRun.{IsFailedEnd, IsUnopenedEnd}

-- the lines of what is kept, and of the state to which it comes
abbrev pub lines_shown : Kept → ClosingState → List ℕ
lines_shown k s = shown_lines s.header k.epoch (length k.records) (length (entries s.entries))

-- a text was written entirely, or a prefix of it where a stream failed or memory was refused
abbrev pub IsShown : (text : List ℕ) → (out err : Seen) → (end : Status) → Type 0
IsShown text out err end =
    ((end ≡ status.Done) × Received out text)
    ⊎ ((end ≡ status.WriteFault) × (Failed out ⊎ Failed err) × ReceivedPrefix out text)
    ⊎ ((end ≡ status.NoMemory) × ReceivedPrefix out text)

-- the volume reads as before
abbrev pub ReadsStay : SeenVolume → Type 0
ReadsStay vol = vol.now.reads ≡ vol.before.reads

-- why nothing was written
abbrev pub IsUnshown : (err : Seen) → SeenVolume → (end : Status) → Type 0
IsUnshown err vol status.Missing = HoldsNothing vol.before.reads × ReadsStay vol
IsUnshown err vol (status.BadStore file offset) = IsBadStore vol.before.reads file offset × ReadsStay vol
IsUnshown err vol status.DiskFault = VolumeFailed vol
IsUnshown err vol status.WriteFault = Failed err
IsUnshown err vol status.NoMemory = ReadsStay vol
IsUnshown err vol other = ⊥

-- `show`, over these streams and this volume, with this end and its line on standard error
pub record DidShow (out err : Seen) (vol : SeenVolume) (end : Status) : Type 0 where
  -- what the volume keeps was shown, or nothing was
  pub shown : vol.reports
      → ((k : Kept) × (s : ClosingState) × Holds vol.before.reads k × Yields k s
      × IsShown (lines_shown k s) out err end × ReadsStay vol)
      ⊎ (IsUntouched out × IsUnshown err vol end)
  -- the volume stays
  pub runs : Runs Same vol.before vol.now
  pub reads : vol.reports → VolumeFailed vol ⊎ ReadsStay vol
  -- where it failed, it reads what a crash might have left before, and so opens to what that opened to
  pub survives : vol.reports → vol.before.may_leave vol.now.reads
  -- whatever the volume reports
  pub unopened : IsUnopenedEnd end → IsUntouched out
  pub write_fault : end ≡ status.WriteFault → Failed out ⊎ Failed err
  pub disk_fault : end ≡ status.DiskFault → VolumeFailed vol
  pub is_end : (end ≡ status.Done) ⊎ IsFailedEnd end ⊎ IsUnopenedEnd end
  pub reported : IsLineReported err end
