-- What `path` leaves, over what was seen of its streams, of standard error and of its volume before and after.
use Rattle.std.specs.Prelude.{◌≡◌, ◌⊎◌, []}
use Rattle.std.specs.Io.KnownBytes.{IsAtEnd}
use Rattle.run_outcome.specs.run_streams.Seen.{Seen, Failed, IsUntouched, Received}
use Rattle.run_outcome.specs.close_rules.State.{ClosingState}
use Rattle.run_outcome.specs.declared.status.Status.{Status}
use Rattle.run_outcome.specs.declared.status.Status.TheVariants as status
use Rattle.run_outcome.specs.PathRun.{IsPathEnd, IsPathless, IsQueryAnswered}
use Rattle.run_outcome.specs.Run.{IsLineReported}
use Rattle.image_store.specs.outside.Disk.{Runs, Same}
use Rattle.run_outcome.specs.run_streams.SeenVolume.{SeenVolume, VolumeFailed}
use Rattle.stored_outcome.specs.Opening.{OpensTo}
use Rattle.stored_outcome.specs.StoredRun.{IsUnopenedEnd}
use Rattle.stored_outcome.specs.Show.{ReadsStay, IsUnshown}

-- the query was answered by the state to which what is read opens
abbrev pub IsAsked : (input out : Seen) → SeenVolume → (end : Status) → Type 0
IsAsked input out vol end =
    (s : ClosingState) × OpensTo vol.before.reads s × IsQueryAnswered s input out end × IsPathEnd end × ReadsStay vol

-- nothing was read or written, for a fault of the volume or of memory
abbrev pub IsUnasked : (input out err : Seen) → SeenVolume → (end : Status) → Type 0
IsUnasked input out err vol end = IsUntouched input × IsUntouched out × IsUnshown err vol end

-- the query was answered by some state, or nothing was read or written
abbrev pub IsAnsweredOrUntouched : (input out : Seen) → (end : Status) → Type 0
IsAnsweredOrUntouched input out end =
    ((s : ClosingState) × IsQueryAnswered s input out end × IsPathEnd end) ⊎ (IsUntouched input × IsUntouched out)

-- `path`, over these streams and this volume, with this end and its line on standard error
pub record DidPath (input out err : Seen) (vol : SeenVolume) (end : Status) : Type 0 where
  pub asked : vol.reports → IsAsked input out vol end ⊎ IsUnasked input out err vol end
  -- the volume stays
  pub runs : Runs Same vol.before vol.now
  pub reads : vol.reports → VolumeFailed vol ⊎ ReadsStay vol
  -- where it failed, it reads what a crash might have left before, and so opens to what that opened to
  pub survives : vol.reports → vol.before.may_leave vol.now.reads
  -- whatever the volume reports
  pub any : IsAnsweredOrUntouched input out end
  pub unopened : IsUnopenedEnd end → IsUntouched input × IsUntouched out
  pub ended : end ≡ status.Done → IsAtEnd input.now
  pub unwritten : IsPathless end → Received out []
  -- a fault of a device is answered only where its count rose
  pub read_fault : end ≡ status.ReadFault → Failed input
  pub write_fault : end ≡ status.WriteFault → Failed out ⊎ Failed err
  pub disk_fault : end ≡ status.DiskFault → VolumeFailed vol
  pub is_end : IsPathEnd end ⊎ (end ≡ status.DiskFault) ⊎ IsUnopenedEnd end
  pub reported : IsLineReported err end
