-- Laws of runs over a store: what they answer where nothing failed, where all records are accepted, and where the
-- outcome is another one; what `init` answers; what is acknowledged; and that a volume that is opened again is sound.
use Rattle.std.specs.Prelude.{◌≡◌, ℕ, ◌≤◌, List, ◌++◌, length, All, Some, ◌⊎◌}
use Rattle.stored_outcome.specs.run_streams.Seen.{Seen, Failed, Received}
use Rattle.stored_outcome.specs.run_streams.SeenVolume.{SeenVolume, VolumeFailed, MightLeave}
use Rattle.xdr_core.specs.Position.{start_of}
use Rattle.xdr_header.specs.declared.image.StartImage.{StartImage}
use Rattle.hash_ids.specs.Ids.{network_id_of}
use Rattle.stored_outcome.specs.close_rules.State.{ClosingState}
use Rattle.stored_outcome.specs.close_rules.declared.image_fault.ImageRule.{ImageRule}
use Rattle.stored_outcome.specs.run_outcome.declared.status.Status.{Status}
use Rattle.stored_outcome.specs.run_outcome.declared.status.Status.TheVariants as status
use Rattle.stored_outcome.specs.run_outcome.Lines.{end_line}
use Rattle.stored_outcome.specs.run_outcome.Outcome.{Outcome, max_record_len, frames, AreClosed, IsRun}
use Rattle.outside.specs.Disk.{Image, Disk}
use Rattle.image_store.specs.Opening.{HoldsNothing}
use Rattle.stored_outcome.specs.Opening.{OpensTo, IsBadStore, IsSound, IsReopened}
use Rattle.stored_outcome.specs.After.{AreAcknowledged, closed_count}
use Rattle.stored_outcome.specs.StoredRun.{IsAnswerAfter, Survived, DidRun}
use Rattle.stored_outcome.specs.Init.{IsLedgerImage, IsBadInput, IsBadImage, DidInit}
use Rattle.replay.specs.Completeness.{NoneFailed}

-- ---- what is acknowledged

-- as many ledgers are acknowledged as complete `closed` lines are printed
abbrev pub AcknowledgedAreCounted : Type 0
AcknowledgedAreCounted = (s : ClosingState) (given text : List ℕ) (end : Status) (count : ℕ)
    → IsAnswerAfter s given text end → AreAcknowledged s given text count → closed_count text ≡ count

-- ---- opening again

-- a volume that is opened again after a crash is sound where the one before was
abbrev pub IsSoundAgain : (old new : Disk) → Type 0
IsSoundAgain old new = (c : Image) → IsSound old → old.may_leave c → IsReopened c new → IsSound new

-- so is one that is opened again after a crash at some moment of a run
abbrev pub IsSoundInRun : SeenVolume → (again : Disk) → Type 0
IsSoundInRun vol again = (s : ClosingState) (given text : List ℕ) (end : Status) (c : Image)
    → Survived s given text vol end → IsSound vol.before → MightLeave vol c → IsReopened c again → IsSound again

-- a content opens to one state, or has one fault, or has no store
pub record OpeningsAreOne : Type 0 where
  pub states : (c : Image) (s t : ClosingState) → OpensTo c s → OpensTo c t → s ≡ t
  pub faults : (c : Image) (file offset other at : ℕ) → IsBadStore c file offset → IsBadStore c other at
      → (file ≡ other) × (offset ≡ at)
  pub no_fault : (c : Image) (s : ClosingState) (file offset : ℕ) → OpensTo c s → IsBadStore c file offset → ⊥
  pub some : (c : Image) (s : ClosingState) → OpensTo c s → HoldsNothing c → ⊥
  pub no_store : (c : Image) (file offset : ℕ) → HoldsNothing c → IsBadStore c file offset → ⊥

-- ---- `run`, on a volume that opens

-- no count of faults rose, of the streams or of the volume
pub record NothingFailed (input out err : Seen) (vol : SeenVolume) : Type 0 where
  pub streams : NoneFailed input out err
  pub no_disk : VolumeFailed vol → ⊥

-- a claim of each run over this volume that is given these bytes
abbrev pub StoredRuns : SeenVolume → (ClosingState → (bytes : List ℕ) → Seen → Seen → Seen → Status → Type 0) → Type 0
StoredRuns vol P = (s : ClosingState) (bytes : List ℕ) (input out err : Seen) (end : Status)
    → DidRun input out err vol end → vol.reports → OpensTo vol.before.reads s → input.before ≡ Some bytes
    → P s bytes input out err end

-- where nothing failed, the end and the output are those of the records, or memory was refused
abbrev pub IsRunComplete : SeenVolume → ClosingState → (bytes : List ℕ) → (input out err : Seen) → (end : Status)
    → Type 0
IsRunComplete vol s bytes input out err end = NothingFailed input out err vol
    → ((o : Outcome) × IsRun s (start_of bytes) o × (end ≡ o.status) × Received out o.text)
    ⊎ (end ≡ status.NoMemory)

-- where all records close ledgers too, all is done and the text is complete, or memory was refused
abbrev pub IsRunDone : SeenVolume → ClosingState → (bytes : List ℕ) → (input out err : Seen) → (end : Status) → Type 0
IsRunDone vol s bytes input out err end = (records : List (List ℕ)) (lines : List ℕ) (now : ClosingState)
    → bytes ≡ frames records → All (λ record_bytes. length record_bytes ≤ max_record_len) records
    → AreClosed s records lines now → NothingFailed input out err vol
    → ((end ≡ status.Done) × Received out (lines ++ end_line now.header)) ⊎ (end ≡ status.NoMemory)

-- what the records yield is answered with its status and text, unless a device failed or memory was refused
abbrev pub IsRunAnswered : SeenVolume → ClosingState → (bytes : List ℕ) → (input out err : Seen) → (end : Status)
    → Type 0
IsRunAnswered vol s bytes input out err end = (o : Outcome) → IsRun s (start_of bytes) o
    → ((end ≡ o.status) × Received out o.text)
    ⊎ ((end ≡ status.ReadFault) × Failed input)
    ⊎ ((end ≡ status.WriteFault) × (Failed out ⊎ Failed err))
    ⊎ ((end ≡ status.DiskFault) × VolumeFailed vol)
    ⊎ (end ≡ status.NoMemory)

-- ---- `init`

-- a claim of each `init` over this volume that is given these bytes
abbrev pub Inits : SeenVolume → ((passphrase bytes : List ℕ) → (input err : Seen) → Status → Type 0) → Type 0
Inits vol P = (passphrase bytes : List ℕ) (input err : Seen) (end : Status)
    → DidInit passphrase input err vol end → input.before ≡ Some bytes → P passphrase bytes input err end

-- a stream failed, or memory was refused
abbrev pub IsInputFault : (input err : Seen) → Status → Type 0
IsInputFault input err end =
    ((end ≡ status.ReadFault) × Failed input) ⊎ ((end ≡ status.WriteFault) × Failed err) ⊎ (end ≡ status.NoMemory)

-- the same, or the volume failed
abbrev pub IsInitFault : (input err : Seen) → SeenVolume → Status → Type 0
IsInitFault input err vol end = IsInputFault input err end ⊎ ((end ≡ status.DiskFault) × VolumeFailed vol)

-- what is wrong with the input is answered
abbrev pub IsBadInputAnswered : (passphrase bytes : List ℕ) → (input err : Seen) → Status → Type 0
IsBadInputAnswered passphrase bytes input err end = (at : ℕ) → IsBadInput bytes at
    → (end ≡ status.BadInput at) ⊎ IsInputFault input err end

-- the rule that the image breaks is answered
abbrev pub IsBadImageAnswered : (passphrase bytes : List ℕ) → (input err : Seen) → Status → Type 0
IsBadImageAnswered passphrase bytes input err end = (rule : ImageRule)
    → IsBadImage (network_id_of passphrase) bytes rule
    → (end ≡ status.BadImage rule) ⊎ IsInputFault input err end

-- a ledger's image is stored where no image is open, and an open one is answered
abbrev pub IsImageAnswered : SeenVolume → (passphrase bytes : List ℕ) → (input err : Seen) → Status → Type 0
IsImageAnswered vol passphrase bytes input err end = (start : StartImage) (s : ClosingState)
    → IsLedgerImage (network_id_of passphrase) bytes start s → vol.reports
    → (HoldsNothing vol.before.reads → (end ≡ status.Done) ⊎ IsInitFault input err vol end)
    × ((HoldsNothing vol.before.reads → ⊥) → (end ≡ status.AlreadyThere) ⊎ IsInitFault input err vol end)
