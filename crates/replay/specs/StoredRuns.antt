-- What opening a store yields, and a run after it.
use Rattle.std.specs.Prelude.{◌≡◌, ℕ, ◌%◌, ◌≤◌, List, length, All, Result, Ok, Err, ◌⊎◌, IfSome}
use Rattle.ledger_types.specs.declared.ids.Hash.{Hash}
use Rattle.xdr_header.specs.declared.image.StartImage.{StartImage}
use Rattle.std.specs.Io.KnownBytes.{IsAtEnd}
use Rattle.stored_outcome.specs.run_streams.Seen.{Seen, Failed}
use Rattle.stored_outcome.specs.close_rules.declared.image_fault.ImageFault.{ImageFault}
use Rattle.stored_outcome.specs.close_rules.declared.image_fault.ImageFault.TheVariants as image
use Rattle.stored_outcome.specs.close_rules.State.{ClosingState}
use Rattle.worker_merges.specs.ledger_close.States.{LedgerAt}
use Rattle.stored_outcome.specs.run_outcome.declared.status.Status.{Status}
use Rattle.stored_outcome.specs.run_outcome.declared.status.Status.TheVariants as status
use Rattle.outside.specs.Disk.{Image, Disk}
use Rattle.image_store.specs.State.{StoreState}
use Rattle.replay.specs.Keeping.{Ready}
use Rattle.replay.specs.Stored.{IsStored}
use Rattle.stored_outcome.specs.run_streams.SeenVolume.{SeenVolume, VolumeFailed}
use Rattle.image_store.specs.gate_journal.Records.{max_record}
use Rattle.image_store.specs.ImageFiles.{image_offset}
use Rattle.image_store.specs.Opening.{Kept, HoldsNothing}
use Rattle.image_store.specs.gate_journal.declared.fault.StoreFault.{StoreFault}
use Rattle.image_store.specs.gate_journal.declared.fault.StoreFault.TheVariants as fault
use Rattle.stored_outcome.specs.Opening.{OpensTo, Yields, BreaksRule, RefusesRecord, IsBadStore}
use Rattle.stored_outcome.specs.StoredRun.{AnsweredAfter, RanFrom, DidNotRun, IsUnopenedEnd, IsRunEnd}

-- the end of a run whose store isn't mounted
abbrev pub status_of : StoreFault → Status
status_of fault.DiskFault = status.DiskFault
status_of fault.Failed = status.DiskFault
status_of (fault.BadStore file offset) = status.BadStore file offset
status_of fault.Missing = status.Missing
status_of fault.AlreadyThere = status.AlreadyThere
status_of fault.NoMemory = status.NoMemory

-- the end of a run whose image, in a file of this format, is no ledger's
abbrev pub image_status : ImageFault → (epoch format : ℕ) → Status
image_status image.NoMemory epoch format = status.NoMemory
image_status other epoch format = status.BadStore (epoch % 2) (image_offset format)

abbrev pub kept_of : (format epoch : ℕ) → Hash → StartImage → List (List ℕ) → Kept
kept_of format epoch network image records =
    record { format = format; epoch = epoch; network = network; image = image; records = records }

abbrev pub AreShort : List (List ℕ) → Type 0
AreShort records = All (λ bytes. length bytes ≤ max_record) records

-- what is kept yields a ledger, or has a fault
abbrev pub Restores : Kept → Result LedgerAt Status → Type 0
Restores k (Ok ledger) = Yields k ledger.state
Restores k (Err (status.BadStore file offset)) = BreaksRule k file offset ⊎ RefusesRecord k file offset
Restores k (Err status.NoMemory) = Unit {0}
Restores k (Err other) = ⊥

-- why what is read doesn't open; where the volume didn't fail it reads as before
abbrev pub OpensNot : (old new : Image) → Status → Type 0
OpensNot old new status.Missing = HoldsNothing old × (new ≡ old)
OpensNot old new (status.BadStore file offset) = IsBadStore old file offset × (new ≡ old)
OpensNot old new status.NoMemory = new ≡ old
OpensNot old new status.DiskFault = Unit {0}
OpensNot old new other = ⊥

-- what is read opens, or why it doesn't
abbrev pub OpensSo : {O : Type 0} → (O → Type 0) → (old new : Image) → Result O Status → Type 0
OpensSo ready old new (Ok o) = ready o × (new ≡ old)
OpensSo ready old new (Err end) = OpensNot old new end

-- what is open: a state, the store that keeps it, the format of its image, and how many records it has
pub record IsOpened (format records : ℕ) (s : ClosingState) (store : StoreState) (disk : Disk) : Type 0 where
  pub ready : Ready (IsStored format store disk s) disk s
  pub count : records ≡ length ready.kept.kept.records

-- the ends of a run that doesn't begin
abbrev pub IsUnbegun : (failed : Type 0) → Status → Type 0
IsUnbegun failed status.DiskFault = failed
IsUnbegun failed status.NoMemory = Unit {0}
IsUnbegun failed status.Missing = Unit {0}
IsUnbegun failed (status.BadStore file offset) = Unit {0}
IsUnbegun failed other = ⊥

abbrev pub Unopened : SeenVolume → Status → Type 0
Unopened vol status.Missing = HoldsNothing vol.before.reads × (vol.now.reads ≡ vol.before.reads)
Unopened vol (status.BadStore file offset) =
    IsBadStore vol.before.reads file offset × (vol.now.reads ≡ vol.before.reads)
Unopened vol status.NoMemory = vol.now.reads ≡ vol.before.reads
Unopened vol status.DiskFault = VolumeFailed vol
Unopened vol other = ⊥

-- whatever the volume reports: nothing was read or written, or what was is the answer to a state
abbrev pub RanOrNot : (input out : Seen) (vol : SeenVolume) → Status → Type 0
RanOrNot input out vol end =
    DidNotRun input out vol ⊎ ((s : ClosingState) × IfSome input.before (λ bytes. AnsweredAfter s bytes out end))

-- a run from the state to which what is read opens; or nothing, but that the volume was read
abbrev pub RanSo : (input out : Seen) (vol : SeenVolume) → Status → Type 0
RanSo input out vol end =
    ((s : ClosingState) × OpensTo vol.before.reads s × RanFrom s input out vol end)
    ⊎ (DidNotRun input out vol × Unopened vol end)

-- what is known of a run before its end is written
pub record RanStored (input out : Seen) (vol : SeenVolume) (end : Status) : Type 0 where
  pub ran : vol.reports → RanSo input out vol end
  pub printed : RanOrNot input out vol end
  pub unbegun : IsUnopenedEnd end → DidNotRun input out vol
  pub ended : end ≡ status.Done → IsAtEnd input.now
  pub read_fault : end ≡ status.ReadFault → Failed input
  pub write_fault : end ≡ status.WriteFault → Failed out
  pub disk_fault : end ≡ status.DiskFault → VolumeFailed vol
  pub is_end : IsRunEnd end
