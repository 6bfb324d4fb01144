-- What the calls of a journal need and leave.
use Rattle.std.specs.Prelude.{◌≡◌, ℕ, List, [], ◌∷◌, ◌++◌, length, Bool, true, false, Result, Ok, Err, ◌⊎◌}
use Rattle.outside.specs.Streams.{Rose}
use Rattle.outside.specs.Disk.{Image, Disk}
use Rattle.gate_journal.specs.Records.{blocks, HasRecords, HasNoRecords}
use Rattle.gate_journal.specs.declared.fault.StoreFault.{StoreFault}
use Rattle.gate_journal.specs.declared.fault.StoreFault.TheVariants as fault

-- the number of its file, the offset of the gate after its records, and whether a call on the volume has failed
pub record JournalState : Type 0 where
  pub file : ℕ
  pub end : ℕ
  pub failed : Bool

-- A file represents these records, whatever a crash leaves of it, and the gate after them is at this offset.
pub record HoldsRecords (disk : Disk) (file end : ℕ) (records : List (List ℕ)) : Type 0 where
  pub kept : (c : Image) → disk.may_leave c → c file ≡ disk.reads file
  pub holds : HasRecords (disk.reads file) records
  pub offset : end ≡ length (blocks records)

-- the journal represents these records
pub record IsSettled (journal : JournalState) (disk : Disk) (records : List (List ℕ)) : Type 0 where
  pub holds_records : HoldsRecords disk journal.file journal.end records
  pub working : journal.failed ≡ false

-- the records before, or those and the new one
abbrev pub HasEither : (records : List (List ℕ)) (bytes : List ℕ) (file : List ℕ) → Type 0
HasEither records bytes file = HasRecords file records ⊎ HasRecords file (records ++ bytes ∷ [])

-- nothing is said
abbrev pub Anything : List ℕ → List ℕ → Type 0
Anything old new = Unit {0}

-- why `clear` fails
abbrev pub IsClearFault : (before now : ℕ) → StoreFault → Type 0
IsClearFault before now fault.DiskFault = Rose before now
IsClearFault before now other = ⊥

-- why `append` fails: an earlier call did, or the count of faults rose
abbrev pub IsAppendFault : (failed : Bool) → (before now : ℕ) → StoreFault → Type 0
IsAppendFault failed before now fault.DiskFault = Rose before now × (failed ≡ false)
IsAppendFault failed before now fault.Failed = failed ≡ true
IsAppendFault failed before now other = ⊥

-- why `mount` fails
abbrev pub IsMountFault : (before now : ℕ) → StoreFault → Type 0
IsMountFault before now fault.DiskFault = Rose before now
IsMountFault before now (fault.BadStore file offset) = Unit {0}
IsMountFault before now fault.NoMemory = Unit {0}
IsMountFault before now other = ⊥

-- what `mount` says of what is read, which stays as it is but for a fault of the device
abbrev pub Mounts : (file : ℕ) (old new : Disk) → Result (JournalState × List (List ℕ)) StoreFault → Type 0
Mounts file old new (Ok m) = (new.reads ≡ old.reads) × (m.0.file ≡ file) × IsSettled m.0 new m.1
Mounts file old new (Err (fault.BadStore bad offset)) = (new.reads ≡ old.reads) × (bad ≡ file)
    × HasNoRecords (old.reads file) offset
Mounts file old new (Err fault.NoMemory) = new.reads ≡ old.reads
Mounts file old new (Err other) = Unit {0}
