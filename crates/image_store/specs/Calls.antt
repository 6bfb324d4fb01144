-- What the calls of a store need and leave.
use Rattle.std.specs.Prelude.{◌≡◌, ℕ, [], length, Bool, false, Result, Ok, Err, ◌⊎◌}
use Rattle.ledger_types.specs.declared.ids.Hash.{Hash}
use Rattle.xdr_header.specs.declared.image.StartImage.{StartImage}
use Rattle.outside.specs.Streams.{Rose}
use Rattle.outside.specs.Disk.{Image, Disk, IsSafe}
use Rattle.gate_journal.specs.Records.{blocks}
use Rattle.gate_journal.specs.Calls.{IsAppendFault}
use Rattle.gate_journal.specs.declared.fault.StoreFault.{StoreFault}
use Rattle.gate_journal.specs.declared.fault.StoreFault.TheVariants as fault
use Rattle.image_store.specs.Opening.{Kept, Holds, HoldsNothing, IsOpening}
use Rattle.image_store.specs.State.{StoreState}
use Rattle.image_store.specs.declared.mounted.Mounted.{Mounted}

-- the store represents what the volume keeps, whatever a crash leaves of it
pub record IsSettled (store : StoreState) (disk : Disk) (kept : Kept) : Type 0 where
  pub safe : IsSafe disk
  pub holds : Holds disk.reads kept
  pub epoch : store.epoch ≡ kept.epoch
  pub end : store.end ≡ length (blocks kept.records)
  pub network : store.network ≡ kept.network
  pub working : store.failed ≡ false

-- what holds the one goes on to hold it, or holds the other
abbrev pub HoldsEither : (kept next : Kept) → Image → Image → Type 0
HoldsEither kept next d c = Holds d kept → Holds c kept ⊎ Holds c next

-- why `roll` fails: as `append` does, or because allocation fails
abbrev pub IsRollFault : (failed : Bool) (before now : ℕ) → StoreFault → Type 0
IsRollFault failed before now fault.NoMemory = failed ≡ false
IsRollFault failed before now other = IsAppendFault failed before now other

-- ---- opening

abbrev pub kept_in : Mounted → Kept
kept_in m =
    record { format = m.format; epoch = m.epoch; network = m.network; image = m.image; records = m.closes }

-- what `mount` says of what is read, which stays as it is but for a fault of the device
abbrev pub Mounts : (old new : Disk) → Result Mounted StoreFault → Type 0
Mounts old new (Ok m) = (new.reads ≡ old.reads) × IsSettled m.store new (kept_in m)
Mounts old new (Err (fault.BadStore file offset)) =
    (new.reads ≡ old.reads) × IsOpening old.reads (Err (fault.BadStore file offset))
Mounts old new (Err fault.Missing) = (new.reads ≡ old.reads) × IsOpening old.reads (Err fault.Missing)
Mounts old new (Err fault.NoMemory) = new.reads ≡ old.reads
Mounts old new (Err other) = Unit {0}

abbrev pub IsMountFault : (before now : ℕ) → StoreFault → Type 0
IsMountFault before now fault.DiskFault = Rose before now
IsMountFault before now fault.Failed = ⊥
IsMountFault before now fault.AlreadyThere = ⊥
IsMountFault before now other = Unit {0}

-- ---- making

-- an image in epoch 0 and format 2, without records
abbrev pub first_kept : Hash → StartImage → Kept
first_kept network image = record { format = 2; epoch = 0; network = network; image = image; records = [] }

-- what `create` leaves
abbrev pub Creates : Hash → StartImage → (old new : Disk) → Result StoreState StoreFault → Type 0
Creates network image old new (Ok store) =
    HoldsNothing old.reads × IsSettled store new (first_kept network image)
Creates network image old new (Err fault.AlreadyThere) = (new.reads ≡ old.reads) × (HoldsNothing old.reads → ⊥)
Creates network image old new (Err fault.NoMemory) = new.reads ≡ old.reads
Creates network image old new (Err other) = Unit {0}

-- where no image was open, none is or this one, and the files of odd epochs stay
pub record IsMade (network : Hash) (image : StartImage) (d c : Image) : Type 0 where
  pub nothing : HoldsNothing d
  pub made : HoldsNothing c ⊎ Holds c (first_kept network image)
  pub odd_image : c 1 ≡ d 1
  pub odd_journal : c 3 ≡ d 3

-- what was there stays as it is, or gets the image
abbrev pub IsCreated : Hash → StartImage → Image → Image → Type 0
IsCreated network image d c = (c ≡ d) ⊎ IsMade network image d c

abbrev pub IsCreateFault : (before now : ℕ) → StoreFault → Type 0
IsCreateFault before now fault.DiskFault = Rose before now
IsCreateFault before now fault.AlreadyThere = Unit {0}
IsCreateFault before now fault.NoMemory = Unit {0}
IsCreateFault before now other = ⊥
