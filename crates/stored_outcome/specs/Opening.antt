-- What a volume's content opens to: the state after its image and all records of its journal.
use Rattle.std.specs.Prelude.{◌≡◌, ℕ, ◌+◌, ◌%◌, List, ◌∷◌, ◌++◌, length, All, Ok, Err, ◌⊎◌}
use Rattle.sample_ledger.specs.ledger_types.declared.ids.Hash.{Hash}
use Rattle.sample_ledger.specs.xdr_core.Leaves.{u32}
use Rattle.sample_ledger.specs.xdr_core.Position.{Position, start_of}
use Rattle.sample_ledger.specs.xdr_header.Records.{form_2}
use Rattle.run_outcome.specs.close_rules.declared.close_fault.CloseFault.{CloseFault}
use Rattle.run_outcome.specs.close_rules.declared.image_fault.ImageFault.{ImageFault}
use Rattle.run_outcome.specs.close_rules.State.{ClosingState}
use Rattle.run_outcome.specs.close_rules.Close.{IsClose}
use Rattle.run_outcome.specs.close_rules.Images.{IsJudged}
use Rattle.run_outcome.specs.Outcome.{AreClosed}
use Rattle.image_store.specs.outside.Disk.{Image, Disk, IsSafe}
use Rattle.image_store.specs.gate_journal.Records.{blocks}
use Rattle.image_store.specs.ImageFiles.{image_offset}
use Rattle.image_store.specs.Opening.{Kept, Holds, HoldsNoStore}

-- ---- records of form 2

-- its first word says so
abbrev pub IsOfForm2 : List ℕ → Type 0
IsOfForm2 bytes = (after : Position) × (u32.read (start_of bytes) ≡ Ok (form_2, after))

-- an epoch of format 1 holds none
abbrev pub MayHold : (format : ℕ) → List ℕ → Type 0
MayHold format bytes = format ≡ 1 → IsOfForm2 bytes → ⊥

-- ---- a content that opens

-- The image is a ledger's, its epoch may hold each record, and each closes a ledger after the one before.
pub record Yields (k : Kept) (s : ClosingState) : Type 0 where
  pub start : ClosingState
  pub judged : IsJudged k.network k.image (Ok start)
  pub held : All (MayHold k.format) k.records
  pub lines : List ℕ
  pub closed : AreClosed start k.records lines s

abbrev pub OpensTo : Image → ClosingState → Type 0
OpensTo c s = (k : Kept) × Holds c k × Yields k s

-- ---- a content that doesn't

-- the image breaks a rule
pub record BreaksRule (k : Kept) (file offset : ℕ) : Type 0 where
  pub wrong : ImageFault
  pub judged : IsJudged k.network k.image (Err wrong)
  pub in_file : file ≡ k.epoch % 2
  pub at : offset ≡ image_offset k.format

-- a record is of form 2 in an epoch of format 1, or closes no ledger after a state
abbrev pub IsRefusedIn : (format : ℕ) → ClosingState → List ℕ → Type 0
IsRefusedIn format s bytes =
    ((format ≡ 1) × IsOfForm2 bytes) ⊎ ((wrong : CloseFault) × IsClose s bytes (Err wrong))

-- a record is refused after those before it; the offset is its gate's
pub record RefusesRecord (k : Kept) (file offset : ℕ) : Type 0 where
  pub start : ClosingState
  pub judged : IsJudged k.network k.image (Ok start)
  pub prefix : List (List ℕ)
  pub bytes : List ℕ
  pub others : List (List ℕ)
  pub records : k.records ≡ prefix ++ bytes ∷ others
  pub held : All (MayHold k.format) prefix
  pub lines : List ℕ
  pub state : ClosingState
  pub closed : AreClosed start prefix lines state
  pub refused : IsRefusedIn k.format state bytes
  pub in_file : file ≡ 2 + k.epoch % 2
  pub at : offset ≡ length (blocks prefix)

-- what a store's faults are, those of its form first
abbrev pub IsBadStore : Image → (file offset : ℕ) → Type 0
IsBadStore c file offset =
    HoldsNoStore c file offset
    ⊎ ((k : Kept) × Holds c k × (BreaksRule k file offset ⊎ RefusesRecord k file offset))

-- ---- volumes

-- a volume that was opened again after a crash: it reads what that left, and nothing is pending
pub record IsReopened (c : Image) (disk : Disk) : Type 0 where
  pub reads : disk.reads ≡ c
  pub safe : IsSafe disk

abbrev pub OpensOn : Hash → Image → Type 0
OpensOn network c = (s : ClosingState) × OpensTo c s × (s.network ≡ network)

-- whatever a crash leaves opens, and so does what is read, all on one network
pub record IsSound (disk : Disk) : Type 0 where
  pub network : Hash
  pub crash : (c : Image) → disk.may_leave c → OpensOn network c
  pub reads : OpensOn network disk.reads
