-- What a store keeps, as the ledger that it yields.
use Rattle.std.specs.Prelude.{◌≡◌, ℕ, ◌<◌, ◌-◌, ◌^◌, false}
use Rattle.stored_outcome.specs.close_rules.State.{ClosingState}
use Rattle.outside.specs.Disk.{Disk}
use Rattle.image_store.specs.State.{StoreState}
use Rattle.image_store.specs.Opening.{Kept}
use Rattle.image_store.specs.Calls.{IsSettled}
use Rattle.image_store.specs.gate_journal.declared.fault.StoreFault.{StoreFault}
use Rattle.image_store.specs.gate_journal.declared.fault.StoreFault.TheVariants as fault
use Rattle.stored_outcome.specs.Opening.{Yields}
use Rattle.replay.specs.Keeping.{Ready}
use Rattle.replay.specs.declared.keeper.KeepFault.{KeepFault}
use Rattle.replay.specs.declared.keeper.KeepFault.TheVariants as keep

-- The store represents what the volume keeps, in this format, which yields this state. A run keeps records in format 2
-- alone.
pub record IsStored (format : ℕ) (store : StoreState) (disk : Disk) (s : ClosingState) : Type 0 where
  pub kept : Kept
  pub settled : IsSettled store disk kept
  pub yields : Yields kept s
  pub is_format : kept.format ≡ format

-- A run can go on with a store that was opened in a format: it works, it has a next epoch where it has to be brought
-- over to format 2, and what the volume keeps yields this state.
pub record CanGoOn (format : ℕ) (store : StoreState) (reports : Type 0) (disk : Disk) (s : ClosingState) : Type 0 where
  pub works : store.failed ≡ false
  pub low : format ≡ 1 → store.epoch < 2 ^ 63 - 1
  pub ready : reports → Ready (IsStored format store disk s) disk s

-- why a roll wasn't made
abbrev pub keep_fault_of : StoreFault → KeepFault
keep_fault_of fault.NoMemory = keep.NoMemory
keep_fault_of other = keep.DiskFault
