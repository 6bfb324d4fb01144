-- What a volume in memory is to its callers.
use Rattle.std.specs.Prelude.{ℕ, List, Option}
use Rattle.outside.specs.MemDisk.{DiskState}

-- the disk, the calls so far, the numbers (from 1) of the calls that are to fail, how many calls are left until each
-- fails (`None`: that never comes), and the faults so far
pub record VolumeState : Type 0 where
  pub disk : DiskState
  pub calls : ℕ
  pub failing : List ℕ
  pub left : Option ℕ
  pub faults : ℕ
