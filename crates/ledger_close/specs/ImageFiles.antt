-- The files of an image as buckets.
use Rattle.std.specs.Prelude.{◌≡◌, ℕ, List}
use Rattle.bucket_core.specs.Bucket.{Contents}
use Rattle.bucket_core.specs.File.{file_of, HasFile}
use Rattle.bucket_core.specs.declared.fault.BucketFault.{BucketFault}
use Rattle.bucket_core.specs.declared.fault.BucketFault.TheVariants as bucket
use Rattle.close_rules.specs.declared.image_fault.ImageFault.{ImageFault}
use Rattle.close_rules.specs.declared.image_fault.ImageFault.TheVariants as fault
use Rattle.close_rules.specs.declared.image_fault.ImageRule.TheVariants as rule

-- a file is that of these contents
pub record IsFileOf (file : List ℕ) (contents : Contents) : Type 0 where
  pub has : HasFile contents
  pub is : file ≡ file_of contents

-- the file of no bucket
abbrev pub IsNoFile : List ℕ → Type 0
IsNoFile file = (contents : Contents) → IsFileOf file contents → ⊥

-- An allocation failure is always allowed; a file that is no bucket's is reported only where P says why.
abbrev pub IsFileFault : ImageFault → Type 0 → Type 0
IsFileFault fault.NoMemory P = Unit {0}
IsFileFault (fault.BadImage rule.Bucket) P = P
IsFileFault other P = ⊥

-- the fault of an image with a file that has this one
abbrev pub fault_of : BucketFault → ImageFault
fault_of bucket.NoMemory = fault.NoMemory
fault_of (bucket.Xdr at kind) = fault.BadImage rule.Bucket
fault_of (bucket.NoMeta at) = fault.BadImage rule.Bucket
fault_of (bucket.SecondMeta at) = fault.BadImage rule.Bucket
fault_of (bucket.Order at) = fault.BadImage rule.Bucket
