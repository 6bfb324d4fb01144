-- What the file of a bucket is, as truths that rows are made of.
use Rattle.definition_rows.proofs.Prelude.{ℕ, Bool, false, ◌&&◌, List, nat_eq, length, is_none, start_of, NoMeta}
use Rattle.definition_rows.proofs.Prelude.{SecondMeta, Order, items_ahead, contents_of}
use Rattle.std.specs.Prelude.{bytes_eq, Option}
use Rattle.std.specs.Option.{option_eq}
use Rattle.bucket_core.specs.declared.fault.BucketFault.{BucketFault}
use Rattle.bucket_core.specs.declared.fault.BucketFault.TheVariants.{Xdr}
use Rattle.bucket_core.specs.Bucket.{version_of}
use Rattle.bucket_core.specs.Faults.{fault_from, first_fault}
use Rattle.bucket_core.specs.Hash.{file_hash}
use Rattle.definition_rows.proofs.Readings.{kind_number}
use Rattle.definition_rows.proofs.Opened.{sha_256}

abbrev pub are_same_fault : BucketFault → BucketFault → Bool
are_same_fault (Xdr at kind) (Xdr offset expected) =
    nat_eq at offset && nat_eq (kind_number kind) (kind_number expected)
are_same_fault (NoMeta at) (NoMeta offset) = nat_eq at offset
are_same_fault (SecondMeta at) (SecondMeta offset) = nat_eq at offset
are_same_fault (Order at) (Order offset) = nat_eq at offset
are_same_fault fault other = false

-- This is the first fault of the bytes in reading order, or they are a file.
unfoldable pub has_first_fault : Option BucketFault → List ℕ → Bool
unfolding fault_from
has_first_fault fault bytes = option_eq are_same_fault (first_fault bytes) fault

-- the version that the file of a bucket says, none of the empty one alone
abbrev pub version_in : List ℕ → Option ℕ
version_in bytes = version_of (contents_of bytes)

-- how many items the file has, META included
abbrev pub count_in : List ℕ → ℕ
count_in bytes = length (items_ahead (start_of bytes))

-- The bytes are the file of a bucket with this version and so many items.
unfoldable pub is_file : Option ℕ → ℕ → List ℕ → Bool
unfolding fault_from contents_of items_ahead
is_file version count bytes =
    is_none (first_fault bytes) && option_eq nat_eq (version_in bytes) version && nat_eq (count_in bytes) count

-- The same, and this is the file's hash.
unfoldable pub is_hashed_file : Option ℕ → ℕ → (hash : List ℕ) → (bytes : List ℕ) → Bool
unfolding is_file sha_256
is_hashed_file version count hash bytes = is_file version count bytes && bytes_eq (file_hash bytes).0 hash
