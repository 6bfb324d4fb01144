-- What two items under one key give, by their types (CAP-0020).
use Rattle.std.specs.Prelude.{ℕ, Bool, false, nat_eq}
use Rattle.bucket_items.specs.declared.item.BucketEntryType.{BucketEntryType}
use Rattle.bucket_items.specs.declared.item.BucketEntryType.TheVariants as mark
use Rattle.bucket_merge.specs.declared.joining.Joining.{Joining}
use Rattle.bucket_merge.specs.declared.joining.Joining.TheVariants as give

abbrev pub joining_of : (older newer : BucketEntryType) → Joining
joining_of mark.Dead mark.Init = give.NewerAsLive
joining_of mark.Init mark.Live = give.NewerAsInit
joining_of mark.Init mark.Dead = give.Nothing
joining_of older newer = give.Newer

-- the deepest level keeps no DEAD
abbrev pub is_dropped : ℕ → BucketEntryType → Bool
is_dropped level mark.Dead = nat_eq level 10
is_dropped level other = false
