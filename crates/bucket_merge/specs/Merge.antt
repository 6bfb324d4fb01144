-- The merge of an older and a newer bucket, key by key (CAP-0020).
use Rattle.std.specs.Prelude.{◌≡◌, ℕ, max, Option, Some, None, nat_eq, if◌then◌else◌, option_and_then}
use Rattle.bucket_core.specs.ledger_types.declared.key.LedgerKey.{LedgerKey}
use Rattle.bucket_core.specs.Bucket.{Change, Init, Live, Dead, Contents, change_at, version_of}

-- what both say of one key
abbrev pub joined : (older newer : Change) → Option Change
joined Dead (Init entry) = Some (Live entry)
joined (Init was) (Live entry) = Some (Init entry)
joined (Init was) Dead = None
joined older newer = Some newer

-- a change that is kept: the deepest level has nothing below it, so it keeps no DEAD
abbrev pub kept : ℕ → Change → Option Change
kept level Dead = if nat_eq level 10 then None else Some Dead
kept level change = Some change

abbrev pub merged_change : ℕ → (older newer : Option Change) → Option Change
merged_change level None None = None
merged_change level (Some older) None = kept level older
merged_change level None (Some newer) = kept level newer
merged_change level (Some older) (Some newer) = option_and_then (kept level) (joined older newer)

abbrev pub greater_version : (older newer : Option ℕ) → Option ℕ
greater_version None newer = newer
greater_version (Some v) None = Some v
greater_version (Some v) (Some w) = Some (max v w)

-- contents are the merge of an older and a newer bucket into a level: empty only where both are
pub record IsMerge (level : ℕ) (older newer merged : Contents) : Type 0 where
  pub version : version_of merged ≡ greater_version (version_of older) (version_of newer)
  pub changes : (k : LedgerKey) → change_at merged k ≡ merged_change level (change_at older k) (change_at newer k)
