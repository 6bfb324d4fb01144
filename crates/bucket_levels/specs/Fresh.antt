-- The fresh bucket of a close: what changed between the entries before it and those after it.
use Rattle.std.specs.Prelude.{◌≡◌, ◌↔◌, Some, None}
use Rattle.std.specs.FinMap.{get}
use Rattle.ledger_types.specs.declared.key.LedgerKey.{LedgerKey}
use Rattle.ledger_types.specs.Keys.{key_of}
use Rattle.entry_map.specs.EntryMap.{EntryMap}
use Rattle.entry_map.specs.Batch.{IsNew, IsChanged, IsGone}
use Rattle.bucket_core.specs.Bucket.{Change, Init, Live, Dead, Contents, change_at}

-- what became of the entry under a key, as a batch says it
abbrev pub BecameOf : EntryMap → EntryMap → LedgerKey → Change → Type 0
BecameOf before after k (Init entry) = (key_of entry ≡ k) × IsNew before after entry
BecameOf before after k (Live entry) = (key_of entry ≡ k) × IsChanged before after entry
BecameOf before after k Dead = IsGone before after k

-- The bucket says exactly what is new, changed or gone; of what it doesn't say, nothing is another than it was.
pub record IsFresh (before after : EntryMap) (fresh : Contents) : Type 0 where
  pub changes : (k : LedgerKey) (change : Change) → (change_at fresh k ≡ Some change) ↔ BecameOf before after k change
  pub others : (k : LedgerKey) → change_at fresh k ≡ None → get after k ≡ get before k
