-- The entries after a close: those before it, with what the close changed.
use Rattle.std.specs.Prelude.{◌≡◌, ◌≢◌, ◌⊎◌, ℕ, Option, Some, None}
use Rattle.std.specs.FinMap.{get}
use Rattle.xdr_entries.specs.ledger_types.declared.key.LedgerKey.{LedgerKey}
use Rattle.xdr_entries.specs.ledger_types.declared.entry.LedgerEntry.{LedgerEntry}
use Rattle.entry_sums.specs.entry_map.declared.batch.Batch.{Batch}
use Rattle.entry_sums.specs.entry_map.EntryMap.{EntryMap}
use Rattle.entry_sums.specs.entry_map.Batch.{parts_of, IsBatch}

-- an entry with the number of the ledger that changed it
abbrev pub stamped : (seq : ℕ) → LedgerEntry → LedgerEntry
stamped seq e = record e { last_modified_ledger_seq = seq }

-- What is under a key after ledger `seq`, by what was there before it and what its transactions left. An entry that
-- they left as it was keeps its number, also where they removed it and put it back.
abbrev pub IsNextAt : (seq : ℕ) → (before worked after : Option LedgerEntry) → Type 0
IsNextAt seq None None after = after ≡ None
IsNextAt seq (Some was) None after = after ≡ None
IsNextAt seq None (Some e) after = after ≡ Some (stamped seq e)
IsNextAt seq (Some was) (Some e) after =
    ((parts_of was ≡ parts_of e) × (after ≡ Some was))
    ⊎ ((parts_of was ≢ parts_of e) × (after ≡ Some (stamped seq e)))

-- the entries after ledger `seq`, by those before it and those that its transactions left
pub record AreNextEntries (seq : ℕ) (before worked after : EntryMap) : Type 0 where
  pub each : (k : LedgerKey) → IsNextAt seq (get before k) (get worked k) (get after k)

-- The batch lists all that differs from what was there before, the number of its last change too.
pub record IsExactBatch (before after : EntryMap) (recorded : Batch) : Type 0 where
  pub batch : IsBatch before after recorded
  pub others : (k : LedgerKey) (was e : LedgerEntry) → get before k ≡ Some was → get after k ≡ Some e
      → parts_of was ≡ parts_of e → was ≡ e
