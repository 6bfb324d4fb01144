-- The steps that a close counts: none where it makes no merge, and else at most one for each item of the files that it
-- merges, among them the bucket of what changed. A merge that is ready isn't made again.
use Rattle.std.specs.Prelude.{◌≡◌, ◌≤◌, ℕ, ◌+◌, List, None, ◌⊎◌}
use Rattle.xdr_header.specs.declared.record.CloseRecord.{CloseRecord}
use Rattle.entry_map.specs.EntryMap.{EntryMap}
use Rattle.entry_table.specs.entry_changes.Next.{AreNextEntries}
use Rattle.bucket_core.specs.Bucket.{Contents}
use Rattle.bucket_levels.specs.Fresh.{IsFresh}
use Rattle.bucket_levels.specs.Work.{work}
use Rattle.close_rules.specs.State.{ClosingState}
use Rattle.close_rules.specs.Refusals.{record_fault}
use Rattle.close_rules.specs.Close.{applied_in, IsTaken}
use Rattle.ledger_close.specs.States.{LedgerAt, levels_at}

-- at most one for each item that is merged with this bucket
abbrev pub AreFew : LedgerAt → (fresh : Contents) → (old new : ℕ) → Type 0
AreFew l fresh old new = new ≤ old + work (l.state.header.ledger_seq + 1) fresh (levels_at l)

-- the steps of the levels, with the bucket of what changed up to these entries
abbrev pub AreStepsTo : LedgerAt → (after : EntryMap) → (old new : ℕ) → Type 0
AreStepsTo l after old new =
    (new ≡ old) ⊎ ((fresh : Contents) × IsFresh l.state.entries after fresh × AreFew l fresh old new)

-- these entries are those after a record, and this bucket what changed up to them
pub record IsAfter (s : ClosingState) (closing : CloseRecord) (next : EntryMap) (fresh : Contents) : Type 0 where
  pub entries : AreNextEntries (s.header.ledger_seq + 1) s.entries (applied_in s closing).entries next
  pub recorded : IsFresh s.entries next fresh

-- the steps of the close of a record
abbrev pub AreStepsWith : LedgerAt → CloseRecord → (old new : ℕ) → Type 0
AreStepsWith l closing old new =
    (new ≡ old)
    ⊎ ((record_fault l.state closing ≡ None) × (next : EntryMap) × (fresh : Contents)
    × IsAfter l.state closing next fresh × AreFew l fresh old new)

-- the steps of the close of bytes, which are those of a record that is taken
abbrev pub AreSteps : LedgerAt → List ℕ → (old new : ℕ) → Type 0
AreSteps l bytes old new =
    (new ≡ old)
    ⊎ ((taken : IsTaken l.state bytes) × (next : EntryMap) × (fresh : Contents)
    × IsAfter l.state taken.closing next fresh × AreFew l fresh old new)
