-- What a close of a record answers.
use Rattle.std.specs.Prelude.{◌≡◌, ◌≤◌, ◌<◌, ℕ, List, None, Some, Result, Ok, Err}
use Rattle.xdr_header.specs.declared.record.CloseRecord.{CloseRecord}
use Rattle.entry_table.specs.entry_changes.Next.{IsExactBatch}
use Rattle.bucket_levels.specs.Size.{file_total}
use Rattle.close_rules.specs.declared.close_fault.CloseFault.{CloseFault}
use Rattle.close_rules.specs.declared.close_fault.CloseFault.TheVariants as fault
use Rattle.close_rules.specs.State.{ClosingState, max_file_total}
use Rattle.close_rules.specs.Refusals.{record_fault, record_in}
use Rattle.close_rules.specs.Close.{PreparedClose, IsClosed}
use Rattle.ledger_close.specs.States.{PreparedAt, close_of}
use Rattle.ledger_close.specs.declared.prepared.DetailedClose.{DetailedClose}

-- a record that isn't refused for what it is closes the ledger, or would with files that are too long
abbrev pub IsFinished : ClosingState → CloseRecord → Result PreparedClose CloseFault → Type 0
IsFinished s closing (Ok closed) = IsClosed s closing closed × (file_total closed.state.levels ≤ max_file_total)
IsFinished s closing (Err (fault.LedgerFull total)) =
    (closed : PreparedClose) × IsClosed s closing closed × (total ≡ file_total closed.state.levels)
    × (max_file_total < total)
IsFinished s closing (Err fault.NoMemory) = Unit {0}
IsFinished s closing (Err other) = ⊥

-- a record is refused for what it is, or else goes on
abbrev pub IsClosedBy : ClosingState → CloseRecord → Result PreparedClose CloseFault → Type 0
IsClosedBy s closing (Ok closed) = (record_fault s closing ≡ None) × IsFinished s closing (Ok closed)
IsClosedBy s closing (Err fault.NoMemory) = Unit {0}
IsClosedBy s closing (Err (fault.LedgerFull total)) =
    (record_fault s closing ≡ None) × IsFinished s closing (Err (fault.LedgerFull total))
IsClosedBy s closing (Err wrong) = record_fault s closing ≡ Some wrong

-- ---- details

abbrev pub close_in : Result PreparedAt CloseFault → Result PreparedClose CloseFault
close_in (Ok prepared) = Ok (close_of prepared)
close_in (Err wrong) = Err wrong

abbrev pub prepared_in : Result DetailedClose CloseFault → Result PreparedClose CloseFault
prepared_in (Ok close) = Ok (close_of close.prepared)
prepared_in (Err wrong) = Err wrong

-- its set is that of a record, and its batch lists what differs between the entries before and after it
pub record IsDetailOf (s : ClosingState) (closing : CloseRecord) (close : DetailedClose) : Type 0 where
  pub set : close.set ≡ closing.tx_set
  pub batch : IsExactBatch s.entries close.prepared.state.entries close.prepared.batch

-- the same, of a record which are these bytes
abbrev pub IsDetail : ClosingState → (bytes : List ℕ) → DetailedClose → Type 0
IsDetail s bytes close = (closing : CloseRecord) × (record_in bytes ≡ Ok closing) × IsDetailOf s closing close
