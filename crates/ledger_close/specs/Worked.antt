-- What the set of a record leaves.
use Rattle.std.specs.Prelude.{◌≡◌, ◌+◌, None, Some, Result, Ok, Err}
use Rattle.xdr_header.specs.declared.record.CloseRecord.{CloseRecord}
use Rattle.entry_map.specs.EntryMap.{EntryMap}
use Rattle.entry_map.specs.Indexes.{IsIndexOf}
use Rattle.entry_table.specs.AfterBatch.{after_batch}
use Rattle.entry_table.specs.entry_changes.Next.{AreNextEntries, IsExactBatch}
use Rattle.close_rules.specs.declared.close_fault.CloseFault.{CloseFault}
use Rattle.close_rules.specs.State.{ClosingState}
use Rattle.close_rules.specs.Refusals.{set_fault}
use Rattle.close_rules.specs.Close.{applied_in}
use Rattle.ledger_close.specs.declared.apply.Worked.{Worked}
use Rattle.ledger_close.specs.Answers.{FaultIs}
use Rattle.ledger_close.specs.Heading.{IsDone}

-- the entries after a close
abbrev pub entries_after : ClosingState → Worked → EntryMap
entries_after s worked = after_batch s.entries worked.batch

pub record Leaves (s : ClosingState) (closing : CloseRecord) (worked : Worked) : Type 0 where
  pub done : IsDone s closing worked.done
  pub entries : AreNextEntries (s.header.ledger_seq + 1) s.entries (applied_in s closing).entries
      (entries_after s worked)
  pub batch : IsExactBatch s.entries (entries_after s worked) worked.batch
  pub index : IsIndexOf (entries_after s worked) worked.offers

abbrev pub IsWorked : ClosingState → CloseRecord → Result Worked CloseFault → Type 0
IsWorked s closing (Ok worked) = (set_fault s closing ≡ None) × Leaves s closing worked
IsWorked s closing (Err wrong) = FaultIs wrong (λ f. set_fault s closing ≡ Some f)
