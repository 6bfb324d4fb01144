-- What the records after a start image leave of a run that writes a file.
use Rattle.std.specs.Prelude.{◌≡◌, ◌⊎◌, ℕ, List, [], ◌++◌, IfSome}
use Rattle.std.specs.Io.KnownBytes.{IsAtEnd}
use Rattle.run_outcome.specs.close_rules.State.{ClosingState}
use Rattle.run_outcome.specs.run_streams.Seen.{Seen, Failed, Received}
use Rattle.run_outcome.specs.declared.status.Status.{Status}
use Rattle.run_outcome.specs.declared.status.Status.TheVariants as status
use Rattle.run_outcome.specs.FileRun.{CanBeTooLarge, FileKind, FileOutcome, IsFileRun, IsFileAnswer, IsFileless}
use Rattle.run_outcome.specs.FileRun.{IsFileLineReported}

-- the ends of the records
abbrev pub IsFileRecordsEnd : FileKind → Status → Type 0
IsFileRecordsEnd kind status.Done = Unit {0}
IsFileRecordsEnd kind status.Refused = Unit {0}
IsFileRecordsEnd kind status.ReadFault = Unit {0}
IsFileRecordsEnd kind status.WriteFault = Unit {0}
IsFileRecordsEnd kind status.NoMemory = Unit {0}
IsFileRecordsEnd kind (status.BadInput at) = Unit {0}
IsFileRecordsEnd kind status.TooLarge = CanBeTooLarge kind
IsFileRecordsEnd kind other = ⊥

-- the records from an offset on, of which these bytes are ahead and the others still in the source
pub record WritesFile (kind : FileKind) (s : ClosingState) (at : ℕ) (ahead : List ℕ) (input out err : Seen) (end :
    Status)
    : Type 0 where
  pub answered : IfSome input.before
      (λ bytes. IsFileAnswer (IsFileRun kind s (record { at = at; rest = ahead ++ bytes })) out err end)
  pub ended : end ≡ status.Done → IsAtEnd input.now
  pub unwritten : IsFileless end → Received out []
  pub read_fault : end ≡ status.ReadFault → Failed input
  pub write_fault : end ≡ status.WriteFault → Failed out ⊎ Failed err
  pub is_end : IsFileRecordsEnd kind end
  pub reported : IsFileLineReported err end
