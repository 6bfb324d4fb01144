-- What the records after a start image yield: one record, and all of them up to the end of a run.
use Rattle.std.specs.Prelude.{◌≡◌, ℕ, ◌+◌, ◌<◌, ◌≤◌, List, [], ◌++◌, length, take, Option, Some, None, IfSome, Ok}
use Rattle.std.specs.Prelude.{Err, ◌⊎◌}
use Rattle.std.specs.Io.KnownBytes.{IsAtEnd}
use Rattle.reports.specs.Ends.{Wrote}
use Rattle.stored_outcome.specs.run_streams.Seen.{Seen, Failed, Gave, Received, ReceivedPrefix}
use Rattle.record_stream.specs.declared.piece.PieceFault.{PieceFault}
use Rattle.record_stream.specs.declared.piece.PieceFault.TheVariants as fault
use Rattle.ledger_types.specs.declared.header.LedgerHeader.{LedgerHeader}
use Rattle.stored_outcome.specs.op_form.Sequences.{last_seq}
use Rattle.stored_outcome.specs.close_rules.declared.close_fault.CloseFault.{CloseFault}
use Rattle.stored_outcome.specs.close_rules.declared.close_fault.CloseFault.TheVariants as close
use Rattle.stored_outcome.specs.close_rules.State.{ClosingState}
use Rattle.stored_outcome.specs.close_rules.Close.{PreparedClose, IsClose}
use Rattle.stored_outcome.specs.run_outcome.declared.status.Status.{Status}
use Rattle.stored_outcome.specs.run_outcome.declared.status.Status.TheVariants as status
use Rattle.stored_outcome.specs.run_outcome.Statuses.{IsRecordsEnd}
use Rattle.stored_outcome.specs.run_outcome.Lines.{end_line, refused_line}
use Rattle.stored_outcome.specs.run_outcome.Outcome.{framed, max_record_len, lines_of, IsRun, AreComplete, IsRunPrefix}
use Rattle.stored_outcome.specs.run_outcome.Run.{Answered}

-- ---- the rest of a run

-- the end and the output are those of a run from an offset on, or are cut short
abbrev pub AnsweredFrom : ClosingState → (at : ℕ) → (rest : List ℕ) → (out : Seen) → (end : Status) → Type 0
AnsweredFrom s at rest out end =
    Answered (IsRun s (record { at = at; rest = rest })) (IsRunPrefix s (record { at = at; rest = rest })) out end

-- the lines of every complete record that is ahead or was given
pub record CompleteLines (s : ClosingState) (at : ℕ) (ahead : List ℕ) (input out : Seen) : Type 0 where
  pub given : List ℕ
  pub gave : Gave input given
  pub lines : List ℕ
  pub received : Received out lines
  pub all : AreComplete s (record { at = at; rest = ahead ++ given }) lines

-- the records from an offset on, of which these bytes are ahead and the others still in the source
pub record Followed (s : ClosingState) (at : ℕ) (ahead : List ℕ) (input out : Seen) (disk_failed : Type 0) (end :
    Status)
    : Type 0 where
  pub answered : IfSome input.before (λ bytes. AnsweredFrom s at (ahead ++ bytes) out end)
  pub ended : end ≡ status.Done → IsAtEnd input.now
  pub read_fault : end ≡ status.ReadFault → Failed input × CompleteLines s at ahead input out
  pub write_fault : end ≡ status.WriteFault → Failed out
  pub disk_fault : end ≡ status.DiskFault → disk_failed
  pub is_end : IsRecordsEnd end

-- ---- one record

-- where a run is: the state after the last ledger that closed, the offset of the input after its record, and the
-- bytes after that offset that were read
pub record RunPosition : Type 0 where
  pub state : ClosingState
  pub at : ℕ
  pub ahead : List ℕ

abbrev pub FollowedFrom : RunPosition → Seen → Seen → (disk_failed : Type 0) → Status → Type 0
FollowedFrom p input out disk_failed end = Followed p.state p.at p.ahead input out disk_failed end

-- the next record closed the ledger, and its lines were written
pub record Goes (old new : RunPosition) (input out : Seen) : Type 0 where
  pub bytes : List ℕ
  pub short : length bytes ≤ max_record_len
  pub closed : PreparedClose
  pub closes : IsClose old.state bytes (Ok closed)
  pub state : new.state ≡ closed.state
  pub given : List ℕ
  pub gave : Gave input given
  pub cut : old.ahead ++ given ≡ framed bytes ++ new.ahead
  pub at : new.at ≡ old.at + length (framed bytes)
  pub received : Received out (lines_of closed)
  pub input_later : input.faults_before ≤ input.faults_now
  pub out_later : out.faults_before ≤ out.faults_now
  pub low : old.state.header.ledger_seq ≤ last_seq

-- the run goes on, or this is its end
abbrev pub Turned : (old new : RunPosition) (input out : Seen) (disk_failed : Type 0) → Option Status → Type 0
Turned old new input out disk_failed None = Goes old new input out
Turned old new input out disk_failed (Some end) = FollowedFrom old input out disk_failed end

-- ---- the parts of a turn

-- ends at which a record that closes the ledger stops the run
abbrev pub IsCut : (out : Seen) (disk_failed : Type 0) (end : Status) → Type 0
IsCut out disk_failed status.WriteFault = Failed out
IsCut out disk_failed status.DiskFault = disk_failed
IsCut out disk_failed status.NoMemory = Unit {0}
IsCut out disk_failed other = ⊥

-- lines were written, or that or what follows them was cut
abbrev pub WroteClose : (text : List ℕ) (out : Seen) (disk_failed : Type 0) → Option Status → Type 0
WroteClose text out disk_failed None = Received out text
WroteClose text out disk_failed (Some end) = IsCut out disk_failed end × ReceivedPrefix out text

-- where a record ends the run: its lines weren't taken entirely, or what follows them failed; or it is refused
abbrev pub Stops : (s : ClosingState) (bytes : List ℕ) (out : Seen) (disk_failed : Type 0) (end : Status) → Type 0
Stops s bytes out disk_failed end =
    ((closed : PreparedClose) × IsClose s bytes (Ok closed) × IsCut out disk_failed end
    × ReceivedPrefix out (lines_of closed))
    ⊎ ((wrong : CloseFault) × IsClose s bytes (Err wrong)
    × Wrote out (refused_line s.header wrong) status.Refused end)
    ⊎ ((end ≡ status.NoMemory) × Received out [])

-- what the fault of a record yields
abbrev pub Refuses : LedgerHeader → (out : Seen) → CloseFault → (end : Status) → Type 0
Refuses header out close.NoMemory end = (end ≡ status.NoMemory) × Received out []
Refuses header out wrong end = Wrote out (refused_line header wrong) status.Refused end

-- what a record yielded
abbrev pub Closes : (s : ClosingState) (bytes : List ℕ) (next : ClosingState) (out : Seen) (disk_failed : Type 0)
    → Option Status → Type 0
Closes s bytes next out disk_failed None =
    (closed : PreparedClose) × IsClose s bytes (Ok closed) × (next ≡ closed.state) × Received out (lines_of closed)
Closes s bytes next out disk_failed (Some end) = Stops s bytes out disk_failed end

-- what the record at the start of what is ahead yielded
pub record Passes (s : ClosingState) (ahead : List ℕ) (end : ℕ) (next : ClosingState) (out : Seen)
    (disk_failed : Type 0) (result : Option Status) : Type 0 where
  pub bytes : List ℕ
  pub framed_is : framed bytes ≡ take end ahead
  pub short : length bytes ≤ max_record_len
  pub closes : Closes s bytes next out disk_failed result

-- where no record is ahead
abbrev pub EndsAt : (s : ClosingState) (at : ℕ) (ahead : List ℕ) (out : Seen) → PieceFault → Status → Type 0
EndsAt s at ahead out (fault.Xdr wrong) end =
    (length ahead ≡ 0 → Wrote out (end_line s.header) status.Done end)
    × (0 < length ahead → (end ≡ status.BadInput (at + wrong.at)) × Received out [])
EndsAt s at ahead out fault.Failed end = (end ≡ status.ReadFault) × Received out []
EndsAt s at ahead out fault.NoMemory end = (end ≡ status.NoMemory) × Received out []
