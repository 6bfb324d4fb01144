-- Closes of records after a state, of which something is gathered to be written at the end.
use Rattle.std.specs.Prelude.{◌≡◌, ℕ, ◌+◌, ◌*◌, ◌^◌, ◌<◌, ◌≤◌, List, [], ◌∷◌, ◌++◌, length, take, All, Option, Some}
use Rattle.std.specs.Prelude.{None}
use Rattle.std.specs.Prelude.{IfSome, Result, Ok, Err}
use Rattle.std.specs.Io.KnownBytes.{Consumes, IsAtEnd}
use Rattle.record_stream.specs.declared.piece.PieceFault.{PieceFault}
use Rattle.record_stream.specs.declared.piece.PieceFault.TheVariants as fault
use Rattle.ledger_close.specs.declared.prepared.DetailedClose.{DetailedClose}
use Rattle.ledger_close.specs.Closing.{IsDetailOf}
use Rattle.ledger_close.specs.States.{close_of}
use Rattle.run_outcome.specs.close_rules.State.{ClosingState}
use Rattle.run_outcome.specs.close_rules.Close.{IsClose}
use Rattle.run_outcome.specs.op_form.Sequences.{last_seq}
use Rattle.run_outcome.specs.run_streams.Seen.{Seen, Failed, Gave}
use Rattle.run_outcome.specs.declared.status.Status.{Status}
use Rattle.run_outcome.specs.declared.status.Status.TheVariants as status
use Rattle.run_outcome.specs.Outcome.{max_record_len, framed, frames}
use Rattle.run_outcome.specs.Closes.{RecordClose, IsCloseOf, AreClosesOf}
use Rattle.run_outcome.specs.FileRun.{CanBeTooLarge, FileKind, FileOutcome, IsFileEnd, IsFileRun, with_file}
use Rattle.run_outcome.specs.FileRun.{without_file}
use Rattle.reports.specs.Ends.{Wrote}
use Rattle.reports.specs.declared.gathering.Stop.{Stop}
use Rattle.reports.specs.declared.gathering.Stop.TheVariants as stop

-- what was gathered is that of these closes after this state
abbrev pub Gathers : Type 1
Gathers = (start : ClosingState) → List RecordClose → Type 0

-- ---- one close

-- a record closed the ledger in this way, with this detail
pub record IsDetailed (s : ClosingState) (close : DetailedClose) (c : RecordClose) : Type 0 where
  pub bytes : List ℕ
  pub short : length bytes ≤ max_record_len
  pub is : IsCloseOf s bytes c
  pub closed : c.closed ≡ close_of close.prepared
  pub detail : IsDetailOf s c.closing close

abbrev pub IsGathered : FileKind → (old new : Gathers) → RecordClose → Type 0
IsGathered kind old new c = (start : ClosingState) (closes : List RecordClose) → old start closes
    → new start (closes ++ c ∷ []) × (kind.AreSmall closes → kind.AreSmall (closes ++ c ∷ []))

abbrev pub IsRefusedAfter : FileKind → (old : Gathers) → RecordClose → Type 0
IsRefusedAfter kind old c = (start : ClosingState) (closes : List RecordClose) → old start closes
    → kind.IsTooLarge closes c

-- the close was gathered after those before it; or it is too large; or memory was refused
abbrev pub IsGatheredOrNot : FileKind → (old new : Gathers) → RecordClose → Result (Unit {0}) Status → Type 0
IsGatheredOrNot kind old new c (Ok x) = IsGathered kind old new c
IsGatheredOrNot kind old new c (Err status.TooLarge) = IsRefusedAfter kind old c
IsGatheredOrNot kind old new c (Err status.NoMemory) = Unit {0}
IsGatheredOrNot kind old new c (Err other) = ⊥

-- the text of what was gathered was written
abbrev pub WroteGathered : FileKind → (now : Gathers) → (out : Seen) → (end : Status) → Type 0
WroteGathered kind now out end = (start : ClosingState) (closes : List RecordClose) → now start closes
    → (text : List ℕ) × kind.IsText start closes text × Wrote out text status.Done end

-- ---- one record

-- a record closed the ledger, which took the close after it was gathered; or it stops the run
abbrev pub Closes : FileKind → (old new : Gathers) → (s : ClosingState) → (bytes : List ℕ) → (next : ClosingState)
    → Option Stop → Type 0
Closes kind old new s bytes next None =
    (c : RecordClose) × IsCloseOf s bytes c × (next ≡ c.closed.state) × IsGathered kind old new c
Closes kind old new s bytes next (Some (stop.Refused wrong)) = (next ≡ s) × IsClose s bytes (Err wrong)
Closes kind old new s bytes next (Some (stop.Ended status.TooLarge)) =
    (c : RecordClose) × IsCloseOf s bytes c × IsRefusedAfter kind old c
Closes kind old new s bytes next (Some (stop.Ended status.NoMemory)) = Unit {0}
Closes kind old new s bytes next (Some other) = ⊥

-- the same, of the record at the start of what is ahead
pub record Passes (kind : FileKind) (old new : Gathers) (s : ClosingState) (ahead : List ℕ) (end : ℕ)
    (next : ClosingState) (result : Option Stop) : Type 0 where
  pub bytes : List ℕ
  pub framed_is : framed bytes ≡ take end ahead
  pub short : length bytes ≤ max_record_len
  pub closes : Closes kind old new s bytes next result

-- ---- one turn

-- where a run is: the state after the last ledger that closed, the offset of the input after its record, and the bytes
-- after that offset that were read
pub record RunPosition : Type 0 where
  pub state : ClosingState
  pub at : ℕ
  pub ahead : List ℕ

-- the next record closed the ledger, and the close was gathered
pub record Goes (kind : FileKind) (old new : Gathers) (p q : RunPosition) (input : Seen) : Type 0 where
  pub bytes : List ℕ
  pub short : length bytes ≤ max_record_len
  pub close : RecordClose
  pub is : IsCloseOf p.state bytes close
  pub state : q.state ≡ close.closed.state
  pub gathered : IsGathered kind old new close
  pub given : List ℕ
  pub gave : Gave input given
  pub cut : p.ahead ++ given ≡ framed bytes ++ q.ahead
  pub at : q.at ≡ p.at + length (framed bytes)
  pub later : input.faults_before ≤ input.faults_now
  pub low : p.state.header.ledger_seq ≤ last_seq

-- where no record is ahead: the input is at its end, or has a fault
abbrev pub IsUnread : (at : ℕ) (ahead : List ℕ) → PieceFault → Stop → Type 0
IsUnread at ahead (fault.Xdr wrong) why =
    (length ahead ≡ 0 → why ≡ stop.AtEnd)
    × (0 < length ahead → why ≡ stop.Ended (status.BadInput (at + wrong.at)))
IsUnread at ahead fault.Failed why = why ≡ stop.Ended status.ReadFault
IsUnread at ahead fault.NoMemory why = why ≡ stop.Ended status.NoMemory

-- what follows ends the run so, whatever the source still has
abbrev pub EndsIn : FileKind → (old : Gathers) → RunPosition → (input : Seen) → FileOutcome → Type 0
EndsIn kind old p input o = (start : ClosingState) (closes : List RecordClose) → old start closes
    → IfSome input.before (λ bytes. IsFileEnd kind start closes p.state p.at (p.ahead ++ bytes) o)

-- why a run stops at a position
abbrev pub StopsAt : FileKind → (old new : Gathers) → RunPosition → (next : ClosingState) → (input : Seen) → Stop
    → Type 0
StopsAt kind old new p next input stop.AtEnd =
    IsAtEnd input.now × ((start : ClosingState) (closes : List RecordClose) → old start closes → new start closes)
    × IfSome input.before (λ bytes. p.ahead ++ bytes ≡ [])
StopsAt kind old new p next input (stop.Refused wrong) =
    (next ≡ p.state) × EndsIn kind old p input (kind.refused p.state.header wrong)
StopsAt kind old new p next input (stop.Ended (status.BadInput at)) =
    EndsIn kind old p input (without_file (status.BadInput at))
StopsAt kind old new p next input (stop.Ended status.TooLarge) =
    EndsIn kind old p input (without_file status.TooLarge) × ((c : RecordClose) × IsRefusedAfter kind old c)
StopsAt kind old new p next input (stop.Ended status.ReadFault) = Failed input
StopsAt kind old new p next input (stop.Ended status.NoMemory) = Unit {0}
StopsAt kind old new p next input (stop.Ended other) = ⊥

-- the run goes on, or stops
abbrev pub Turned : FileKind → (old new : Gathers) → (p q : RunPosition) → (input : Seen) → Option Stop → Type 0
Turned kind old new p q input None = Goes kind old new p q input
Turned kind old new p q input (Some why) = StopsAt kind old new p q.state input why

-- ---- all records

-- the records from a position on were read and closed ledgers up to another one, and the closes were gathered
pub record Reached (kind : FileKind) (now : Gathers) (p q : RunPosition) (input : Seen) : Type 0 where
  pub records : List (List ℕ)
  pub closes : List RecordClose
  pub closed : AreClosesOf p.state records closes q.state
  pub short : All (λ bytes. length bytes ≤ max_record_len) records
  pub small : kind.AreSmall closes
  pub gathered : now p.state closes
  pub given : List ℕ
  pub gave : Gave input given
  pub cut : p.ahead ++ given ≡ frames records ++ q.ahead
  pub at : q.at ≡ p.at + length (frames records)
  pub low : q.at ≤ (q.state.header.ledger_seq + 1) * 2 ^ 64
  pub later : input.faults_before ≤ input.faults_now

-- the records from a position on have this outcome, whatever the source still had
abbrev pub RunsTo : FileKind → RunPosition → (input : Seen) → FileOutcome → Type 0
RunsTo kind p input o =
    IfSome input.before (λ bytes. IsFileRun kind p.state (record { at = p.at; rest = p.ahead ++ bytes }) o)

-- why the run over all records stopped, with the state after the last ledger that closed
abbrev pub Stopped : FileKind → (now : Gathers) → RunPosition → (s : ClosingState) → (input : Seen) → Stop → Type 0
Stopped kind now p s input stop.AtEnd =
    IsAtEnd input.now
    × ((closes : List RecordClose) × now p.state closes
    × ((text : List ℕ) → kind.IsText p.state closes text → RunsTo kind p input (with_file text)))
Stopped kind now p s input (stop.Refused wrong) = RunsTo kind p input (kind.refused s.header wrong)
Stopped kind now p s input (stop.Ended (status.BadInput at)) = RunsTo kind p input (without_file (status.BadInput at))
Stopped kind now p s input (stop.Ended status.TooLarge) =
    RunsTo kind p input (without_file status.TooLarge) × CanBeTooLarge kind
Stopped kind now p s input (stop.Ended status.ReadFault) = Failed input
Stopped kind now p s input (stop.Ended status.NoMemory) = Unit {0}
Stopped kind now p s input (stop.Ended other) = ⊥
