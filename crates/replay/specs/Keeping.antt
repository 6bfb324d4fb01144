-- What a run leaves of the volume upon which it keeps its records.
use Rattle.std.specs.Prelude.{◌≡◌, ℕ, ◌≤◌, List, [], ◌++◌, length, take, drop, Option, Some, None, IsNone}
use Rattle.std.specs.Prelude.{Result, Ok, Err, ◌⊎◌}
use Rattle.outside.specs.Streams.{Rose}
use Rattle.stored_outcome.specs.run_streams.Seen.{Seen, Gave, Received}
use Rattle.stored_outcome.specs.close_rules.declared.close_fault.CloseFault.{CloseFault}
use Rattle.stored_outcome.specs.close_rules.State.{ClosingState}
use Rattle.stored_outcome.specs.close_rules.Close.{PreparedClose, IsClose}
use Rattle.stored_outcome.specs.run_outcome.declared.status.Status.{Status}
use Rattle.stored_outcome.specs.run_outcome.declared.status.Status.TheVariants as status
use Rattle.xdr_core.specs.Format.{IsBytes}
use Rattle.xdr_core.specs.Position.{Position}
use Rattle.stored_outcome.specs.run_outcome.Lines.{refused_line}
use Rattle.stored_outcome.specs.run_outcome.Outcome.{framed, max_record_len, lines_of, IsPrefix, IsRun, AreComplete}
use Rattle.stored_outcome.specs.run_outcome.Outcome.{IsRunPrefix}
use Rattle.stored_outcome.specs.run_outcome.Run.{IsAnswer}
use Rattle.outside.specs.Disk.{Image, Disk, Runs, Same, IsSafe}
use Rattle.stored_outcome.specs.run_streams.SeenVolume.{SeenVolume}
use Rattle.stored_outcome.specs.Opening.{OpensTo}
use Rattle.stored_outcome.specs.After.{OpensWithin, AreAcknowledged}
use Rattle.stored_outcome.specs.StoredRun.{IsFailedEnd, IsUnbrokenEnd, OpensAcknowledged}
use Rattle.replay.specs.Following.{Followed, RunPosition, WroteClose, Closes, Passes, Turned}
use Rattle.replay.specs.declared.keeper.KeepFault.{KeepFault}
use Rattle.replay.specs.declared.keeper.KeepFault.TheVariants as fault

-- what is kept yields this state, and so does whatever a crash leaves
pub record Ready (keeps : Type 0) (disk : Disk) (s : ClosingState) : Type 0 where
  pub kept : keeps
  pub safe : IsSafe disk
  pub opens : OpensTo disk.reads s

-- a run can go on from a state: what keeps its records works, and where it stores them the volume yields that state
pub record IsGoing (stores working reports : Type 0) (keeps : Disk → ClosingState → Type 0) (disk : Disk)
    (s : ClosingState) : Type 0 where
  pub works : working
  pub ready : stores → reports → Ready (keeps disk s) disk s

-- what opens to a state opens to it or to the next one
abbrev pub OpensEither : (s next : ClosingState) → Image → Image → Type 0
OpensEither s next d c = OpensTo d s → OpensTo c s ⊎ OpensTo c next

-- what opens to a state opens to one after records at the start of a text
abbrev pub OpensOnward : ClosingState → (text : List ℕ) → Image → Image → Type 0
OpensOnward s text d c = OpensTo d s → OpensWithin s text c

-- where the volume didn't fail
abbrev pub UnlessDisk : Result (Unit {0}) KeepFault → Type 0 → Type 0
UnlessDisk (Ok done) P = P
UnlessDisk (Err fault.NoMemory) P = P
UnlessDisk (Err fault.DiskFault) P = Unit {0}

-- records are kept, and the count of the volume's faults rose
abbrev pub DiskFailed : (stores : Type 0) → (before now : ℕ) → Type 0
DiskFailed stores before now = stores × Rose before now

abbrev pub IsCaused : (stores : Type 0) → (before now : ℕ) → Result (Unit {0}) KeepFault → Type 0
IsCaused stores before now (Ok done) = Unit {0}
IsCaused stores before now (Err fault.NoMemory) = Unit {0}
IsCaused stores before now (Err fault.DiskFault) = DiskFailed stores before now

-- ---- the rest of a run

-- from a state to which all opens that a crash may leave, with what the output received
pub record Keeps (s : ClosingState) (text prefix : List ℕ) (old new : Disk) (end : Status) : Type 0 where
  pub runs : Runs (OpensOnward s text) old new
  pub count : ℕ
  pub acknowledged : AreAcknowledged s text prefix count
  pub unbroken : IsUnbrokenEnd end → prefix ≡ acknowledged.lines
  pub crash : (c : Image) → new.may_leave c → OpensAcknowledged s text count end c

-- the end and the text of the records at an offset, and where a read failed the lines of every complete one
pub record Answers (s : ClosingState) (p : Position) (text : List ℕ) (end : Status) : Type 0 where
  pub answer : IsAnswer (IsRun s p) (IsRunPrefix s p) text end
  pub entire : end ≡ status.ReadFault → AreComplete s p text

-- the same, of the records ahead and in the source
pub record KeptOn (s : ClosingState) (at : ℕ) (ahead : List ℕ) (input out : Seen) (old new : Disk) (end : Status)
    : Type 0 where
  pub given : List ℕ
  pub gave : Gave input given
  pub prefix : List ℕ
  pub received : Received out prefix
  pub answers : Answers s (record { at = at; rest = ahead ++ given }) prefix end
  pub keeps : Keeps s (ahead ++ given) prefix old new end

-- what closing the records ahead and in the source leaves, whatever the volume reports
pub record DidFollow (stores : Type 0) (s : ClosingState) (at : ℕ) (ahead : List ℕ) (input out : Seen)
    (vol : SeenVolume) (end : Status) : Type 0 where
  pub followed : Followed s at ahead input out (DiskFailed stores vol.faults_before vol.faults_now) end
  pub vol_later : vol.faults_before ≤ vol.faults_now
  pub kept : stores → vol.reports → KeptOn s at ahead input out vol.before vol.now end

-- ---- one record

-- a text was written entirely, or a prefix of it where the sink failed, or nothing where memory was refused
abbrev pub IsWritten : (text : List ℕ) → (entire : Status) → (prefix : List ℕ) → (end : Status) → Type 0
IsWritten text entire prefix end =
    ((end ≡ entire) × (prefix ≡ text))
    ⊎ ((end ≡ status.WriteFault) × IsPrefix prefix text)
    ⊎ ((end ≡ status.NoMemory) × (prefix ≡ []))

-- how much of its lines was written where a record that closes the ledger ends the run: all, or less where a device
-- failed
abbrev pub IsWrittenSoFar : (text prefix : List ℕ) → (end : Status) → Type 0
IsWrittenSoFar text prefix end =
    (end ≡ status.WriteFault) ⊎ ((end ≡ status.DiskFault) × (prefix ≡ [])) ⊎ (prefix ≡ text)

-- the record isn't kept: memory was refused for it, or it was refused
pub record IsUnkept (s : ClosingState) (bytes : List ℕ) (out : Seen) (old new : Disk) (end : Status) : Type 0 where
  pub prefix : List ℕ
  pub received : Received out prefix
  pub nothing : ((end ≡ status.NoMemory) × (prefix ≡ []))
      ⊎ ((wrong : CloseFault) × IsClose s bytes (Err wrong)
      × IsWritten (refused_line s.header wrong) status.Refused prefix end)
  pub runs : Runs Same old new
  pub same : new.reads ≡ old.reads

-- the record closes the ledger, and it may be kept
pub record IsHalfway (s : ClosingState) (bytes : List ℕ) (out : Seen) (old new : Disk) (end : Status) : Type 0 where
  pub closed : PreparedClose
  pub closes : IsClose s bytes (Ok closed)
  pub failed : IsFailedEnd end
  pub prefix : List ℕ
  pub received : Received out prefix
  pub some : IsPrefix prefix (lines_of closed)
  pub runs : Runs (OpensEither s closed.state) old new
  pub crash : (c : Image) → new.may_leave c → OpensTo c s ⊎ OpensTo c closed.state
  -- all lines were written
  pub entire : prefix ≡ lines_of closed → (c : Image) → new.may_leave c → OpensTo c closed.state
  pub reported : IsWrittenSoFar (lines_of closed) prefix end

-- the record is kept, and its lines were written
pub record IsKept (s : ClosingState) (bytes : List ℕ) (next : ClosingState) (old new : Disk) : Type 0 where
  pub closed : PreparedClose
  pub closes : IsClose s bytes (Ok closed)
  pub state : next ≡ closed.state
  pub runs : Runs (OpensEither s closed.state) old new

abbrev pub KeptClose : (s : ClosingState) (bytes : List ℕ) (next : ClosingState) (out : Seen) (old new : Disk)
    → Option Status → Type 0
KeptClose s bytes next out old new None = IsKept s bytes next old new
KeptClose s bytes next out old new (Some end) = IsUnkept s bytes out old new end ⊎ IsHalfway s bytes out old new end

-- what the record at the start of what is ahead yielded
pub record KeptPass (s : ClosingState) (ahead : List ℕ) (end : ℕ) (next : ClosingState) (out : Seen) (old new : Disk)
    (result : Option Status) : Type 0 where
  pub bytes : List ℕ
  pub framed_is : framed bytes ≡ take end ahead
  pub short : length bytes ≤ max_record_len
  pub kept : KeptClose s bytes next out old new result

-- the run goes on from the next state, or this is its end
abbrev pub KeptTurn : (s next : ClosingState) (at : ℕ) (ahead : List ℕ) (input out : Seen) (old new : Disk)
    → Option Status → Type 0
KeptTurn s next at ahead input out old new None = Runs (OpensEither s next) old new
KeptTurn s next at ahead input out old new (Some end) = KeptOn s at ahead input out old new end

-- ---- the lines of a close, and what is due after them

-- some of the lines were written, and what is kept opens as before
pub record IsWriting (s : ClosingState) (text : List ℕ) (out : Seen) (old new : Disk) (end : Status) : Type 0 where
  pub failed : IsFailedEnd end
  pub prefix : List ℕ
  pub received : Received out prefix
  pub some : IsPrefix prefix text
  pub runs : Runs (OpensEither s s) old new
  pub crash : (c : Image) → new.may_leave c → OpensTo c s
  pub reported : IsWrittenSoFar text prefix end

abbrev pub KeptWriting : (s : ClosingState) (text : List ℕ) (out : Seen) (old new : Disk) → Option Status → Type 0
KeptWriting s text out old new None = Runs (OpensEither s s) old new
KeptWriting s text out old new (Some end) = IsWriting s text out old new end

-- ---- what the steps of a run come to, whatever the volume reports

-- a step wrote, and called the volume; no fault was forgotten, and the run goes on unless this is its end
pub record DidStep (out : Seen) (vol : SeenVolume) (goes : Type 0) (end : Option Status) : Type 0 where
  pub later : out.faults_before ≤ out.faults_now
  pub vol_later : vol.faults_before ≤ vol.faults_now
  pub going : IsNone end → goes

-- the lines of a close were written, and what is due after them was done, or that ends the run
pub record DidWrite (stores : Type 0) (s : ClosingState) (text : List ℕ) (out : Seen) (vol : SeenVolume)
    (goes : Type 0) (end : Option Status) : Type 0 where
  pub step : DidStep out vol goes end
  pub reported : WroteClose text out (DiskFailed stores vol.faults_before vol.faults_now) end
  pub kept : stores → vol.reports → KeptWriting s text out vol.before vol.now end

-- a record closed the ledger, or ended the run
pub record DidClose (stores : Type 0) (s : ClosingState) (bytes : List ℕ) (next : ClosingState) (out : Seen)
    (vol : SeenVolume) (goes : Type 0) (end : Option Status) : Type 0 where
  pub step : DidStep out vol goes end
  pub closes : Closes s bytes next out (DiskFailed stores vol.faults_before vol.faults_now) end
  pub kept : stores → vol.reports → KeptClose s bytes next out vol.before vol.now end

-- the record at the start of what is ahead closed the ledger and was taken away, or ended the run
pub record DidPass (stores : Type 0) (s : ClosingState) (ahead : List ℕ) (size : ℕ) (next : ClosingState)
    (left : List ℕ) (out : Seen) (vol : SeenVolume) (goes : Type 0) (end : Option Status) : Type 0 where
  pub step : DidStep out vol goes end
  pub passes : Passes s ahead size next out (DiskFailed stores vol.faults_before vol.faults_now) end
  pub fits : IsBytes ahead
  pub rest : IsNone end → left ≡ drop size ahead
  pub kept : stores → vol.reports → KeptPass s ahead size next out vol.before vol.now end

-- the next record closed the ledger, or ended the run
pub record DidTurn (stores : Type 0) (old new : RunPosition) (input out : Seen) (vol : SeenVolume) (goes : Type 0)
    (end : Option Status) : Type 0 where
  pub turned : Turned old new input out (DiskFailed stores vol.faults_before vol.faults_now) end
  pub vol_later : vol.faults_before ≤ vol.faults_now
  pub going : IsNone end → goes
  pub kept : stores → vol.reports
      → KeptTurn old.state new.state old.at old.ahead input out vol.before vol.now end
