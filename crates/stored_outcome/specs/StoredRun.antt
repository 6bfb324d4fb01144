-- What `run` leaves, over what was seen of its streams and its volume before and after.
use Rattle.std.specs.Prelude.{◌≡◌, ℕ, ◌+◌, ◌≤◌, List, ◌⊎◌, IfSome}
use Rattle.std.specs.Io.KnownBytes.{IsAtEnd}
use Rattle.sample_ledger.specs.xdr_core.Position.{start_of}
use Rattle.run_outcome.specs.run_streams.Seen.{Seen, Failed, IsUntouched, Gave, Received}
use Rattle.run_outcome.specs.close_rules.State.{ClosingState}
use Rattle.run_outcome.specs.declared.status.Status.{Status}
use Rattle.run_outcome.specs.declared.status.Status.TheVariants as status
use Rattle.run_outcome.specs.Statuses.{IsRecordsEnd}
use Rattle.run_outcome.specs.Outcome.{IsRun, AreComplete, IsRunPrefix}
use Rattle.run_outcome.specs.Run.{IsAnswer, Answered, IsLineReported}
use Rattle.image_store.specs.outside.Disk.{Image, Runs, Same}
use Rattle.run_outcome.specs.run_streams.SeenVolume.{SeenVolume, VolumeFailed, MightLeave}
use Rattle.image_store.specs.Opening.{HoldsNothing}
use Rattle.stored_outcome.specs.Opening.{OpensTo, IsBadStore, IsSound}
use Rattle.stored_outcome.specs.After.{OpensAfter, OpensWithin, AreAcknowledged}

-- ---- the text

-- the end and the text are those of the records after a state, or are cut short
abbrev pub IsAnswerAfter : ClosingState → (bytes text : List ℕ) → (end : Status) → Type 0
IsAnswerAfter s bytes text end = IsAnswer (IsRun s (start_of bytes)) (IsRunPrefix s (start_of bytes)) text end

-- the same, of the text that the output received
abbrev pub AnsweredAfter : ClosingState → (bytes : List ℕ) → (out : Seen) → (end : Status) → Type 0
AnsweredAfter s bytes out end = Answered (IsRun s (start_of bytes)) (IsRunPrefix s (start_of bytes)) out end

-- ---- the volume

-- What a crash leaves is what one might have left before the run, or it opens to the state after records that were
-- given.
abbrev pub OpensInRun : ClosingState → (given : List ℕ) → SeenVolume → Image → Type 0
OpensInRun s given vol c = vol.before.may_leave c ⊎ OpensWithin s given c

-- the ends at which one more record may be kept than were acknowledged: a device failed in its append or after it
abbrev pub MayBeAhead : Status → Type 0
MayBeAhead status.WriteFault = Unit {0}
MayBeAhead status.DiskFault = Unit {0}
MayBeAhead other = ⊥

-- the ends at which a write, the volume or memory failed, perhaps before the store was opened
abbrev pub IsFailedEnd : Status → Type 0
IsFailedEnd status.WriteFault = Unit {0}
IsFailedEnd status.DiskFault = Unit {0}
IsFailedEnd status.NoMemory = Unit {0}
IsFailedEnd other = ⊥

-- the ends at which nothing follows the last complete `closed` line: no last line, and no write that failed
abbrev pub IsUnbrokenEnd : Status → Type 0
IsUnbrokenEnd status.Done = ⊥
IsUnbrokenEnd status.Refused = ⊥
IsUnbrokenEnd status.WriteFault = ⊥
IsUnbrokenEnd other = Unit {0}

-- a content opens to the state after the last ledger that was acknowledged, or, where a device failed, after one more
abbrev pub OpensAcknowledged : ClosingState → (given : List ℕ) → (acknowledged : ℕ) → Status → Image → Type 0
OpensAcknowledged s given n end c = OpensAfter s given n c ⊎ (MayBeAhead end × OpensAfter s given (n + 1) c)

-- The same; or none was acknowledged, something failed, and a crash might have left this before the run.
abbrev pub MayLeaveNow : ClosingState → (given : List ℕ) → (acknowledged : ℕ) → SeenVolume → Status → Image → Type 0
MayLeaveNow s given n vol end c =
    OpensAcknowledged s given n end c ⊎ ((n ≡ 0) × IsFailedEnd end × vol.before.may_leave c)

-- what is read after a run; where the volume failed before a ledger was acknowledged, it may be what a crash might
-- have left before
abbrev pub MayRead : ClosingState → (given : List ℕ) → (acknowledged : ℕ) → SeenVolume → Status → Image → Type 0
MayRead s given n vol end c =
    OpensAcknowledged s given n end c ⊎ ((n ≡ 0) × MayBeAhead end × VolumeFailed vol × vol.before.may_leave c)

-- what a run leaves that was given these bytes and printed this text, from a state to which what is read opened
pub record Survived (s : ClosingState) (given text : List ℕ) (vol : SeenVolume) (end : Status) : Type 0 where
  -- at every moment
  pub moments : (c : Image) → MightLeave vol c → OpensInRun s given vol c
  pub later : vol.before.moment ≤ vol.now.moment
  -- acknowledged
  pub count : ℕ
  pub acknowledged : AreAcknowledged s given text count
  pub unbroken : IsUnbrokenEnd end → text ≡ acknowledged.lines
  pub crash : (c : Image) → vol.now.may_leave c → MayLeaveNow s given count vol end c
  pub reads : MayRead s given count vol end vol.now.reads
  -- reopening
  pub sound : IsSound vol.before → IsSound vol.now

-- ---- runs

-- from a state to which what was read opened
pub record RanFrom (s : ClosingState) (input out : Seen) (vol : SeenVolume) (end : Status) : Type 0 where
  pub answered : IfSome input.before (λ bytes. AnsweredAfter s bytes out end)
  pub is_end : IsRecordsEnd end
  -- The same of what the source gave, where that is known, and of one text that the output received. A cut at the end
  -- of what was given need not be one of the entire input.
  pub given : List ℕ
  pub gave : Gave input given
  pub text : List ℕ
  pub received : Received out text
  pub answer : IsAnswerAfter s given text end
  -- where a read failed, it has the lines of every complete record that was given
  pub entire : end ≡ status.ReadFault → AreComplete s (start_of given) text
  pub survived : Survived s given text vol end

-- nothing was read or written, and the volume stays
pub record DidNotRun (input out : Seen) (vol : SeenVolume) : Type 0 where
  pub unread : IsUntouched input
  pub unwritten : IsUntouched out
  pub runs : Runs Same vol.before vol.now
  pub reads : vol.reports → VolumeFailed vol ⊎ (vol.now.reads ≡ vol.before.reads)

-- on a volume that doesn't open
abbrev pub DidNotOpen : (cause : Status) (input out err : Seen) (vol : SeenVolume) (end : Status) → Type 0
DidNotOpen cause input out err vol end =
    DidNotRun input out vol
    × ((end ≡ cause) ⊎ ((end ≡ status.DiskFault) × VolumeFailed vol)
    ⊎ ((end ≡ status.WriteFault) × Failed err) ⊎ (end ≡ status.NoMemory))

-- the ends of `run` on a volume that opens, but for those at which a device or memory may have failed before
abbrev pub IsOpenedEnd : Status → Type 0
IsOpenedEnd status.Done = Unit {0}
IsOpenedEnd status.Refused = Unit {0}
IsOpenedEnd status.ReadFault = Unit {0}
IsOpenedEnd (status.BadInput at) = Unit {0}
IsOpenedEnd other = ⊥

-- its ends on a volume that doesn't open alone
abbrev pub IsUnopenedEnd : Status → Type 0
IsUnopenedEnd status.Missing = Unit {0}
IsUnopenedEnd (status.BadStore file offset) = Unit {0}
IsUnopenedEnd other = ⊥

-- all its ends
abbrev pub IsRunEnd : Status → Type 0
IsRunEnd end = IsRecordsEnd end ⊎ IsUnopenedEnd end

-- `run`, over these streams and this volume, with this end and its line on standard error
pub record DidRun (input out err : Seen) (vol : SeenVolume) (end : Status) : Type 0 where
  pub opened : vol.reports → (s : ClosingState) → OpensTo vol.before.reads s → RanFrom s input out vol end
  pub missing : vol.reports → HoldsNothing vol.before.reads → DidNotOpen status.Missing input out err vol end
  pub bad_store : vol.reports → (file offset : ℕ) → IsBadStore vol.before.reads file offset
      → DidNotOpen (status.BadStore file offset) input out err vol end
  -- these ends come there alone
  pub only_opened : vol.reports → IsOpenedEnd end → (s : ClosingState) × OpensTo vol.before.reads s
  pub only_missing : vol.reports → end ≡ status.Missing → HoldsNothing vol.before.reads
  pub only_bad : vol.reports → (file offset : ℕ) → end ≡ status.BadStore file offset
      → IsBadStore vol.before.reads file offset
  -- whatever the volume reports: nothing was read or written, or what was is the answer to a state
  pub unopened : IsUnopenedEnd end → DidNotRun input out vol
  pub ran : DidNotRun input out vol
      ⊎ ((s : ClosingState) × IfSome input.before (λ bytes. AnsweredAfter s bytes out end))
  pub ended : end ≡ status.Done → IsAtEnd input.now
  -- a fault of a device is answered only where its count rose
  pub read_fault : end ≡ status.ReadFault → Failed input
  pub write_fault : end ≡ status.WriteFault → Failed out ⊎ Failed err
  pub disk_fault : end ≡ status.DiskFault → VolumeFailed vol
  pub is_end : IsRunEnd end
  pub reported : IsLineReported err end
