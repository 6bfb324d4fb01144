-- What the parts of `verify` yield.
use Rattle.std.specs.Prelude.{◌≡◌, ◌≢◌, ◌≤◌, ℕ, List, [], IfSome, ◌⊎◌, Result, Ok, Err}
use Rattle.std.specs.Io.KnownBytes.{IsAtEnd}
use Rattle.run_outcome.specs.run_streams.Seen.{Seen, Failed, Gave, Received}
use Rattle.run_outcome.specs.declared.status.Status.{Status}
use Rattle.run_outcome.specs.declared.status.Status.TheVariants as status
use Rattle.run_outcome.specs.Outcome.{silent}
use Rattle.run_outcome.specs.VerifyRun.{IsVerdict, unverified_line, verdict_outcome}
use Rattle.record_stream.specs.Measured.{measured}
use Rattle.xdr_core.specs.declared.fault.XdrFault.{XdrFault}
use Rattle.xdr_core.specs.Position.{start_of}
use Rattle.archive_files.specs.declared.form.StatedHistory.{StatedHistory}
use Rattle.archive_files.specs.declared.history.Verified.{Verified}
use Rattle.archive_files.specs.declared.history.HistoryFault.{HistoryFault}
use Rattle.archive_files.specs.declared.history.HistoryFault.TheVariants as fault
use Rattle.archive_files.specs.Chain.{IsJudged, IsVerified}
use Rattle.archive_files.specs.Form.{stated_history}
use Rattle.reports.specs.Ends.{Wrote}

-- where the history at the start of a text ends
abbrev pub history_end : List ℕ → Result ℕ XdrFault
history_end text = measured stated_history text

-- why no history was read that is the entire input
abbrev pub IsUnread : Seen → (end : Status) → Type 0
IsUnread input (status.BadInput at) = IfSome input.before (λ bytes. IsVerdict bytes (silent (status.BadInput at)))
IsUnread input status.ReadFault = Failed input
IsUnread input status.NoMemory = Unit {0}
IsUnread input other = ⊥

-- a history ends at this offset of what the source gave
pub record IsPrefix (at : ℕ) (ahead : List ℕ) (input : Seen) : Type 0 where
  pub gave : Gave input ahead
  pub ends : history_end ahead ≡ Ok at
  pub later : input.faults_before ≤ input.faults_now

-- a text is a history, and no more
abbrev pub IsText : StatedHistory → List ℕ → Type 0
IsText h text = (end : ℕ) × (stated_history.read (start_of text) ≡ Ok (h, record { at = end; rest = [] }))

-- the source gave a text that is one, and ended
pub record IsEntire (text : List ℕ) (input : Seen) : Type 0 where
  pub gave : Gave input text
  pub ended : IsAtEnd input.now
  pub history : StatedHistory
  pub is : IsText history text
  pub within : stated_history.within history

-- the entire input is this history
pub record IsInput (h : StatedHistory) (input : Seen) : Type 0 where
  pub text : List ℕ
  pub gave : Gave input text
  pub ended : IsAtEnd input.now
  pub is : IsText h text
  pub within : stated_history.within h

-- the line of a fault was written, or memory was refused
abbrev pub WroteFault : HistoryFault → (out : Seen) → (end : Status) → Type 0
WroteFault wrong out end =
    ((wrong ≢ fault.NoMemory) × Wrote out (unverified_line wrong) status.Refused end)
    ⊎ ((end ≡ status.NoMemory) × Received out [])

-- a history was judged, and its line was written
pub record WroteVerdict (h : StatedHistory) (out : Seen) (end : Status) : Type 0 where
  pub judged : Result Verified HistoryFault
  pub is : IsJudged h.history h.before h.first judged
  pub not_memory : judged ≢ Err fault.NoMemory
  pub wrote : Wrote out (verdict_outcome judged).text (verdict_outcome judged).status end

-- or memory was refused before
abbrev pub Judges : StatedHistory → (out : Seen) → (end : Status) → Type 0
Judges h out end = WroteVerdict h out end ⊎ ((end ≡ status.NoMemory) × Received out [])

-- a text is a history whose files are a chain, of so many ledgers with this last hash
pub record IsChain (text : List ℕ) : Type 0 where
  pub history : StatedHistory
  pub is : IsText history text
  pub verified : Verified
  pub holds : IsVerified history.history history.before history.first verified
