-- What `watch` reads of what it published, and how a run ends before the line of its end is written.
use Rattle.std.specs.Prelude.{◌≡◌, ℕ, List, [], ◌∷◌, ◌++◌, map, IfSome, Option, ◌⊎◌}
use Rattle.std.specs.FinMap.{get}
use Rattle.std.specs.Io.KnownBytes.{IsAtEnd}
use Rattle.ledger_types.specs.declared.entry.LedgerEntry.{LedgerEntry}
use Rattle.ledger_types.specs.declared.header.LedgerHeader.{LedgerHeader}
use Rattle.ledger_types.specs.declared.key.LedgerKey.{LedgerKey}
use Rattle.ledger_types.specs.declared.ids.AccountId.{AccountId}
use Rattle.ledger_readers.specs.Views.{IsAnswerOf}
use Rattle.reports.specs.Gathering.{RunPosition, Stopped}
use Rattle.reports.specs.declared.gathering.Stop.{Stop}
use Rattle.run_outcome.specs.close_rules.State.{ClosingState}
use Rattle.run_outcome.specs.close_rules.declared.close_fault.CloseFault.{CloseFault}
use Rattle.run_outcome.specs.run_streams.Seen.{Seen, Failed, Received}
use Rattle.run_outcome.specs.declared.status.Status.{Status}
use Rattle.run_outcome.specs.declared.status.Status.TheVariants as status
use Rattle.run_outcome.specs.Statuses.{IsCatchUpEnd}
use Rattle.run_outcome.specs.Lines.{refused_line}
use Rattle.run_outcome.specs.Run.{IsLineReported}
use Rattle.run_outcome.specs.Closes.{RecordClose}
use Rattle.run_outcome.specs.FileRun.{FileOutcome, IsFileAnswer, IsFilePrefix, IsFileRun, with_file}
use Rattle.run_outcome.specs.FileRun.{without_file}
use Rattle.run_outcome.specs.WatchRun.{IsLineless, reader_text, refused_on_output}

-- ---- what is published

-- a start state and the states after these closes
abbrev pub published_states : ClosingState → List RecordClose → List ClosingState
published_states start closes = start ∷ map (λ c. c.closed.state) closes

-- what was read is what a state has under a key, and its ledger's number
pub record IsReadOf (s : ClosingState) (key : LedgerKey) (seq : ℕ) (entry : Option LedgerEntry) : Type 0 where
  pub seq_is : seq ≡ s.header.ledger_seq
  pub entry_is : entry ≡ get s.entries key

-- what was read answers by the last of these states
abbrev pub IsReadOfLast : (states : List ClosingState) → LedgerKey → (number seq : ℕ) → Option LedgerEntry → Type 0
IsReadOfLast states key number seq entry =
    IsAnswerOf (λ (s : ClosingState). s.header.ledger_seq)
    (λ (s : ClosingState) (k : LedgerKey) (e : Option LedgerEntry). e ≡ get s.entries k) states key number seq entry

-- ---- the records

-- the records from a position on, of which these bytes are ahead and the others still in the source, have this outcome
abbrev pub IsWatchRun : (readers : ℕ) → AccountId → RunPosition → (bytes : List ℕ) → FileOutcome → Type 0
IsWatchRun readers id p bytes o =
    IsFileRun (reader_text readers id) p.state (record { at = p.at; rest = p.ahead ++ bytes }) o

-- why the run over all records stopped, of which these states were published
abbrev pub StopsWatch : (readers : ℕ) → AccountId → (states : List ClosingState) → RunPosition → (next : ClosingState)
    → (input : Seen) → Stop → Type 0
StopsWatch readers id states p next input why =
    Stopped (reader_text readers id) (λ start closes. states ≡ published_states start closes) p next input why

-- ---- ends

-- how a run ends before its line on standard error is written
abbrev pub EndsWatch : (IsOne : List ℕ → FileOutcome → Type 0) → (input out : Seen) → Status → Type 0
EndsWatch IsOne input out status.Done =
    IsAtEnd input.now
    × ((text : List ℕ) × Received out text × IfSome input.before (λ bytes. IsOne bytes (with_file text)))
EndsWatch IsOne input out status.Refused =
    (header : LedgerHeader) × (wrong : CloseFault) × Received out (refused_line header wrong)
    × IfSome input.before (λ bytes. IsOne bytes (refused_on_output header wrong))
EndsWatch IsOne input out status.ReadFault = Failed input × Received out []
EndsWatch IsOne input out status.WriteFault =
    Failed out × ((text : List ℕ) × Received out text
    × IfSome input.before (λ bytes. IsFilePrefix (IsOne bytes) text))
EndsWatch IsOne input out status.NoMemory = Received out []
EndsWatch IsOne input out (status.BadInput at) =
    Received out [] × IfSome input.before (λ bytes. IsOne bytes (without_file (status.BadInput at)))
EndsWatch IsOne input out (status.BadImage rule) =
    Received out [] × IfSome input.before (λ bytes. IsOne bytes (without_file (status.BadImage rule)))
EndsWatch IsOne input out other = ⊥

-- what a run of `watch` answers whose outcomes are these
pub record AnswersWatch (IsOne : List ℕ → FileOutcome → Type 0) (input out err : Seen) (end : Status) : Type 0 where
  pub answered : IfSome input.before (λ bytes. IsFileAnswer (IsOne bytes) out err end)
  pub ended : end ≡ status.Done → IsAtEnd input.now
  pub unwritten : IsLineless end → Received out []
  pub read_fault : end ≡ status.ReadFault → Failed input
  pub write_fault : end ≡ status.WriteFault → Failed out ⊎ Failed err
  pub is_end : IsCatchUpEnd end
  pub reported : IsLineReported err end
