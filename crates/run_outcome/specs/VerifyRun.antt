-- What `verify` answers to an input: whether the files of a history form a chain.
use Rattle.std.specs.Prelude.{◌≡◌, ◌≢◌, ℕ, List, [], ◌∷◌, ◌++◌, codes, IfSome, Result, Ok, Err, ◌⊎◌}
use Rattle.std.specs.Fmt.{decimal}
use Rattle.std.specs.Io.KnownBytes.{IsAtEnd}
use Rattle.close_rules.specs.xdr_core.declared.fault.XdrFault.{XdrFault}
use Rattle.close_rules.specs.xdr_core.Position.{Reading, start_of}
use Rattle.archive_files.specs.declared.history.Verified.{Verified}
use Rattle.archive_files.specs.declared.history.HistoryFault.{HistoryFault}
use Rattle.archive_files.specs.declared.history.HistoryFault.TheVariants as fault
use Rattle.archive_files.specs.declared.form.StatedHistory.{StatedHistory}
use Rattle.archive_files.specs.Chain.{IsJudged}
use Rattle.archive_files.specs.Form.{stated_history}
use Rattle.run_streams.specs.Seen.{Seen, Failed, Received}
use Rattle.run_outcome.specs.declared.status.Status.{Status}
use Rattle.run_outcome.specs.declared.status.Status.TheVariants as status
use Rattle.run_outcome.specs.Statuses.{ended_line}
use Rattle.run_outcome.specs.Lines.{spaced, hash_text, kind_name}
use Rattle.run_outcome.specs.Outcome.{Outcome, silent, IsPrefix}
use Rattle.run_outcome.specs.Run.{Answered, IsLineReported}

-- ---- lines

-- `verified <ledgers> <hash of the last header>`
unfoldable pub verified_line : Verified → List ℕ
verified_line v = ended_line (codes "verified" ++ spaced (decimal v.closes) ++ spaced (hash_text v.last))

-- the name of a fault and its values, each after a space (memory is no fault of a history)
unfoldable pub history_fault_text : HistoryFault → List ℕ
history_fault_text (fault.Xdr file at kind) =
    codes "Xdr" ++ spaced (decimal file) ++ spaced (decimal at) ++ spaced (kind_name kind)
history_fault_text (fault.Stray file at) = codes "Stray" ++ spaced (decimal file) ++ spaced (decimal at)
history_fault_text (fault.Seq at want given) =
    codes "Seq" ++ spaced (decimal at) ++ spaced (decimal want) ++ spaced (decimal given)
history_fault_text (fault.HeaderHash at) = codes "HeaderHash" ++ spaced (decimal at)
history_fault_text (fault.Link at) = codes "Link" ++ spaced (decimal at)
history_fault_text (fault.SetHash at) = codes "SetHash" ++ spaced (decimal at)
history_fault_text (fault.ResultHash at) = codes "ResultHash" ++ spaced (decimal at)
history_fault_text fault.NoMemory = []

-- `refused <fault> <its values>`
unfoldable pub unverified_line : HistoryFault → List ℕ
unverified_line wrong = ended_line (codes "refused" ++ spaced (history_fault_text wrong))

-- ---- outcomes

abbrev pub verdict_outcome : Result Verified HistoryFault → Outcome
verdict_outcome (Ok v) = record { status = status.Done; text = verified_line v }
verdict_outcome (Err wrong) = record { status = status.Refused; text = unverified_line wrong }

-- a history that is the entire input is judged, and bytes after it are a fault of the input
abbrev pub IsVerdictAt : StatedHistory → (at : ℕ) → (rest : List ℕ) → Outcome → Type 0
IsVerdictAt h at (byte ∷ rest) o = o ≡ silent (status.BadInput at)
IsVerdictAt h at [] o =
    (judged : Result Verified HistoryFault) × IsJudged h.history h.before h.first judged
    × (judged ≢ Err fault.NoMemory) × (o ≡ verdict_outcome judged)

-- a history that was read from the start of the input, or not
abbrev pub IsVerdictOf : Reading XdrFault StatedHistory → Outcome → Type 0
IsVerdictOf (Err wrong) o = o ≡ silent (status.BadInput wrong.at)
IsVerdictOf (Ok x) o = IsVerdictAt x.0 x.1.at x.1.rest o

abbrev pub IsVerdict : (input : List ℕ) → Outcome → Type 0
IsVerdict input o = IsVerdictOf (stated_history.read (start_of input)) o

-- nothing, or a prefix of the line
abbrev pub IsVerdictPrefix : (input prefix : List ℕ) → Type 0
IsVerdictPrefix input prefix = (prefix ≡ []) ⊎ ((o : Outcome) × IsVerdict input o × IsPrefix prefix o.text)

-- ---- what is left of a run

abbrev pub IsVerifyEnd : Status → Type 0
IsVerifyEnd status.Done = Unit {0}
IsVerifyEnd status.Refused = Unit {0}
IsVerifyEnd status.ReadFault = Unit {0}
IsVerifyEnd status.WriteFault = Unit {0}
IsVerifyEnd status.NoMemory = Unit {0}
IsVerifyEnd (status.BadInput at) = Unit {0}
IsVerifyEnd other = ⊥

-- the ends at which nothing is written
abbrev pub IsVerdictless : Status → Type 0
IsVerdictless status.ReadFault = Unit {0}
IsVerdictless (status.BadInput at) = Unit {0}
IsVerdictless other = ⊥

-- `verify`, over these streams, with this end and its line on standard error
pub record DidVerify (input out err : Seen) (end : Status) : Type 0 where
  pub answered : IfSome input.before (λ bytes. Answered (IsVerdict bytes) (IsVerdictPrefix bytes) out end)
  pub ended : end ≡ status.Done → IsAtEnd input.now
  pub unwritten : IsVerdictless end → Received out []
  pub read_fault : end ≡ status.ReadFault → Failed input
  pub write_fault : end ≡ status.WriteFault → Failed out ⊎ Failed err
  pub is_end : IsVerifyEnd end
  pub reported : IsLineReported err end
