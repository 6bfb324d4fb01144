-- What a run answers that writes a file of the closes of its records: a status, text on standard output, which is
-- written at the end of the input alone, and a line on standard error.
use Rattle.std.specs.Prelude.{◌≡◌, ℕ, ◌+◌, ◌≤◌, List, [], ◌∷◌, ◌++◌, length, All, IfSome, Result, Ok, Err, ◌⊎◌}
use Rattle.std.specs.Io.KnownBytes.{IsAtEnd}
use Rattle.close_rules.specs.ledger_types.declared.ids.Hash.{Hash}
use Rattle.close_rules.specs.ledger_types.declared.header.LedgerHeader.{LedgerHeader}
use Rattle.close_rules.specs.xdr_core.declared.fault.XdrFault.{XdrFault}
use Rattle.close_rules.specs.xdr_core.Position.{Position, Reading, start_of}
use Rattle.close_rules.specs.xdr_core.Leaves.{mark}
use Rattle.close_rules.specs.xdr_header.declared.image.StartImage.{StartImage}
use Rattle.close_rules.specs.xdr_header.Image.{start_image}
use Rattle.close_rules.specs.hash_ids.Ids.{network_id_of}
use Rattle.close_rules.specs.declared.close_fault.CloseFault.{CloseFault}
use Rattle.close_rules.specs.declared.image_fault.ImageFault.{ImageFault}
use Rattle.close_rules.specs.declared.image_fault.ImageFault.TheVariants as image
use Rattle.close_rules.specs.State.{ClosingState}
use Rattle.close_rules.specs.Close.{IsClose}
use Rattle.close_rules.specs.Images.{IsJudged}
use Rattle.run_streams.specs.Seen.{Seen, Failed, Received}
use Rattle.run_outcome.specs.declared.status.Status.{Status}
use Rattle.run_outcome.specs.declared.status.Status.TheVariants as status
use Rattle.run_outcome.specs.Statuses.{status_line}
use Rattle.run_outcome.specs.Lines.{refused_line}
use Rattle.run_outcome.specs.Outcome.{max_record_len, framed, frames, IsPrefix}
use Rattle.run_outcome.specs.Run.{IsLineReported}
use Rattle.run_outcome.specs.Closes.{RecordClose, IsCloseOf, AreClosesOf}

-- ---- outcomes

pub record FileOutcome : Type 0 where
  pub status : Status
  -- on standard output
  pub text : List ℕ
  -- on standard error
  pub line : List ℕ

-- nothing is written but the line of the end
abbrev pub without_file : Status → FileOutcome
without_file end = record { status = end; text = []; line = status_line end }

-- the line of a record that is refused stands on standard error
abbrev pub refused_with : LedgerHeader → CloseFault → FileOutcome
refused_with header wrong = record { status = status.Refused; text = []; line = refused_line header wrong }

abbrev pub with_file : List ℕ → FileOutcome
with_file text = record { status = status.Done; text = text; line = [] }

-- ---- files

-- what is written of closes, and of a record that is refused after a ledger with this header
pub record FileKind : Type 1 where
  -- the text of closes after a state
  pub IsText : ClosingState → List RecordClose → List ℕ → Type 0
  -- closes of which none was too large for those before it
  pub AreSmall : List RecordClose → Type 0
  -- after these closes one more is too large
  pub IsTooLarge : List RecordClose → RecordClose → Type 0
  pub refused : LedgerHeader → CloseFault → FileOutcome

-- ---- the end of a run

-- a mark that doesn't read, a record that is refused, or a close that is too large
abbrev pub IsFileStop : FileKind → List RecordClose → ClosingState → Reading XdrFault (List ℕ) → FileOutcome → Type 0
IsFileStop kind closes s (Err wrong) o = o ≡ without_file (status.BadInput wrong.at)
IsFileStop kind closes s (Ok x) o =
    ((wrong : CloseFault) × IsClose s x.0 (Err wrong) × (o ≡ kind.refused s.header wrong))
    ⊎ ((c : RecordClose) × IsCloseOf s x.0 c × kind.IsTooLarge closes c × (o ≡ without_file status.TooLarge))

-- what follows the last ledger that closed, at an offset of the input
abbrev pub IsFileEnd : FileKind → (start : ClosingState) → List RecordClose → (s : ClosingState) → (at : ℕ)
    → (rest : List ℕ) → FileOutcome → Type 0
IsFileEnd kind start closes s at [] o = (text : List ℕ) × kind.IsText start closes text × (o ≡ with_file text)
IsFileEnd kind start closes s at (byte ∷ rest) o =
    IsFileStop kind closes s ((mark max_record_len).read (record { at = at; rest = byte ∷ rest })) o

-- ---- entire runs

-- the records that close ledgers, and what stops them
pub record IsFileRun (kind : FileKind) (s : ClosingState) (p : Position) (o : FileOutcome) : Type 0 where
  pub records : List (List ℕ)
  pub rest : List ℕ
  pub cut : p.rest ≡ frames records ++ rest
  pub short : All (λ bytes. length bytes ≤ max_record_len) records
  pub closes : List RecordClose
  pub state : ClosingState
  pub closed : AreClosesOf s records closes state
  pub small : kind.AreSmall closes
  pub ends : IsFileEnd kind s closes state (p.at + length (frames records)) rest o

-- what an image gives, once it is judged
abbrev pub IsFileStarted : FileKind → Result ClosingState ImageFault → Position → FileOutcome → Type 0
IsFileStarted kind (Ok s) p o = IsFileRun kind s p o
IsFileStarted kind (Err (image.BadImage rule)) p o = o ≡ without_file (status.BadImage rule)
IsFileStarted kind (Err image.NoMemory) p o = ⊥

-- an image that was cut from the input, or not
abbrev pub IsFileOutcomeOf : FileKind → (network : Hash) → Reading XdrFault StartImage → FileOutcome → Type 0
IsFileOutcomeOf kind network (Err wrong) o = o ≡ without_file (status.BadInput wrong.at)
IsFileOutcomeOf kind network (Ok x) o =
    (judged : Result ClosingState ImageFault) × IsJudged network x.0 judged × IsFileStarted kind judged x.1 o

-- the outcome of an input on the network with this passphrase
abbrev pub IsFileOutcome : FileKind → (passphrase input : List ℕ) → FileOutcome → Type 0
IsFileOutcome kind passphrase input o =
    IsFileOutcomeOf kind (network_id_of passphrase) (start_image.read (start_of input)) o

-- ---- what is left of a run

-- the ends at which the text may stop before it is complete
abbrev pub IsFileCut : Status → Type 0
IsFileCut status.WriteFault = Unit {0}
IsFileCut status.NoMemory = Unit {0}
IsFileCut other = ⊥

-- the ends at which nothing is written on standard output
abbrev pub IsFileless : Status → Type 0
IsFileless status.Done = ⊥
IsFileless status.WriteFault = ⊥
IsFileless status.NoMemory = ⊥
IsFileless other = Unit {0}

-- a close can be too large after others
abbrev pub CanBeTooLarge : FileKind → Type 0
CanBeTooLarge kind = (closes : List RecordClose) × (c : RecordClose) × kind.IsTooLarge closes c

-- all ends
abbrev pub IsFileRunEnd : FileKind → Status → Type 0
IsFileRunEnd kind status.Done = Unit {0}
IsFileRunEnd kind status.Refused = Unit {0}
IsFileRunEnd kind status.ReadFault = Unit {0}
IsFileRunEnd kind status.WriteFault = Unit {0}
IsFileRunEnd kind status.NoMemory = Unit {0}
IsFileRunEnd kind (status.BadInput at) = Unit {0}
IsFileRunEnd kind (status.BadImage rule) = Unit {0}
IsFileRunEnd kind status.TooLarge = CanBeTooLarge kind
IsFileRunEnd kind other = ⊥

-- nothing, or a prefix of the text of an outcome
abbrev pub IsFilePrefix : (IsOne : FileOutcome → Type 0) → (prefix : List ℕ) → Type 0
IsFilePrefix IsOne prefix = (prefix ≡ []) ⊎ ((o : FileOutcome) × IsOne o × IsPrefix prefix o.text)

-- The end, the text and the line are those of an outcome; or a read failed, and nothing was written; or the end is one
-- that may cut the text short.
abbrev pub IsFileAnswer : (IsOne : FileOutcome → Type 0) → (out err : Seen) → (end : Status) → Type 0
IsFileAnswer IsOne out err end =
    ((o : FileOutcome) × IsOne o × (end ≡ o.status) × Received out o.text × Received err o.line)
    ⊎ ((end ≡ status.ReadFault) × Received out [])
    ⊎ (IsFileCut end × ((text : List ℕ) × Received out text × IsFilePrefix IsOne text))

-- the line on standard error: that of a record where one is refused
abbrev pub IsFileLineReported : (err : Seen) → (end : Status) → Type 0
IsFileLineReported err status.Refused =
    (header : LedgerHeader) × (wrong : CloseFault) × Received err (refused_line header wrong)
IsFileLineReported err end = IsLineReported err end

-- A passphrase's run that writes a file, over these streams, with this end and its line on standard error.
pub record DidWriteFile (kind : FileKind) (passphrase : List ℕ) (input out err : Seen) (end : Status) : Type 0 where
  pub answered : IfSome input.before (λ bytes. IsFileAnswer (IsFileOutcome kind passphrase bytes) out err end)
  pub ended : end ≡ status.Done → IsAtEnd input.now
  pub unwritten : IsFileless end → Received out []
  -- a fault of a stream is answered only where its count rose
  pub read_fault : end ≡ status.ReadFault → Failed input
  pub write_fault : end ≡ status.WriteFault → Failed out ⊎ Failed err
  pub is_end : IsFileRunEnd kind end
  pub reported : IsFileLineReported err end
