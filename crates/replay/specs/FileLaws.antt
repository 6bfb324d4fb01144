-- What runs answer that write a file: where nothing failed, where all records are accepted, and the outcome of their
-- input.
use Rattle.std.specs.Prelude.{◌≡◌, ◌⊎◌, ℕ, ◌≤◌, List, length, All, Some, Ok}
use Rattle.xdr_core.specs.Position.{Position, start_of}
use Rattle.xdr_header.specs.declared.image.StartImage.{StartImage}
use Rattle.xdr_header.specs.Image.{start_image}
use Rattle.hash_ids.specs.Ids.{network_id_of}
use Rattle.stored_outcome.specs.close_rules.State.{ClosingState}
use Rattle.stored_outcome.specs.close_rules.Images.{IsJudged}
use Rattle.stored_outcome.specs.run_streams.Seen.{Seen, Failed, Received}
use Rattle.stored_outcome.specs.run_outcome.Closes.{RecordClose, AreClosesOf}
use Rattle.stored_outcome.specs.run_outcome.Outcome.{frames, max_record_len}
use Rattle.stored_outcome.specs.run_outcome.declared.status.Status.{Status}
use Rattle.stored_outcome.specs.run_outcome.declared.status.Status.TheVariants as status
use Rattle.stored_outcome.specs.run_outcome.FileRun.{DidWriteFile, FileKind, FileOutcome, IsFileOutcome, with_file}
use Rattle.replay.specs.Completeness.{NoneFailed}

-- a claim of each run that writes a file of this kind
abbrev pub Writings : FileKind → ((passphrase input : List ℕ) → (Seen → Seen → Seen → Status → Type 0)) → Type 0
Writings kind P = (passphrase bytes : List ℕ) (input out err : Seen) (end : Status)
    → DidWriteFile kind passphrase input out err end → input.before ≡ Some bytes → P passphrase bytes input out err end

-- the end, the text and the line are those of an outcome
abbrev pub IsAnsweredWith : FileOutcome → (out err : Seen) → (end : Status) → Type 0
IsAnsweredWith o out err end = (end ≡ o.status) × Received out o.text × Received err o.line

-- a count of faults rose that explains the answer, or memory was refused
abbrev pub IsWritingFault : (input out err : Seen) → (end : Status) → Type 0
IsWritingFault input out err end =
    ((end ≡ status.ReadFault) × Failed input)
    ⊎ ((end ≡ status.WriteFault) × (Failed out ⊎ Failed err))
    ⊎ (end ≡ status.NoMemory)

-- where nothing failed an outcome is answered, or memory was refused
abbrev pub IsWritingComplete : FileKind → (passphrase bytes : List ℕ) → (input out err : Seen) → (end : Status)
    → Type 0
IsWritingComplete kind passphrase bytes input out err end = NoneFailed input out err
    → ((o : FileOutcome) × IsFileOutcome kind passphrase bytes o × IsAnsweredWith o out err end)
    ⊎ (end ≡ status.NoMemory)

-- each outcome is answered, but where something failed
abbrev pub IsWritingAnswered : FileKind → (passphrase bytes : List ℕ) → (input out err : Seen) → (end : Status)
    → Type 0
IsWritingAnswered kind passphrase bytes input out err end = (o : FileOutcome) → IsFileOutcome kind passphrase bytes o
    → IsAnsweredWith o out err end ⊎ IsWritingFault input out err end

-- an input has one outcome
abbrev pub FileOutcomesAreOne : FileKind → Type 0
FileOutcomesAreOne kind = (passphrase bytes : List ℕ) (a b : FileOutcome) → IsFileOutcome kind passphrase bytes a
    → IsFileOutcome kind passphrase bytes b → a ≡ b

-- ---- where all records are accepted

-- a legal image, and after it records that all close ledgers
pub record AreAllClosed (passphrase bytes : List ℕ) (start : ClosingState) (closes : List RecordClose) : Type 0 where
  pub image : StartImage
  pub position : Position
  pub reads : start_image.read (start_of bytes) ≡ Ok (image, position)
  pub judged : IsJudged (network_id_of passphrase) image (Ok start)
  pub records : List (List ℕ)
  pub cut : position.rest ≡ frames records
  pub short : All (λ record_bytes. length record_bytes ≤ max_record_len) records
  pub now : ClosingState
  pub closed : AreClosesOf start records closes now

-- where none of the closes was too large, all is done and their file is complete, or memory was refused
abbrev pub IsWritingDone : FileKind → (passphrase bytes : List ℕ) → (input out err : Seen) → (end : Status) → Type 0
IsWritingDone kind passphrase bytes input out err end = (start : ClosingState) (closes : List RecordClose)
    → AreAllClosed passphrase bytes start closes → kind.AreSmall closes → NoneFailed input out err
    → ((text : List ℕ) × kind.IsText start closes text × IsAnsweredWith (with_file text) out err end)
    ⊎ (end ≡ status.NoMemory)
