-- What runs of `catchup` answer, as they are run by the words or alone: where nothing failed, where all records are
-- accepted, and where the outcome is another one.
use Rattle.std.specs.Prelude.{◌≡◌, ℕ, ◌≤◌, List, ◌++◌, length, All, Some, Ok, ◌⊎◌}
use Rattle.stored_outcome.specs.run_streams.Seen.{Seen, Failed, Received}
use Rattle.xdr_core.specs.Position.{Position, start_of}
use Rattle.xdr_header.specs.declared.image.StartImage.{StartImage}
use Rattle.xdr_header.specs.Image.{start_image}
use Rattle.hash_ids.specs.Ids.{network_id_of}
use Rattle.stored_outcome.specs.close_rules.State.{ClosingState}
use Rattle.stored_outcome.specs.close_rules.Images.{IsJudged}
use Rattle.stored_outcome.specs.run_outcome.declared.status.Status.{Status}
use Rattle.stored_outcome.specs.run_outcome.declared.status.Status.TheVariants as status
use Rattle.stored_outcome.specs.run_outcome.Lines.{end_line}
use Rattle.stored_outcome.specs.run_outcome.Outcome.{Outcome, IsOutcome, max_record_len, frames, AreClosed}
use Rattle.stored_outcome.specs.run_outcome.Run.{DidCatchUp}
use Rattle.stored_outcome.specs.run_streams.SeenVolume.{SeenVolume}
use Rattle.command_words.specs.Words.{CatchUp, Parses}
use Rattle.stored_outcome.specs.Program.{DidNothing, Ran}

-- no stream's count of faults rose
pub record NoneFailed (input out err : Seen) : Type 0 where
  pub no_read : Failed input → ⊥
  pub no_write : Failed out → ⊥
  pub no_line : Failed err → ⊥

-- a claim of each run of `catchup` on an input
abbrev pub Catchups : ((passphrase input : List ℕ) → (Seen → Seen → Seen → Status → Type 0)) → Type 0
Catchups P = (passphrase bytes : List ℕ) (input out err : Seen) (end : Status)
    → DidCatchUp passphrase input out err end → input.before ≡ Some bytes → P passphrase bytes input out err end

-- the same, of the runs beside this volume that the words ask for, but where memory was refused as they were read
abbrev pub Runs : SeenVolume → ((passphrase input : List ℕ) → (Seen → Seen → Seen → Status → Type 0)) → Type 0
Runs vol P = (words : List (List ℕ)) (passphrase bytes : List ℕ) (input out err : Seen) (end : Status)
    → Ran words input out err vol end → Parses words (CatchUp passphrase) → input.before ≡ Some bytes
    → P passphrase bytes input out err end ⊎ DidNothing status.NoMemory input out err vol end

-- ---- where nothing failed

-- the end and the output are those of the outcome, or memory was refused
abbrev pub IsComplete : (passphrase bytes : List ℕ) → (input out err : Seen) → (end : Status) → Type 0
IsComplete passphrase bytes input out err end = NoneFailed input out err
    → ((o : Outcome) × IsOutcome passphrase bytes o × (end ≡ o.status) × Received out o.text) ⊎ (end ≡ status.NoMemory)

-- ---- where all records are accepted

-- a legal image, and after it records that all close ledgers: their lines, and the state after the last
pub record AreAccepted (passphrase bytes lines : List ℕ) (now : ClosingState) : Type 0 where
  pub image : StartImage
  pub position : Position
  pub reads : start_image.read (start_of bytes) ≡ Ok (image, position)
  pub start : ClosingState
  pub judged : IsJudged (network_id_of passphrase) image (Ok start)
  pub records : List (List ℕ)
  pub cut : position.rest ≡ frames records
  pub short : All (λ record_bytes. length record_bytes ≤ max_record_len) records
  pub closed : AreClosed start records lines now

-- all is done and the text is complete, or memory was refused
abbrev pub IsDone : (passphrase bytes : List ℕ) → (input out err : Seen) → (end : Status) → Type 0
IsDone passphrase bytes input out err end = (lines : List ℕ) (now : ClosingState)
    → AreAccepted passphrase bytes lines now → NoneFailed input out err
    → ((end ≡ status.Done) × Received out (lines ++ end_line now.header)) ⊎ (end ≡ status.NoMemory)

-- ---- the other side

-- an outcome is answered with its status and text, unless a stream failed or memory was refused
abbrev pub IsAnswered : (passphrase bytes : List ℕ) → (input out err : Seen) → (end : Status) → Type 0
IsAnswered passphrase bytes input out err end = (o : Outcome) → IsOutcome passphrase bytes o
    → ((end ≡ o.status) × Received out o.text)
    ⊎ ((end ≡ status.ReadFault) × Failed input)
    ⊎ ((end ≡ status.WriteFault) × (Failed out ⊎ Failed err))
    ⊎ (end ≡ status.NoMemory)
