-- What the start image that an input begins with yields.
use Rattle.std.specs.Prelude.{◌≡◌, ℕ, ◌≤◌, ◌^◌, List, [], ◌++◌, ◌⊎◌, length, IfSome, Result, Ok, Err}
use Rattle.std.specs.Io.KnownBytes.{IsAtEnd}
use Rattle.stored_outcome.specs.run_streams.Seen.{Seen, Failed, Gave, Received}
use Rattle.ledger_types.specs.declared.ids.Hash.{Hash}
use Rattle.xdr_core.specs.declared.fault.XdrFault.{XdrFault}
use Rattle.xdr_core.specs.Position.{start_of}
use Rattle.xdr_header.specs.declared.image.StartImage.{StartImage}
use Rattle.xdr_header.specs.Image.{start_image}
use Rattle.hash_ids.specs.Ids.{network_id_of}
use Rattle.stored_outcome.specs.close_rules.State.{ClosingState}
use Rattle.stored_outcome.specs.close_rules.Images.{IsJudged}
use Rattle.stored_outcome.specs.close_rules.declared.image_fault.ImageFault.TheVariants as image_fault
use Rattle.stored_outcome.specs.close_rules.declared.image_fault.ImageRule.{ImageRule}
use Rattle.worker_merges.specs.ledger_close.States.{LedgerAt}
use Rattle.stored_outcome.specs.run_outcome.declared.status.Status.{Status}
use Rattle.stored_outcome.specs.run_outcome.declared.status.Status.TheVariants as status
use Rattle.stored_outcome.specs.run_outcome.Statuses.{IsCatchUpEnd}
use Rattle.stored_outcome.specs.run_outcome.Run.{AnsweredTo, Reported}

-- a passphrase's run of `catchup`, over these streams, with this end; all but the line on standard error
pub record CaughtUp (passphrase : List ℕ) (input out : Seen) (end : Status) : Type 0 where
  pub answered : IfSome input.before (λ bytes. AnsweredTo passphrase bytes out end)
  pub bad_image : (rule : ImageRule) → end ≡ status.BadImage rule → Received out []
  pub ended : end ≡ status.Done → IsAtEnd input.now
  pub read_fault : end ≡ status.ReadFault → Failed input × Reported passphrase input out
  pub write_fault : end ≡ status.WriteFault → Failed out
  pub is_end : IsCatchUpEnd end

-- whatever begins with these bytes has this image at its start
abbrev pub Begins : List ℕ → StartImage → Type 0
Begins prefix image = (rest : List ℕ)
    → start_image.read (start_of (prefix ++ rest)) ≡ Ok (image, record { at = length prefix; rest = rest })

-- an image was cut from what the source gave
pub record Cut (image : StartImage) (at : ℕ) (ahead : List ℕ) (input : Seen) : Type 0 where
  pub prefix : List ℕ
  pub begins : Begins prefix image
  pub within : start_image.within image
  pub len : at ≡ length prefix
  pub low : at ≤ 2 ^ 64
  pub gave : Gave input (prefix ++ ahead)
  pub later : input.faults_before ≤ input.faults_now

-- no image is at the start of these bytes, for this fault
abbrev pub HasNoImage : List ℕ → XdrFault → Type 0
HasNoImage bytes wrong = start_image.read (start_of bytes) ≡ Err wrong

-- the fault is at this offset
abbrev pub IsFaulty : (at : ℕ) → List ℕ → Type 0
IsFaulty at bytes = (wrong : XdrFault) × HasNoImage bytes wrong × (at ≡ wrong.at)

-- what a source gave is no image yet
pub record GaveNoImage (input : Seen) : Type 0 where
  pub given : List ℕ
  pub gave : Gave input given
  pub wrong : XdrFault
  pub reads : HasNoImage given wrong

-- why no image was cut from the start of an input
abbrev pub IsUncut : Seen → (end : Status) → Type 0
IsUncut input (status.BadInput at) = IfSome input.before (IsFaulty at)
IsUncut input status.ReadFault = Failed input × GaveNoImage input
IsUncut input status.NoMemory = Unit {0}
IsUncut input other = ⊥

-- no record was looked at: this is the end of a run that wrote nothing
abbrev pub IsUnstarted : (passphrase : List ℕ) (input : Seen) (end : Status) → Type 0
IsUnstarted passphrase input end = (out : Seen) → Received out [] → CaughtUp passphrase input out end

-- what an image is judged to be, with the end of a run where it is none of a ledger
abbrev pub IsJudgedSo : Hash → StartImage → Result LedgerAt Status → Type 0
IsJudgedSo network image (Ok ledger) = IsJudged network image (Ok ledger.state)
IsJudgedSo network image (Err (status.BadImage rule)) = IsJudged network image (Err (image_fault.BadImage rule))
IsJudgedSo network image (Err end) = end ≡ status.NoMemory

-- a ledger starts after an image
pub record StartsAt (passphrase : List ℕ) (s : ClosingState) (at : ℕ) (ahead : List ℕ) (input : Seen) : Type 0 where
  pub image : StartImage
  pub cut : Cut image at ahead input
  pub judged : IsJudged (network_id_of passphrase) image (Ok s)

-- why no ledger starts at the start of an input: no image was cut from it, or the image is none of a ledger
abbrev pub IsBarred : (passphrase : List ℕ) (input : Seen) (end : Status) → Type 0
IsBarred passphrase input end =
    IsUncut input end
    ⊎ ((image : StartImage) × (at : ℕ) × (ahead : List ℕ) × Cut image at ahead input
    × IsJudgedSo (network_id_of passphrase) image (Err end))
