-- What the parts of `init` yield.
use Rattle.std.specs.Prelude.{◌≡◌, ℕ, List, ◌⊎◌, IfSome, Ok, Err}
use Rattle.std.specs.Io.KnownBytes.{IsAtEnd}
use Rattle.ledger_types.specs.declared.ids.Hash.{Hash}
use Rattle.xdr_header.specs.declared.image.StartImage.{StartImage}
use Rattle.xdr_header.specs.Image.{start_image}
use Rattle.stored_outcome.specs.run_streams.Seen.{Seen, Failed, Gave}
use Rattle.stored_outcome.specs.run_streams.SeenVolume.{SeenVolume, VolumeFailed}
use Rattle.stored_outcome.specs.close_rules.State.{ClosingState}
use Rattle.stored_outcome.specs.close_rules.Images.{IsJudged}
use Rattle.stored_outcome.specs.run_outcome.declared.status.Status.{Status}
use Rattle.stored_outcome.specs.run_outcome.declared.status.Status.TheVariants as status
use Rattle.image_store.specs.ImageFiles.{IsImage}
use Rattle.image_store.specs.Opening.{HoldsNothing}
use Rattle.stored_outcome.specs.Opening.{IsSound}
use Rattle.stored_outcome.specs.Init.{IsBadInput, MomentsOfInit, Stored}
use Rattle.replay.specs.Starting.{IsJudgedSo}

-- ---- the input

-- the entire input is this image
pub record IsInput (image : StartImage) (input : Seen) : Type 0 where
  pub given : List ℕ
  pub gave : Gave input given
  pub ended : IsAtEnd input.now
  pub are : IsImage given image
  pub within : start_image.within image

-- why the input isn't read as an image
abbrev pub IsUnread : Seen → (end : Status) → Type 0
IsUnread input (status.BadInput at) = IfSome input.before (λ bytes. IsBadInput bytes at)
IsUnread input status.ReadFault = Failed input
IsUnread input status.NoMemory = Unit {0}
IsUnread input other = ⊥

-- the image is that of a ledger on the network
abbrev pub IsLedgers : Hash → StartImage → Type 0
IsLedgers network image = (s : ClosingState) × IsJudged network image (Ok s)

-- ---- the volume

-- the ends of storing an image
abbrev pub IsStoringEnd : Status → Type 0
IsStoringEnd status.Done = Unit {0}
IsStoringEnd status.DiskFault = Unit {0}
IsStoringEnd status.NoMemory = Unit {0}
IsStoringEnd status.AlreadyThere = Unit {0}
IsStoringEnd other = ⊥

-- a volume was asked to keep an image
pub record Storing (network : Hash) (image : StartImage) (vol : SeenVolume) (end : Status) : Type 0 where
  pub moments : vol.reports → MomentsOfInit network image vol
  pub sound : vol.reports → IsSound vol.before → IsSound vol.now
  pub done : end ≡ status.Done → vol.reports → (s : ClosingState) → IsJudged network image (Ok s)
      → Stored network image s vol
  pub already : end ≡ status.AlreadyThere → vol.reports
      → (HoldsNothing vol.before.reads → ⊥) × (vol.now.reads ≡ vol.before.reads)
  pub disk_fault : end ≡ status.DiskFault → VolumeFailed vol
  pub no_memory : end ≡ status.NoMemory → vol.same
  pub is_end : IsStoringEnd end

-- an image is kept that is that of a ledger, and nothing is asked of the volume for another
abbrev pub Keeps : Hash → StartImage → SeenVolume → (end : Status) → Type 0
Keeps network image vol end =
    (vol.same × IsJudgedSo network image (Err end)) ⊎ (IsLedgers network image × Storing network image vol end)
