-- What `init` leaves, over what was seen of its source, of standard error and of its volume before and after.
use Rattle.std.specs.Prelude.{◌≡◌, ◌≢◌, ◌≤◌, ℕ, List, [], ◌⊎◌, IfSome, Ok, Err}
use Rattle.std.specs.Io.KnownBytes.{IsAtEnd}
use Rattle.sample_ledger.specs.ledger_types.declared.ids.Hash.{Hash}
use Rattle.sample_ledger.specs.xdr_core.declared.fault.XdrFault.{XdrFault}
use Rattle.sample_ledger.specs.xdr_core.Position.{Position, start_of}
use Rattle.sample_ledger.specs.xdr_header.declared.image.StartImage.{StartImage}
use Rattle.sample_ledger.specs.xdr_header.Image.{start_image}
use Rattle.sample_ledger.specs.hash_ids.Ids.{network_id_of}
use Rattle.run_outcome.specs.run_streams.Seen.{Seen, Failed, Gave}
use Rattle.run_outcome.specs.close_rules.declared.image_fault.ImageRule.{ImageRule}
use Rattle.run_outcome.specs.close_rules.declared.image_fault.ImageFault.TheVariants as image
use Rattle.run_outcome.specs.close_rules.State.{ClosingState}
use Rattle.run_outcome.specs.close_rules.Images.{IsJudged}
use Rattle.run_outcome.specs.declared.status.Status.{Status}
use Rattle.run_outcome.specs.declared.status.Status.TheVariants as status
use Rattle.run_outcome.specs.Run.{IsLineReported}
use Rattle.image_store.specs.outside.Disk.{Image, IsSafe}
use Rattle.run_outcome.specs.run_streams.SeenVolume.{SeenVolume, VolumeFailed, MightLeave}
use Rattle.image_store.specs.ImageFiles.{IsImage}
use Rattle.image_store.specs.Opening.{Holds, HoldsNothing}
use Rattle.image_store.specs.Calls.{first_kept}
use Rattle.stored_outcome.specs.Opening.{OpensTo, IsSound}

-- ---- the input

-- bytes are the image of a ledger, and nothing is after it
pub record IsLedgerImage (network : Hash) (bytes : List ℕ) (start : StartImage) (s : ClosingState) : Type 0 where
  pub are : IsImage bytes start
  pub judged : IsJudged network start (Ok s)

-- something is wrong at an offset: no image is cut from the start, or bytes follow it
abbrev pub IsBadInput : List ℕ → (at : ℕ) → Type 0
IsBadInput bytes at =
    ((wrong : XdrFault) × (start_image.read (start_of bytes) ≡ Err wrong) × (at ≡ wrong.at))
    ⊎ ((start : StartImage) × (offset : Position) × (start_image.read (start_of bytes) ≡ Ok (start, offset))
    × (offset.rest ≢ []) × (at ≡ offset.at))

-- the image breaks a rule, and none before it
abbrev pub IsBadImage : Hash → List ℕ → ImageRule → Type 0
IsBadImage network bytes rule =
    (start : StartImage) × IsImage bytes start × IsJudged network start (Err (image.BadImage rule))

-- ---- the volume

-- At each moment since, and now, a crash leaves what one might have left before, or where that had no open image, none
-- or this one.
abbrev pub MomentsOfInit : Hash → StartImage → SeenVolume → Type 0
MomentsOfInit network start vol = (vol.before.moment ≤ vol.now.moment) × ((c : Image) → MightLeave vol c
    → vol.before.may_leave c
    ⊎ ((d : Image) × vol.before.may_leave d × HoldsNothing d
    × (HoldsNothing c ⊎ Holds c (first_kept network start))))

-- it was asked for the image that was the entire input
pub record Asked (network : Hash) (input : Seen) (vol : SeenVolume) : Type 0 where
  pub given : List ℕ
  pub gave : Gave input given
  pub ended : IsAtEnd input.now
  pub start : StartImage
  pub state : ClosingState
  pub entire : IsLedgerImage network given start state
  pub moments : vol.reports → MomentsOfInit network start vol
  pub sound : vol.reports → IsSound vol.before → IsSound vol.now

-- the image was stored where no image was open, and a crash leaves it
pub record Stored (network : Hash) (start : StartImage) (s : ClosingState) (vol : SeenVolume) : Type 0 where
  pub nothing : HoldsNothing vol.before.reads
  pub holds : Holds vol.now.reads (first_kept network start)
  pub opens : OpensTo vol.now.reads s
  pub safe : IsSafe vol.now
  pub sound : IsSound vol.now

-- ---- runs

-- the ends of `init`
abbrev pub IsInitEnd : Status → Type 0
IsInitEnd status.Done = Unit {0}
IsInitEnd status.ReadFault = Unit {0}
IsInitEnd status.WriteFault = Unit {0}
IsInitEnd status.DiskFault = Unit {0}
IsInitEnd status.NoMemory = Unit {0}
IsInitEnd (status.BadInput at) = Unit {0}
IsInitEnd (status.BadImage rule) = Unit {0}
IsInitEnd status.AlreadyThere = Unit {0}
IsInitEnd other = ⊥

-- all that `init` leaves but the line on standard error
pub record InitLeft (network : Hash) (input : Seen) (vol : SeenVolume) (end : Status) : Type 0 where
  -- the entire input is judged before the volume is asked
  pub left : vol.same ⊎ Asked network input vol
  pub done : end ≡ status.Done → (asked : Asked network input vol)
      × (vol.reports → Stored network asked.start asked.state vol)
  pub bad_input : (at : ℕ) → end ≡ status.BadInput at
      → vol.same × IfSome input.before (λ bytes. IsBadInput bytes at)
  pub bad_image : (rule : ImageRule) → end ≡ status.BadImage rule
      → vol.same × IfSome input.before (λ bytes. IsBadImage network bytes rule)
  pub already : end ≡ status.AlreadyThere → Asked network input vol
      × (vol.reports → (HoldsNothing vol.before.reads → ⊥) × (vol.now.reads ≡ vol.before.reads))
  -- a fault of a device is answered only where its count rose
  pub read_fault : end ≡ status.ReadFault → Failed input × vol.same
  pub disk_fault : end ≡ status.DiskFault → Asked network input vol × VolumeFailed vol
  pub no_memory : end ≡ status.NoMemory → vol.same
  pub is_end : IsInitEnd end

-- `init` with this end and its line on standard error
pub record DidInit (passphrase : List ℕ) (input err : Seen) (vol : SeenVolume) (end : Status) : Type 0 where
  pub left : InitLeft (network_id_of passphrase) input vol end
  pub write_fault : end ≡ status.WriteFault → Failed err
  pub reported : IsLineReported err end
