-- What four files open to: the image with the greatest epoch, in file 0 or 1, and the records of its journal, in file 2
-- or 3; or why they open to nothing.
use Rattle.std.specs.Prelude.{◌≡◌, ℕ, ◌+◌, ◌<◌, ◌≤◌, List, [], ◌∷◌, ◌++◌, ◌⊎◌, Result, Ok, Err}
use Rattle.ledger_types.specs.declared.ids.Hash.{Hash}
use Rattle.xdr_header.specs.declared.image.StartImage.{StartImage}
use Rattle.outside.specs.Disk.{Image}
use Rattle.gate_journal.specs.Records.{HasRecords, HasNoRecords}
use Rattle.gate_journal.specs.declared.fault.StoreFault.{StoreFault}
use Rattle.gate_journal.specs.declared.fault.StoreFault.TheVariants as fault
use Rattle.image_store.specs.ImageFiles.{IsOpen, image_offset, format_in, epoch_in, network_in, image_in}
use Rattle.image_store.specs.ImageFiles.{IsNumbered, IsSized, IsHashed, IsFormed, IsImage}

-- what is kept
pub record Kept : Type 0 where
  -- that of the image's file, 1 or 2
  pub format : ℕ
  pub epoch : ℕ
  pub network : Hash
  pub image : StartImage
  pub records : List (List ℕ)

-- one record more
abbrev pub grown : Kept → List ℕ → Kept
grown kept bytes = record kept { records = kept.records ++ bytes ∷ [] }

-- the next epoch: another image in format 2, and no records
abbrev pub rolled : Kept → StartImage → Kept
rolled kept image = record kept { format = 2; epoch = kept.epoch + 1; image = image; records = [] }

-- ---- the image that counts

-- no image is open
abbrev pub HoldsNothing : Image → Type 0
HoldsNothing c = (number : ℕ) → number < 2 → IsOpen (c number) → ⊥

-- each image that is open has its form
abbrev pub AreFormed : Image → Type 0
AreFormed c = (number : ℕ) → number < 2 → IsOpen (c number) → IsFormed number (c number)

-- this image is open, and no open one has a greater epoch
pub record IsChosen (c : Image) (number : ℕ) : Type 0 where
  pub image_file : number < 2
  pub is_open : IsOpen (c number)
  pub greatest : (other : ℕ) → other < 2 → IsOpen (c other) → epoch_in (c other) ≤ epoch_in (c number)

pub record Holds (c : Image) (kept : Kept) : Type 0 where
  pub formed : AreFormed c
  pub number : ℕ
  pub chosen : IsChosen c number
  pub format : kept.format ≡ format_in (c number)
  pub epoch : kept.epoch ≡ epoch_in (c number)
  pub network : kept.network ≡ network_in (c number)
  pub image : IsImage (image_in (c number)) kept.image
  pub journal : HasRecords (c (2 + number)) kept.records

-- ---- why nothing is kept, in the order in which it is judged

-- the epoch isn't one of this file's (at 1), or else the length isn't the file's (at 41), or else the hash isn't the
-- image's (at 49)
abbrev pub IsMisformed : (number : ℕ) (file : List ℕ) (offset : ℕ) → Type 0
IsMisformed number file offset =
    ((offset ≡ 1) × (IsNumbered number file → ⊥))
    ⊎ ((offset ≡ 41) × IsNumbered number file × (IsSized file → ⊥))
    ⊎ ((offset ≡ 49) × IsNumbered number file × IsSized file × (IsHashed file → ⊥))

-- an image is open and misformed, and none before it is
pub record BreaksForm (c : Image) (file offset : ℕ) : Type 0 where
  pub image_file : file < 2
  pub is_open : IsOpen (c file)
  pub wrong : IsMisformed file (c file) offset
  pub first : (number : ℕ) → number < file → IsOpen (c number) → IsFormed number (c number)

-- where the chosen file has its image, there is none
pub record BreaksImage (c : Image) (file offset : ℕ) : Type 0 where
  pub formed : AreFormed c
  pub chosen : IsChosen c file
  pub wrong : (image : StartImage) → IsImage (image_in (c file)) image → ⊥
  pub at : offset ≡ image_offset (format_in (c file))

-- the journal of the chosen image is none
pub record BreaksJournal (c : Image) (file offset : ℕ) : Type 0 where
  pub formed : AreFormed c
  pub number : ℕ
  pub chosen : IsChosen c number
  pub image : StartImage
  pub reads : IsImage (image_in (c number)) image
  pub journal : file ≡ 2 + number
  pub wrong : HasNoRecords (c file) offset

abbrev pub HoldsNoStore : Image → (file offset : ℕ) → Type 0
HoldsNoStore c file offset = BreaksForm c file offset ⊎ BreaksImage c file offset ⊎ BreaksJournal c file offset

-- what four files open to
abbrev pub IsOpening : Image → Result Kept StoreFault → Type 0
IsOpening c (Ok kept) = Holds c kept
IsOpening c (Err fault.Missing) = HoldsNothing c
IsOpening c (Err (fault.BadStore file offset)) = HoldsNoStore c file offset
IsOpening c (Err other) = ⊥
