-- What is read of image files.
use Rattle.std.specs.Prelude.{◌≡◌, ◌≢◌, ℕ, ◌+◌, ◌%◌, ◌<◌, ◌≤◌, ◌^◌, List, length, slice_index, Bool, true, false}
use Rattle.std.specs.Prelude.{Option, Some, None, Result, Ok, Err, ◌⊎◌, nat_lt, if◌then◌else◌}
use Rattle.outside.specs.Disk.{Image}
use Rattle.gate_journal.specs.declared.fault.StoreFault.{StoreFault}
use Rattle.gate_journal.specs.declared.fault.StoreFault.TheVariants as fault
use Rattle.xdr_header.specs.declared.image.StartImage.{StartImage}
use Rattle.image_store.specs.ImageFiles as files
use files.{head_len, top_bit, IsOpen, image_offset, format_in, epoch_in, network_in, length_in, image_in, IsNumbered}
use files.{IsHashed, IsFormed, IsImage}
use Rattle.image_store.specs.Opening.{HoldsNothing, AreFormed, IsChosen, IsMisformed, BreaksForm}
use Rattle.record_stream.specs.Measured.{image_end}
use Rattle.image_store.specs.declared.gate.Gate.{Gate}
use Rattle.image_store.specs.declared.gate.Gate.TheVariants as gate
use Rattle.image_store.specs.declared.head.Head.{Head}

abbrev pub ReportsGate : List ℕ → Gate → Type 0
ReportsGate file gate.Short = length file < head_len
ReportsGate file gate.Shut = (head_len ≤ length file) × (slice_index file 0 ≢ 1)
ReportsGate file (gate.Open size) = IsOpen file × (length file ≡ size)

-- the length of a file has 64 bits
abbrev pub DoesGateFit : Gate → Type 0
DoesGateFit (gate.Open size) = (head_len ≤ size) × (size < 2 ^ 64)
DoesGateFit other = Unit {0}

-- in this format an image file may have this epoch
pub record IsOfFile (number format epoch : ℕ) : Type 0 where
  pub parity : epoch % 2 ≡ number
  pub low : format ≡ 1 → epoch + 1 < top_bit

abbrev pub ReportsEpoch : (number format epoch : ℕ) → Bool → Type 0
ReportsEpoch number format epoch true = IsOfFile number format epoch
ReportsEpoch number format epoch false = IsOfFile number format epoch → ⊥

-- what is known of a head without its file
pub record DoesHeadFit (number : ℕ) (head : Head) : Type 0 where
  pub parity : head.epoch % 2 ≡ number
  pub epoch : head.epoch < top_bit
  pub low : head.format ≡ 1 → head.epoch + 1 < top_bit
  pub len : image_offset head.format + head.len < 2 ^ 64

-- whether an image is open
abbrev pub ReportsOpen : Image → Bool → Type 0
ReportsOpen c true = (number : ℕ) × (number < 2) × IsOpen (c number)
ReportsOpen c false = HoldsNothing c

-- what the first bytes of an open image file of this size say, where the size is what they say
pub record IsSaid (number : ℕ) (bytes : List ℕ) (size : ℕ) (head : Head) : Type 0 where
  pub numbered : IsNumbered number bytes
  pub format : head.format ≡ format_in bytes
  pub epoch : head.epoch ≡ epoch_in bytes
  pub network : head.network ≡ network_in bytes
  pub len : head.len ≡ length_in bytes
  pub whole : size ≡ image_offset head.format + head.len

-- an image file that is open says this, or its epoch isn't one of its own, or its size isn't what it says
abbrev pub ReportsForm : (number : ℕ) (bytes : List ℕ) (size : ℕ) → Result Head StoreFault → Type 0
ReportsForm number bytes size (Ok head) = IsSaid number bytes size head
ReportsForm number bytes size (Err (fault.BadStore bad offset)) = (bad ≡ number)
    × (((offset ≡ 1) × (IsNumbered number bytes → ⊥))
    ⊎ ((offset ≡ 41) × IsNumbered number bytes × (size ≢ image_offset (format_in bytes) + length_in bytes)))
ReportsForm number bytes size (Err other) = ⊥

-- the image of a file with this head has the head's length
pub record IsHeadSized (file : List ℕ) (head : Head) : Type 0 where
  pub format : head.format ≡ format_in file
  pub size : length file ≡ image_offset head.format + head.len

-- whether the hash is the image's, where there is one
abbrev pub ReportsHashed : List ℕ → Bool → Type 0
ReportsHashed file true = IsHashed file
ReportsHashed file false = IsHashed file → ⊥

-- the head of an open image file that has its form
pub record IsHead (number : ℕ) (file : List ℕ) (head : Head) : Type 0 where
  pub is_open : IsOpen file
  pub formed : IsFormed number file
  pub sized : IsHeadSized file head
  pub epoch : head.epoch ≡ epoch_in file
  pub network : head.network ≡ network_in file

-- an open image file has this head, or isn't formed
abbrev pub ReportsOpenHead : (number : ℕ) (file : List ℕ) → Result Head StoreFault → Type 0
ReportsOpenHead number file (Ok head) = IsHead number file head
ReportsOpenHead number file (Err (fault.BadStore bad offset)) =
    (bad ≡ number) × IsOpen file × IsMisformed number file offset
ReportsOpenHead number file (Err other) = Unit {0}

-- no image is open, or an open one has this head or isn't formed
abbrev pub ReportsHead : (number : ℕ) (file : List ℕ) → Result (Option Head) StoreFault → Type 0
ReportsHead number file (Ok None) = IsOpen file → ⊥
ReportsHead number file (Ok (Some head)) = IsHead number file head
ReportsHead number file (Err (fault.BadStore bad offset)) =
    (bad ≡ number) × IsOpen file × IsMisformed number file offset
ReportsHead number file (Err other) = Unit {0}

-- the image of a file, which begins at this offset, is this, or there is none
abbrev pub ReportsImage : (number offset : ℕ) (file : List ℕ) → Result StartImage StoreFault → Type 0
ReportsImage number offset file (Ok image) = IsImage (image_in file) image
ReportsImage number offset file (Err (fault.BadStore bad at)) =
    (bad ≡ number) × (at ≡ offset) × ((image : StartImage) → IsImage (image_in file) image → ⊥)
ReportsImage number offset file (Err other) = Unit {0}

-- whether an image ends where these bytes do, or they are none
abbrev pub ReportsComplete : List ℕ → Bool → Type 0
ReportsComplete bytes true = image_end bytes ≡ Ok (length bytes)
ReportsComplete bytes false = (image : StartImage) → IsImage bytes image → ⊥

-- these bytes at this offset of a file are this image, or they are none
abbrev pub ReportsBytes : (number offset : ℕ) (bytes : List ℕ) → Result StartImage StoreFault → Type 0
ReportsBytes number offset bytes (Ok image) = IsImage bytes image
ReportsBytes number offset bytes (Err (fault.BadStore bad at)) =
    (bad ≡ number) × (at ≡ offset) × ((image : StartImage) → IsImage bytes image → ⊥)
ReportsBytes number offset bytes (Err other) = other ≡ fault.NoMemory

-- of two heads that with the greater epoch, and its file
abbrev pub greater_of : Option Head → Option Head → Option (ℕ × Head)
greater_of None None = None
greater_of None (Some other) = Some (1, other)
greater_of (Some head) None = Some (0, head)
greater_of (Some head) (Some other) = if nat_lt head.epoch other.epoch then Some (1, other) else Some (0, head)

-- the image that counts, in a file with this head
pub record IsChosenHead (c : Image) (number : ℕ) (head : Head) : Type 0 where
  pub formed : AreFormed c
  pub chosen : IsChosen c number
  pub reads : IsHead number (c number) head

abbrev pub ReportsChosen : Image → Result (Option (ℕ × Head)) StoreFault → Type 0
ReportsChosen c (Ok None) = HoldsNothing c
ReportsChosen c (Ok (Some found)) = IsChosenHead c found.0 found.1
ReportsChosen c (Err (fault.BadStore file offset)) = BreaksForm c file offset
ReportsChosen c (Err other) = Unit {0}
