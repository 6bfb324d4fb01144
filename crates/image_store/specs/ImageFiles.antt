-- What the file of an image holds. In format 1: a gate, the epoch (8 bytes, the highest first), the network id, the
-- image's length (8 bytes) and the image. In format 2: a gate, the epoch with the top bit of its 8 bytes set, the
-- network id, the image's length, SHA-256 of the image, and the image.
use Rattle.std.specs.Prelude.{◌≡◌, ℕ, ◌+◌, ◌%◌, ◌<◌, ◌≤◌, ◌^◌, List, [], ◌++◌, length, take, drop, slice_index, Ok}
use Rattle.std.specs.Prelude.{nat_eq, nat_lt, if◌then◌else◌}
use Rattle.byteorder.specs.Endian.{big_number, big_bytes}
use Rattle.sha2.specs.Sha256.{sha256}
use Rattle.ledger_types.specs.declared.ids.Hash.{Hash}
use Rattle.xdr_core.specs.Position.{Position, start_of}
use Rattle.xdr_header.specs.declared.image.StartImage.{StartImage}
use Rattle.xdr_header.specs.Image.{start_image}

-- how many bytes both formats have ahead of the image, or of its hash
abbrev pub head_len : ℕ
head_len = 49

-- its gate is open, and the bytes ahead of the image, or of its hash, are there
pub record IsOpen (file : List ℕ) : Type 0 where
  pub long : head_len ≤ length file
  pub gate : slice_index file 0 ≡ 1

-- ---- the format

-- the top bit of a word of 8 bytes
unfoldable pub top_bit : ℕ
top_bit = 2 ^ 63

-- the word of the epoch
abbrev pub word_in : List ℕ → ℕ
word_in file = big_number 8 (take 8 (drop 1 file))

-- 1, or 2 where the top bit is set
unfoldable pub format_of : (word : ℕ) → ℕ
format_of word = if nat_lt word top_bit then 1 else 2

-- the word without its top bit
unfoldable pub epoch_of : (word : ℕ) → ℕ
epoch_of word = word % top_bit

-- where an image begins
unfoldable pub image_offset : (format : ℕ) → ℕ
image_offset format = if nat_eq format 2 then head_len + 32 else head_len

-- ---- the fields

abbrev pub format_in : List ℕ → ℕ
format_in file = format_of (word_in file)

abbrev pub epoch_in : List ℕ → ℕ
epoch_in file = epoch_of (word_in file)

abbrev pub network_in : List ℕ → Hash
network_in file = record { 0 = take 32 (drop 9 file) }

abbrev pub length_in : List ℕ → ℕ
length_in file = big_number 8 (take 8 (drop 41 file))

-- SHA-256 of the image, in format 2
abbrev pub digest_in : List ℕ → List ℕ
digest_in file = take 32 (drop head_len file)

abbrev pub image_in : List ℕ → List ℕ
image_in file = drop (image_offset (format_in file)) file

-- ---- the form

-- the epoch is one of this file's, and no store of format 1 has the last one
pub record IsNumbered (number : ℕ) (file : List ℕ) : Type 0 where
  pub parity : epoch_in file % 2 ≡ number
  pub low : format_in file ≡ 1 → epoch_in file + 1 < top_bit

-- the length is the file's
abbrev pub IsSized : List ℕ → Type 0
IsSized file = length file ≡ image_offset (format_in file) + length_in file

-- in format 2 the hash is the image's
abbrev pub IsHashed : List ℕ → Type 0
IsHashed file = format_in file ≡ 2 → digest_in file ≡ sha256 (image_in file)

pub record IsFormed (number : ℕ) (file : List ℕ) : Type 0 where
  pub numbered : IsNumbered number file
  pub sized : IsSized file
  pub hashed : IsHashed file

-- a start image and nothing after it
abbrev pub IsImage : List ℕ → StartImage → Type 0
IsImage bytes image = (end : Position) × (start_image.read (start_of bytes) ≡ Ok (image, end)) × (end.rest ≡ [])

-- what is written after the gate, in format 2
abbrev pub after_gate : (epoch : ℕ) (network bytes : List ℕ) → List ℕ
after_gate epoch network bytes =
    big_bytes 8 (top_bit + epoch) ++ network ++ big_bytes 8 (length bytes) ++ sha256 bytes ++ bytes
