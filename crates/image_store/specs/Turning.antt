-- What the parts of a turn to another epoch leave, and what a crash may leave of them.
use Rattle.std.specs.Prelude.{◌≡◌, ◌≢◌, ℕ, ◌+◌, List, [], ◌∷◌, ◌++◌, take, drop, replicate, ◌⊎◌}
use Rattle.outside.specs.Disk.{Image}
use Rattle.image_store.specs.ImageFiles.{IsOpen}

-- room for an image's length and hash, before they are known
unfoldable pub room : List ℕ
room = replicate 40 0

-- the file is as it was, or no image is open in it
abbrev pub IsSameOrNotOpen : List ℕ → List ℕ → Type 0
IsSameOrNotOpen old new = (new ≡ old) ⊎ (IsOpen new → ⊥)

-- the file keeps its gate
abbrev pub HasSameGate : List ℕ → List ℕ → Type 0
HasSameGate old new = take 1 new ≡ take 1 old

-- and this follows it
abbrev pub HasPiece : (piece : List ℕ) → List ℕ → List ℕ → Type 0
HasPiece piece old new = new ≡ take 1 old ++ piece

-- the file has an open gate in the place of its gate
abbrev pub IsOpened : List ℕ → List ℕ → Type 0
IsOpened old new = new ≡ 1 ∷ drop 1 old

-- the image file has this after an open gate, and the journal is one without records
pub record HasTurned (number : ℕ) (piece : List ℕ) (c : Image) : Type 0 where
  pub image : c number ≡ 1 ∷ piece
  pub journal : c (2 + number) ≡ 0 ∷ []

-- what a crash may leave of a turn: this image file as it was, or not open, or all that the turn leaves; and the files
-- of the other epoch as they were
pub record IsTurning (number : ℕ) (piece : List ℕ) (d c : Image) : Type 0 where
  pub here : IsSameOrNotOpen (d number) (c number) ⊎ HasTurned number piece c
  pub others : (file : ℕ) → file ≢ number → file ≢ 2 + number → c file ≡ d file

-- what a turn leaves
pub record IsTurned (number : ℕ) (piece : List ℕ) (d c : Image) : Type 0 where
  pub here : HasTurned number piece c
  pub others : (file : ℕ) → file ≢ number → file ≢ 2 + number → c file ≡ d file
