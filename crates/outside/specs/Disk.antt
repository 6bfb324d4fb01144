-- A volume as a disk that may lose power: what it reads, and what a crash may leave of it. Between two syncs a crash
-- may leave any bytes in what was written or cut since, and any length between the least and the greatest since.
use Rattle.std.specs.Prelude.{◌≡◌, ◌≢◌, ℕ, ◌+◌, ◌≤◌, min, max, List, [], ◌++◌, length, take, drop, ◌⊎◌}

-- the bytes of each file, by its number
abbrev pub Image : Type 0
Image = ℕ → List ℕ

pub record Disk : Type 1 where
  -- what a read gives
  pub reads : Image
  -- what a crash now may leave
  pub may_leave : Image → Type 0
  -- the clock: a number that doesn't fall
  pub moment : ℕ
  -- what a crash at some moment from that one on might have left, during a call or between two
  pub left_since : ℕ → Image → Type 0

-- Time goes on: what a crash may leave now is in this relation to what one might have left before, and a crash
-- since an earlier moment might have left what one before might have left, or such an image.
pub record Runs (step : Image → Image → Type 0) (old new : Disk) : Type 0 where
  pub later : old.moment ≤ new.moment
  pub crash : (c : Image) → new.may_leave c → (d : Image) × old.may_leave d × step d c
  pub since : (t : ℕ) (c : Image) → t ≤ old.moment → new.left_since t c
      → old.left_since t c ⊎ ((d : Image) × old.may_leave d × step d c)
  pub keeps : (t : ℕ) (c : Image) → t ≤ old.moment → old.left_since t c → new.left_since t c

abbrev pub Same : Image → Image → Type 0
Same d c = c ≡ d

-- nothing is changed, but that time may go on
pub record Stays (old new : Disk) : Type 0 where
  pub runs : Runs Same old new
  pub reads : new.reads ≡ old.reads

-- a crash leaves what is read
abbrev pub IsSafe : Disk → Type 0
IsSafe disk = (c : Image) → disk.may_leave c → c ≡ disk.reads

-- ---- one file

-- this file is changed so, and the others stay as they are
pub record InFile (file : ℕ) (change : List ℕ → List ℕ → Type 0) (d c : Image) : Type 0 where
  pub here : change (d file) (c file)
  pub others : (k : ℕ) → k ≢ file → c k ≡ d k

-- a file that a piece was written into, from an offset within it on or at its end
abbrev pub Wrote : (at : ℕ) (piece old new : List ℕ) → Type 0
Wrote at piece old new = new ≡ take at old ++ piece ++ drop (at + length piece) old

-- what a crash may leave of a write of n bytes: any bytes in its range and after the old end, and a length up to its
-- end
pub record Torn (at n : ℕ) (d c : List ℕ) : Type 0 where
  pub before : take (min at (length d)) c ≡ take (min at (length d)) d
  pub after : drop (at + n) c ≡ drop (at + n) d
  pub no_shorter : length d ≤ length c
  pub no_longer : length c ≤ max (length d) (at + n)

-- what a crash may leave of a cut to n bytes: any bytes after them, and a length down to n
pub record CutShort (n : ℕ) (d c : List ℕ) : Type 0 where
  pub before : take (min n (length d)) c ≡ take (min n (length d)) d
  pub no_shorter : min n (length d) ≤ length c
  pub no_longer : length c ≤ length d

-- of a volume that reports nothing
abbrev pub untold : Disk
untold = record { reads = λ _. []; may_leave = λ _. ⊥; moment = 0; left_since = λ _ _. ⊥ }
