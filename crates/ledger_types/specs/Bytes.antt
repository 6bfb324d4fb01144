-- Bytes: how they compare, and how at most 64 of them lie in an array of 64.
use Rattle.std.specs.Prelude.{◌≡◌, ℕ, ◌-◌, ◌≤◌, List, ◌++◌, length, drop, replicate}
use Rattle.std.specs.declared.cmp.Ordering.{Ordering}
use Rattle.std.specs.Ordering.{nat_cmp}
use Rattle.std.specs.Cmp.Lexicographic.{slice_cmp}
use Rattle.item_list.specs.Bytes.{IsBytes}

-- Bytes are compared one by one, and where one text begins another, the shorter one comes first.
abbrev pub bytes_cmp : List ℕ → List ℕ → Ordering
bytes_cmp a b = slice_cmp nat_cmp a b

-- at most 64 bytes, with zeros after them up to 64
abbrev pub padded : List ℕ → List ℕ
padded text = text ++ replicate (64 - length text) 0

-- an array of 64 bytes, of which the first `len` count and the others are zero
pub record IsPadded (array : List ℕ) (len : ℕ) : Type 0 where
  pub fits : len ≤ 64
  pub full : length array ≡ 64
  pub zeros : drop len array ≡ replicate (64 - len) 0
  pub bytes : IsBytes array
