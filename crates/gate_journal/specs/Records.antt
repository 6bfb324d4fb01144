-- What a file of records holds: blocks of a gate, a length of 32 bits and as many bytes, from offset 0 on, while the
-- gate is open (1). After them is one more gate, which isn't open; whatever follows that one is nothing.
use Rattle.std.specs.Prelude.{◌≡◌, ◌≢◌, ℕ, ◌≤◌, List, [], ◌∷◌, ◌++◌, length, take, drop, ◌+◌, All, flat_map}
use Rattle.byteorder.specs.Endian.{big_bytes}

-- the most bytes of a record
abbrev pub max_record : ℕ
max_record = 16777216

-- an open gate, the length, the bytes
abbrev pub block : List ℕ → List ℕ
block bytes = 1 ∷ big_bytes 4 (length bytes) ++ bytes

abbrev pub blocks : List (List ℕ) → List ℕ
blocks records = flat_map block records

-- these records are at the start, and this after them
pub record BeginWith (file : List ℕ) (records : List (List ℕ)) (following : List ℕ) : Type 0 where
  pub cut : file ≡ blocks records ++ following
  pub short : All (λ bytes. length bytes ≤ max_record) records

-- a gate that isn't open
abbrev pub IsShut : List ℕ → Type 0
IsShut [] = ⊥
IsShut (gate ∷ following) = gate ≢ 1

-- no gate, or an open one whose record is cut short or too long
abbrev pub IsBroken : List ℕ → Type 0
IsBroken [] = Unit {0}
IsBroken (gate ∷ following) =
    (gate ≡ 1) × ((bytes more : List ℕ) → length bytes ≤ max_record → gate ∷ following ≡ block bytes ++ more → ⊥)

-- the file is a journal of these records
abbrev pub HasRecords : (file : List ℕ) → (records : List (List ℕ)) → Type 0
HasRecords file records = (following : List ℕ) × BeginWith file records following × IsShut following

-- the file is none, for what is at this offset
abbrev pub HasNoRecords : (file : List ℕ) → (offset : ℕ) → Type 0
HasNoRecords file offset =
    (records : List (List ℕ)) × (following : List ℕ) × BeginWith file records following × IsBroken following
    × (offset ≡ length (blocks records))

-- ---- a record that is appended

-- what is written after the gate: the length, the bytes and a closed gate
abbrev pub framed : List ℕ → List ℕ
framed bytes = big_bytes 4 (length bytes) ++ bytes ++ 0 ∷ []

-- the file with a record at this offset, a closed gate after it, and the rest of what was there
abbrev pub Appended : (offset : ℕ) (bytes : List ℕ) (old new : List ℕ) → Type 0
Appended offset bytes old new = new ≡ take offset old ++ block bytes ++ 0 ∷ drop (offset + length bytes + 6) old
