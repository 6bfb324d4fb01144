-- The file that values are encoded in, one after another, each after its record mark.
use Rattle.std.specs.Prelude.{ℕ, ◌+◌, ◌≤◌, List, [], ◌∷◌, ◌++◌, length}
use Rattle.xdr_core.specs.Leaves.{mark}
use Rattle.xdr_core.specs.Xdr.{Xdr}
use Rattle.archive_files.specs.Records.{max_record_len, fact_at, HasFacts}

-- a value's encoding after its record mark
abbrev pub record_of : {V : Type 0} → Xdr V → V → List ℕ
record_of f v = (mark max_record_len).encoding (f.encoding v)

abbrev pub file_of : {V : Type 0} → Xdr V → List V → List ℕ
file_of f [] = []
file_of f (v ∷ vs) = record_of f v ++ file_of f vs

-- a value that has an encoding, no longer than a record mark can state
pub record IsEncodable {V : Type 0} (f : Xdr V) (v : V) : Type 0 where
  pub within : f.within v
  pub sized : f.sized v
  pub short : length (f.encoding v) ≤ max_record_len

abbrev pub AreEncodable : {V : Type 0} → Xdr V → List V → Type 0
AreEncodable f [] = Unit {0}
AreEncodable f (v ∷ vs) = IsEncodable f v × AreEncodable f vs

-- the facts of the records of these values, of which the first has its mark at an offset
abbrev pub facts_of : {V X : Type 0} → Xdr V → (ℕ → V → X) → ℕ → List V → List X
facts_of f fact_of at [] = []
facts_of f fact_of at (v ∷ vs) = fact_of at v ∷ facts_of f fact_of (at + length (record_of f v)) vs

-- the file of values is read as just these values
abbrev pub FilesAreRead : {V X : Type 0} → Xdr V → (ℕ → V → X) → Type 0
FilesAreRead {V} f fact_of = (vs : List V) → AreEncodable f vs
    → HasFacts (fact_at f fact_of) (file_of f vs) (facts_of f fact_of 0 vs)
