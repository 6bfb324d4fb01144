-- A file of records, one after another, each after its record mark (RFC 5531, 11).
use Rattle.std.specs.Prelude.{◌≡◌, ◌≢◌, ℕ, ◌+◌, List, [], ◌∷◌, Result, Ok, Err}
use Rattle.xdr_core.specs.declared.fault.XdrFault.{XdrFault}
use Rattle.xdr_core.specs.declared.fault.XdrKind.TheVariants.{Trailing}
use Rattle.xdr_core.specs.Position.{Position, Reading, start_of, fault_at, ◌>>=◌}
use Rattle.xdr_core.specs.Leaves.{mark}
use Rattle.xdr_core.specs.Xdr.{Xdr}

-- the greatest length that a record mark can state
abbrev pub max_record_len : ℕ
max_record_len = 2147483647

-- what comes after the mark of a record
abbrev pub after_mark : Position → List ℕ → Position
after_mark p text = record { at = p.at + 4; rest = text }

-- the value where nothing follows it, or the fault at the first byte left over
abbrev pub ended_by : {V : Type 0} → List ℕ → Position → V → Result V XdrFault
ended_by [] q v = Ok v
ended_by (b ∷ rest) q v = Err (fault_at q Trailing)

abbrev pub ended : {V : Type 0} → V × Position → Result V XdrFault
ended x = ended_by x.1.rest x.1 x.0

-- a value that is all that is ahead
abbrev pub entire_at : {V : Type 0} → Xdr V → Position → Result V XdrFault
entire_at f p = f.read p >>= ended

-- The fact of the value in a record, which is made by the offset of the record's mark, and the position after the
-- record. Offsets are those of the whole file.
abbrev pub fact_in : {V X : Type 0} → Xdr V → (ℕ → V → X) → Position → List ℕ × Position → Reading XdrFault X
fact_in f fact_of p t = entire_at f (after_mark p t.0) >>= λ v. Ok (fact_of p.at v, t.1)

unfoldable pub fact_at : {V X : Type 0} → Xdr V → (ℕ → V → X) → Position → Reading XdrFault X
fact_at f fact_of p = (mark max_record_len).read p >>= fact_in f fact_of p

-- a value was read, and this is its fact
abbrev pub IsFactOf : {V X : Type 0} → Result V XdrFault → (V → X) → X → Type 0
IsFactOf {V} read fact_of x = (v : V) × (read ≡ Ok v) × (fact_of v ≡ x)

-- the records from p to q have these facts
abbrev pub AreFacts : {X : Type 0} → (Position → Reading XdrFault X) → List X → Position → Position → Type 0
AreFacts read [] p q = p ≡ q
AreFacts read (x ∷ xs) p q = (m : Position) × (read p ≡ Ok (x, m)) × AreFacts read xs m q

-- each record of the file is read, and they have these facts
pub record HasFacts {X : Type 0} (read : Position → Reading XdrFault X) (file : List ℕ) (xs : List X) : Type 0 where
  pub end : Position
  pub facts : AreFacts read xs (start_of file) end
  pub all : end.rest ≡ []

-- the first record that isn't read has this fault
pub record HasFault {X : Type 0} (read : Position → Reading XdrFault X) (file : List ℕ) (fault : XdrFault)
    : Type 0 where
  pub before : List X
  pub position : Position
  pub facts : AreFacts read before (start_of file) position
  pub more : position.rest ≢ []
  pub fails : read position ≡ Err fault
