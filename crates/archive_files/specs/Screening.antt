-- What is kept of records of transactions and of results while they are read.
use Rattle.std.specs.Prelude.{◌≡◌, ◌↔◌, ◌++◌, ℕ, List, [], ◌∷◌, Contains, Option, Some, None}
use Rattle.std.specs.List.Sorted.{IsNonDecreasing}
use Rattle.xdr_core.specs.declared.fault.XdrFault.{XdrFault}
use Rattle.xdr_core.specs.Position.{Position, Reading, start_of}
use Rattle.archive_files.specs.declared.facts.HeaderFact.{HeaderFact}
use Rattle.archive_files.specs.declared.facts.RecordFact.{RecordFact}
use Rattle.archive_files.specs.declared.screening.Screened.{Screened}
use Rattle.archive_files.specs.Chain.{numbers, IsAbove, AreInPlace, HasStray}
use Rattle.archive_files.specs.Records.{AreFacts, HasFacts}
use Rattle.archive_files.specs.Walk.{AreRising}

-- the headers' numbers, in ascending order
pub record AreNumbersOf (sorted : List ℕ) (heads : List HeaderFact) : Type 0 where
  pub ascending : IsNonDecreasing sorted
  pub same : (n : ℕ) → Contains sorted n ↔ Contains (numbers heads) n

-- a number above the one before it, and one of these
abbrev pub IsNumberInPlace : List ℕ → Option ℕ → ℕ → Type 0
IsNumberInPlace sorted before seq = IsAbove before seq × Contains sorted seq

-- the number of the last record, or the one before them all
abbrev pub last_number : Option ℕ → List RecordFact → Option ℕ
last_number before [] = before
last_number before (r ∷ rs) = last_number (Some r.seq) rs

-- what is kept rises, up to this number
pub record AreKept (facts : List RecordFact) (last : Option ℕ) : Type 0 where
  pub rising : AreRising None facts
  pub last_one : last ≡ last_number None facts

-- all records are kept, and none is stray; or the first stray one has its mark at this offset
abbrev pub AreScreenedTo : List HeaderFact → (all kept : List RecordFact) → Option ℕ → Type 0
AreScreenedTo heads all kept None = (kept ≡ all) × AreInPlace heads None all
AreScreenedTo heads all kept (Some at) = HasStray heads None all at

abbrev pub AreScreened : List HeaderFact → List RecordFact → Screened → Type 0
AreScreened heads all s = AreScreenedTo heads all s.facts.items s.stray

-- the records up to a position were screened
pub record AreScreenedUpTo (read : Position → Reading XdrFault RecordFact) (file : List ℕ) (p : Position)
    (sorted : List ℕ) (s : Screened) : Type 0 where
  pub all : List RecordFact
  pub facts : AreFacts read all (start_of file) p
  pub screened : (heads : List HeaderFact) → AreNumbersOf sorted heads → AreScreened heads all s

-- all records of a file were screened
pub record IsScreenedFile (read : Position → Reading XdrFault RecordFact) (file : List ℕ) (heads : List HeaderFact)
    (s : Screened) : Type 0 where
  pub all : List RecordFact
  pub facts : HasFacts read file all
  pub screened : AreScreened heads all s
