-- What a file holds is determined in one way.
use Rattle.std.specs.Prelude.{◌≡◌, ℕ, List}
use Rattle.gate_journal.specs.Records.{HasRecords, HasNoRecords}

-- a file is a journal of at most one list of records
abbrev pub RecordsAreOne : Type 0
RecordsAreOne = (file : List ℕ) (records others : List (List ℕ)) → HasRecords file records → HasRecords file others
    → records ≡ others

-- it is none for what is at one offset
abbrev pub OffsetsAreOne : Type 0
OffsetsAreOne = (file : List ℕ) (offset other : ℕ) → HasNoRecords file offset → HasNoRecords file other → offset ≡ other

-- and never both
abbrev pub NeverBoth : Type 0
NeverBoth = (file : List ℕ) (records : List (List ℕ)) (offset : ℕ) → HasRecords file records
    → HasNoRecords file offset → ⊥
