-- What is read of one record.
use Rattle.std.specs.Prelude.{◌≡◌, ℕ, ◌+◌, ◌≤◌, List, ◌∷◌, ◌++◌, length, drop, Bool, true, false, Result, Ok, Err}
use Rattle.std.specs.Prelude.{Option, Some, None}
use Rattle.byteorder.specs.Endian.{big_bytes}
use Rattle.gate_journal.specs.Records.{max_record, block, blocks, IsShut, IsBroken, HasRecords, HasNoRecords}
use Rattle.gate_journal.specs.Calls.{IsMountFault}
use Rattle.gate_journal.specs.declared.fault.StoreFault.{StoreFault}
use Rattle.gate_journal.specs.declared.fault.StoreFault.TheVariants as fault

-- the count of faults never falls, and a fault has its cause
abbrev pub HasReadCause : {T : Type 0} → (before now : ℕ) → Result T StoreFault → Type 0
HasReadCause before now (Ok value) = before ≤ now
HasReadCause before now (Err wrong) = (before ≤ now) × IsMountFault before now wrong

-- what is there from a gate on: it is open
abbrev pub IsOpen : List ℕ → Type 0
IsOpen rest = rest ≡ 1 ∷ drop 1 rest

-- the fault says that what is there from this offset on is broken
abbrev pub ReportsBroken : (file offset : ℕ) (rest : List ℕ) → StoreFault → Type 0
ReportsBroken file offset rest (fault.BadStore bad at) = (bad ≡ file) × (at ≡ offset) × IsBroken rest
ReportsBroken file offset rest other = Unit {0}

-- the fault says nothing of what is there
abbrev pub ReportsNothing : StoreFault → Type 0
ReportsNothing (fault.BadStore bad at) = ⊥
ReportsNothing other = Unit {0}

-- what is said of the gate at an offset
abbrev pub ReportsGate : (file offset : ℕ) (rest : List ℕ) → Result Bool StoreFault → Type 0
ReportsGate file offset rest (Ok true) = IsOpen rest
ReportsGate file offset rest (Ok false) = IsShut rest
ReportsGate file offset rest (Err wrong) = ReportsBroken file offset rest wrong

-- of the length after an open gate
abbrev pub ReportsLength : (file offset : ℕ) (rest : List ℕ) → Result ℕ StoreFault → Type 0
ReportsLength file offset rest (Ok count) = rest ≡ (1 ∷ big_bytes 4 count) ++ drop 5 rest
ReportsLength file offset rest (Err wrong) = ReportsBroken file offset rest wrong

-- of a record
abbrev pub ReportsRecord : (file offset : ℕ) (rest : List ℕ) → Result (Option (List ℕ)) StoreFault → Type 0
ReportsRecord file offset rest (Ok None) = IsShut rest
ReportsRecord file offset rest (Ok (Some bytes)) = (length bytes ≤ max_record)
    × (rest ≡ block bytes ++ drop (5 + length bytes) rest)
ReportsRecord file offset rest (Err wrong) = ReportsBroken file offset rest wrong

-- of all records, up to the gate after them
abbrev pub ReportsRecords : (file : ℕ) (bytes : List ℕ) → Result (List (List ℕ) × ℕ) StoreFault → Type 0
ReportsRecords file bytes (Ok found) = HasRecords bytes found.0 × (found.1 ≡ length (blocks found.0))
ReportsRecords file bytes (Err (fault.BadStore bad offset)) = (bad ≡ file) × HasNoRecords bytes offset
ReportsRecords file bytes (Err other) = Unit {0}
