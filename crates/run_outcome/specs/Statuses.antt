-- The statuses of the program and their lines.
use Rattle.std.specs.Prelude.{ℕ, List, [], ◌∷◌, ◌++◌, codes}
use Rattle.std.specs.Fmt.{decimal}
use Rattle.close_rules.specs.RuleNumbers.{number_of}
use Rattle.run_outcome.specs.declared.status.Status.{Status}
use Rattle.run_outcome.specs.declared.status.Status.TheVariants as status

abbrev pub status_code : Status → ℕ
status_code status.Done = 0
status_code status.Usage = 2
status_code status.Refused = 3
status_code status.ReadFault = 4
status_code status.WriteFault = 5
status_code status.DiskFault = 6
status_code (status.BadStore file offset) = 7
status_code status.NoMemory = 8
status_code (status.BadInput at) = 9
status_code (status.BadImage rule) = 10
status_code status.Missing = 11
status_code status.AlreadyThere = 12
status_code status.TooLarge = 13

-- a line ends with a newline
abbrev pub ended_line : List ℕ → List ℕ
ended_line text = text ++ 10 ∷ []

-- the line on standard error, or nothing
abbrev pub status_line : Status → List ℕ
status_line status.Done = []
status_line status.Usage = ended_line (codes "usage")
status_line status.Refused = []
status_line status.ReadFault = ended_line (codes "read fault")
status_line status.WriteFault = ended_line (codes "write fault")
status_line status.DiskFault = ended_line (codes "disk fault")
status_line (status.BadStore file offset) = ended_line (codes "bad store at " ++ decimal file ++ 32 ∷ decimal offset)
status_line status.NoMemory = ended_line (codes "no memory")
status_line (status.BadInput at) = ended_line (codes "bad input at " ++ decimal at)
status_line (status.BadImage rule) = ended_line (codes "bad image rule " ++ decimal (number_of rule))
status_line status.Missing = ended_line (codes "missing")
status_line status.AlreadyThere = ended_line (codes "already there")
status_line status.TooLarge = ended_line (codes "too large")

-- the ends at which the output may stop before the text is complete
abbrev pub IsCutShort : Status → Type 0
IsCutShort status.ReadFault = Unit {0}
IsCutShort status.WriteFault = Unit {0}
IsCutShort status.DiskFault = Unit {0}
IsCutShort status.NoMemory = Unit {0}
IsCutShort other = ⊥

-- the ends of the records of a run: all is done, one is refused, the input is cut, or a device or memory failed
abbrev pub IsRecordsEnd : Status → Type 0
IsRecordsEnd status.Done = Unit {0}
IsRecordsEnd status.Refused = Unit {0}
IsRecordsEnd status.ReadFault = Unit {0}
IsRecordsEnd status.WriteFault = Unit {0}
IsRecordsEnd status.DiskFault = Unit {0}
IsRecordsEnd status.NoMemory = Unit {0}
IsRecordsEnd (status.BadInput at) = Unit {0}
IsRecordsEnd other = ⊥

-- the ends of `catchup`, which has no volume
abbrev pub IsCatchUpEnd : Status → Type 0
IsCatchUpEnd status.Done = Unit {0}
IsCatchUpEnd status.Refused = Unit {0}
IsCatchUpEnd status.ReadFault = Unit {0}
IsCatchUpEnd status.WriteFault = Unit {0}
IsCatchUpEnd status.NoMemory = Unit {0}
IsCatchUpEnd (status.BadInput at) = Unit {0}
IsCatchUpEnd (status.BadImage rule) = Unit {0}
IsCatchUpEnd other = ⊥
