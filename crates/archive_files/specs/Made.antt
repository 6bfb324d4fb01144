-- What the makers of a close's records answer.
use Rattle.std.specs.Prelude.{◌≡◌, ◌⊎◌, ◌<◌, List, ℕ, length, Result, Ok, Err}
use Rattle.archive_files.specs.declared.adding.AddCloseFault.{AddCloseFault}
use Rattle.archive_files.specs.declared.adding.AddCloseFault.TheVariants.{TooLarge, NoMemory}
use Rattle.archive_files.specs.declared.closed.Closed.{Closed}
use Rattle.archive_files.specs.declared.close_records.CloseRecords.{CloseRecords}
use Rattle.archive_files.specs.Added.{max_file_len, header_record, set_record, results_record}

-- a record was made; or it is longer than a file may be
abbrev pub IsMade : Result (List ℕ) AddCloseFault → List ℕ → Type 0
IsMade (Ok made) text = made ≡ text
IsMade (Err TooLarge) text = max_file_len < length text
IsMade (Err NoMemory) text = Unit {0}

-- the records of a close were made; or one of them is longer than a file may be
abbrev pub AreMade : Result CloseRecords AddCloseFault → Closed → Type 0
AreMade (Ok made) c = (made.header ≡ header_record c) × (made.set ≡ set_record c) × (made.results ≡ results_record c)
AreMade (Err TooLarge) c =
    (max_file_len < length (header_record c)) ⊎ (max_file_len < length (set_record c))
    ⊎ (max_file_len < length (results_record c))
AreMade (Err NoMemory) c = Unit {0}
