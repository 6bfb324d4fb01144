-- One close more in the files of an archive.
use Rattle.std.specs.Prelude.{◌≡◌, Result, Ok, Err}
use Rattle.archive_files.specs.declared.closed.Closed.{Closed}
use Rattle.archive_files.specs.declared.history.History.{History}
use Rattle.archive_files.specs.Added.{added, IsSmall, IsTooLarge}
use Rattle.run_outcome.specs.declared.status.Status.{Status}
use Rattle.run_outcome.specs.declared.status.Status.TheVariants as status

-- the close was added; or a file would be too long; or memory was refused
abbrev pub IsAdded : History → Closed → Result (Unit {0}) Status → History → Type 0
IsAdded old c (Ok x) new = IsSmall (added old c) × (new ≡ added old c)
IsAdded old c (Err status.TooLarge) new = IsTooLarge (added old c)
IsAdded old c (Err status.NoMemory) new = Unit {0}
IsAdded old c (Err other) new = ⊥
