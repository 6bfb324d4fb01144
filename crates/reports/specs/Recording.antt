-- Changes that have records.
use Rattle.std.specs.Prelude.{ℕ, ◌≤◌, List, length, All, Contains}
use Rattle.archive_files.specs.Records.{max_record_len}
use Rattle.change_stream.specs.declared.change.Change.{Change}
use Rattle.change_stream.specs.Grammar.{one_change}

-- a change keeps the bounds of its format, and is no longer than a record mark can state
pub record IsRecordable (change : Change) : Type 0 where
  pub within : one_change.within change
  pub short : length (one_change.encoding change) ≤ max_record_len

abbrev pub AreRecordable : List Change → Type 0
AreRecordable changes = (change : Change) → Contains changes change → IsRecordable change
