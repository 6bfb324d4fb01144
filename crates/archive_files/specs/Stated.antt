-- A history as pieces of its text, and where it ends there.
use Rattle.std.specs.Prelude.{◌≡◌, ℕ, List, Result, Ok, Err}
use Rattle.xdr_core.specs.declared.fault.XdrFault.{XdrFault}
use Rattle.xdr_core.specs.Position.{Position, start_of}
use Rattle.archive_files.specs.declared.form.Pieces.{Pieces}
use Rattle.archive_files.specs.declared.form.StatedHistory.{StatedHistory}
use Rattle.archive_files.specs.Form.{stated_history}

abbrev pub stated_in : Pieces → StatedHistory
stated_in pieces = record {
  before = pieces.before;
  first = pieces.first;
  history = record { headers = pieces.headers.now; sets = pieces.sets.now; results = pieces.results.now };
}

-- what was read at the start of a text ends at this offset
pub record StatedEnd (text : List ℕ) (end : ℕ) : Type 0 where
  pub stated : StatedHistory
  pub after : Position
  pub reads : stated_history.read (start_of text) ≡ Ok (stated, after)
  pub is : end ≡ after.at

-- the offset of its end, or the first fault
abbrev pub IsStatedLength : List ℕ → Result ℕ XdrFault → Type 0
IsStatedLength text (Ok end) = StatedEnd text end
IsStatedLength text (Err wrong) = stated_history.read (start_of text) ≡ Err wrong
