-- What `history` writes of closes: three files of an archive, behind the hash of the start header and the number of the
-- first ledger.
use Rattle.std.specs.Prelude.{◌≡◌, ℕ, ◌+◌, List, [], ◌∷◌, map}
use Rattle.archive_files.specs.declared.closed.Closed.{Closed}
use Rattle.archive_files.specs.declared.history.History.{History}
use Rattle.archive_files.specs.declared.form.StatedHistory.{StatedHistory}
use Rattle.archive_files.specs.Added.{added, no_closes, IsSmall, IsTooLarge}
use Rattle.archive_files.specs.Form.{stated_history}
use Rattle.close_rules.specs.value_hashes.Hashes.{ledger_hash_of}
use Rattle.close_rules.specs.State.{ClosingState}
use Rattle.close_rules.specs.Close.{result_set}
use Rattle.run_outcome.specs.Closes.{RecordClose}
use Rattle.run_outcome.specs.FileRun.{FileKind, refused_with}

-- the header, the set and the results of a close
abbrev pub closed_of : RecordClose → Closed
closed_of c =
    record { header = c.closed.state.header; set = c.closing.tx_set; results = result_set c.closed.results }

-- the files with the records of closes at their ends, one close after another
abbrev pub files_with : History → List RecordClose → History
files_with h [] = h
files_with h (c ∷ closes) = files_with (added h (closed_of c)) closes

abbrev pub files_of : List RecordClose → History
files_of closes = files_with no_closes closes

-- none of the files is too long after any of the closes
abbrev pub AreSmallWith : History → List RecordClose → Type 0
AreSmallWith h [] = Unit {0}
AreSmallWith h (c ∷ closes) = IsSmall (added h (closed_of c)) × AreSmallWith (added h (closed_of c)) closes

abbrev pub history_after : ClosingState → List RecordClose → StatedHistory
history_after start closes = record {
  before = ledger_hash_of start.header;
  first = start.header.ledger_seq + 1;
  history = files_of closes;
}

abbrev pub history_file : FileKind
history_file = record {
  IsText = λ start closes text. text ≡ stated_history.encoding (history_after start closes);
  AreSmall = AreSmallWith no_closes;
  IsTooLarge = λ closes c. IsTooLarge (added (files_of closes) (closed_of c));
  refused = refused_with;
}
