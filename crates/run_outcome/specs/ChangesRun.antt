-- What `changes` writes of closes: each change of each close after its record mark.
use Rattle.std.specs.Prelude.{◌≡◌, ℕ, List, [], ◌∷◌, ◌++◌}
use Rattle.std.specs.List.{flat_map}
use Rattle.close_rules.specs.entry_sums.entry_map.declared.batch.Batch.{Batch}
use Rattle.close_rules.specs.entry_sums.entry_map.EntryMap.{EntryMap}
use Rattle.close_rules.specs.entry_sums.entry_map.Batch.{IsBatch}
use Rattle.archive_files.specs.Encoded.{record_of}
use Rattle.change_stream.specs.declared.change.Change.{Change}
use Rattle.change_stream.specs.Changes.{AreChangesOf}
use Rattle.change_stream.specs.Grammar.{one_change}
use Rattle.run_outcome.specs.Closes.{RecordClose}
use Rattle.run_outcome.specs.FileRun.{FileKind, refused_with}

-- the changes from a map to another one, each once, in the order of their keys
abbrev pub AreChangesBetween : (before after : EntryMap) → List Change → Type 0
AreChangesBetween before after changes =
    (batch : Batch) × IsBatch before after batch × AreChangesOf before batch changes

-- those of a close
abbrev pub AreChangesIn : RecordClose → List Change → Type 0
AreChangesIn c changes = AreChangesBetween c.before.entries c.closed.state.entries changes

abbrev pub change_records : List Change → List ℕ
change_records changes = flat_map (record_of one_change) changes

-- the changes of closes, one close after another
abbrev pub IsTextOfChanges : List RecordClose → List ℕ → Type 0
IsTextOfChanges [] text = text ≡ []
IsTextOfChanges (c ∷ closes) text =
    (changes : List Change) × (more : List ℕ) × AreChangesIn c changes × IsTextOfChanges closes more
    × (text ≡ change_records changes ++ more)

-- no close is too large for it
abbrev pub changes_file : FileKind
changes_file = record {
  IsText = λ start closes text. IsTextOfChanges closes text;
  AreSmall = λ closes. Unit {0};
  IsTooLarge = λ closes c. ⊥;
  refused = refused_with;
}
