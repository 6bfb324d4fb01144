-- What is said of levels: the entries that they represent, or that they are marked wrongly.
use Rattle.std.specs.Prelude.{List, Option, Some, None}
use Rattle.bucket_levels.specs.entry_map.EntryMap.{EntryMap}
use Rattle.bucket_levels.specs.Pairs.{Pair}
use Rattle.bucket_levels.specs.Meaning.{Represent, AreWellMarked}

abbrev pub IsJudgedBy : List Pair → Option EntryMap → Type 0
IsJudgedBy levels None = AreWellMarked levels → ⊥
IsJudgedBy levels (Some table) = AreWellMarked levels × Represent levels table
