-- How many bytes the files of levels have.
use Rattle.std.specs.Prelude.{ℕ, ◌+◌, List, length}
use Rattle.std.specs.List.{sum_by}
use Rattle.bucket_core.specs.File.{file_of}
use Rattle.bucket_levels.specs.Pairs.{Pair}

abbrev pub pair_size : Pair → ℕ
pair_size pair = length (file_of pair.curr) + length (file_of pair.snap)

unfoldable pub file_total : List Pair → ℕ
file_total pairs = sum_by pair_size pairs
