use Rattle.std.proofs.Common.{◌≡◌, map, take}
use Rattle.bucket_levels.specs.Levels.{pair_of}
use Rattle.level_pages.proofs.stored_entries.share_pairs.Given as goal

-- the files of the levels so far
abbrev pub invariant-loop-pair : goal.invariant-loop-pair
invariant-loop-pair l = map pair_of l.shared.items ≡ map pair_of (take l.pair-index l.pairs)
