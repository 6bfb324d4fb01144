use Rattle.std.proofs.Common.{map}
use Rattle.bucket_levels.specs.Levels.{pair_of}
use Rattle.bucket_levels.specs.Meaning.{files_of}
use Rattle.level_pages.specs.Above.{count_above, key_at}
use Rattle.level_pages.proofs.Afters.{IsOnWay}
use Rattle.level_pages.proofs.after.entry_after.Given as goal

abbrev pub invariant-loop-item : goal.invariant-loop-item
invariant-loop-item l = IsOnWay (map pair_of l.pairs) l.text l.at

abbrev pub decreases-loop-item : goal.decreases-loop-item
decreases-loop-item l = count_above (key_at l.at) (files_of (map pair_of l.pairs))
