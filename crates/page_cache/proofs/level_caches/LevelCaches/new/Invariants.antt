use Rattle.std.proofs.Common.{◌≡◌, map, take}
use Rattle.bucket_levels.specs.Levels.{pair_of}
use Rattle.bucket_levels.specs.Meaning.{files_of}
use Rattle.page_cache.specs.Caches.{no_pages}
use Rattle.page_cache.proofs.level_caches.LevelCaches.new.Given as goal

-- the caches of the levels so far
abbrev pub invariant-loop-pair : goal.invariant-loop-pair
invariant-loop-pair l = l.caches.items ≡ map no_pages (files_of (map pair_of (take l.pair-index l.pairs)))
