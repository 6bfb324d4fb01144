use Rattle.std.proofs.Common.{◌≡◌, map, take}
use Rattle.bucket_levels.specs.Levels.{pair_of}
use Rattle.bucket_levels.specs.Pairs.{Pair}
use Rattle.page_cache.specs.Caches.{no_pages}
use Rattle.page_cache.proofs.moving.new_caches.Given as goal

-- the caches of the currs so far
abbrev pub invariant-loop-level : goal.invariant-loop-level
invariant-loop-level l =
    l.caches.items ≡ map (λ (p : Pair). no_pages p.curr) (take l.level (map pair_of l.pairs))
