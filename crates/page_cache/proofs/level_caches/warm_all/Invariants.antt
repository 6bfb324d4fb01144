use Rattle.std.proofs.Common.{◌≡◌, take}
use Rattle.page_cache.specs.Caches.{all_warmed, contents_in, marked_count}
use Rattle.page_cache.proofs.level_caches.warm_all.Given as goal

-- the keys so far
abbrev pub invariant-loop-key : goal.invariant-loop-key
invariant-loop-key l = record {
  pages : l.caches ≡ all_warmed (take l.key-index l.keys) l.fn.caches;
  count : l.count ≡ marked_count (contents_in l.fn.caches) (take l.key-index l.keys);
}
