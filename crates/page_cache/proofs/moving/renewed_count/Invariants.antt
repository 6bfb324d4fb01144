use Rattle.std.proofs.Common.{◌≡◌, ◌≤◌, ◌<◌, ◌-◌, ℕ, true}
use Rattle.page_cache.specs.Caches.{takes_curr}
use Rattle.page_cache.proofs.moving.renewed_count.Given as goal

abbrev pub invariant-loop-count : goal.invariant-loop-count
invariant-loop-count l = record {
  some : 1 ≤ l.count;
  most : l.count ≤ 11;
  new : (i : ℕ) → i < l.count → takes_curr i l.seq ≡ true;
}

abbrev pub decreases-loop-count : goal.decreases-loop-count
decreases-loop-count l = 11 - l.count
