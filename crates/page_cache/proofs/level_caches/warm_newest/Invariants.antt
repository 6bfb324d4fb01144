use Rattle.std.proofs.Common.{◌≡◌, take}
use Rattle.ledger_types.specs.declared.key.LedgerKey.{LedgerKey}
use Rattle.page_cache.specs.Sought.{IsSought}
use Rattle.page_cache.proofs.Warmings.{AreSilent}
use Rattle.page_cache.proofs.level_caches.warm_newest.Given as goal

-- the files so far have no mark of the key
abbrev pub invariant-loop-i : goal.invariant-loop-i
invariant-loop-i l = record {
  same : l.caches ≡ l.fn.caches;
  silent : (k : LedgerKey) → IsSought k l.sought → AreSilent k (take l.i l.fn.caches);
}
