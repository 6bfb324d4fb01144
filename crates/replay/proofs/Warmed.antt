-- Pages that are taken after a close.
use Rattle.replay.proofs.Prelude.{◌≡◌, ◌∙◌, ◌≤◌, ℕ, List, Ok, Err, refl, sym, ap, subst, arith, length, take}
use Rattle.std.proofs.lemmas.List.{take_all}
use Rattle.std.specs.Prelude.{Result}
use Rattle.std.specs.declared.alloc.AllocError.{AllocError}
use Rattle.ledger_types.specs.declared.key.LedgerKey.{LedgerKey}
use Rattle.worker_merges.specs.ledger_close.States.{PreparedAt}
use Rattle.worker_merges.specs.ledger_close.page_cache.Pages.{CacheAt}
use Rattle.worker_merges.specs.ledger_close.page_cache.Caches.{AreMoved, AreWarmed, all_warmed}
use Rattle.replay.specs.Warming.{IsPartlyWarmed, IsWarmedAfter, changed_keys}

-- whatever the ledger answers, the pages of some keys were taken
pub partly_warmed : (keys : List LedgerKey) (old new : List CacheAt) (r : Result ℕ AllocError)
    → AreWarmed keys old r new → IsPartlyWarmed keys old new
partly_warmed keys old new (Ok n) warm = (
  length keys,
  warm.0
      ∙ ap (λ (ks : List LedgerKey). all_warmed ks old) (sym (take_all (length keys) keys (omega arith))),
)
partly_warmed keys old new (Err e) warm = (warm.0, warm.2)

pub none_warmed : (keys : List LedgerKey) (old : List CacheAt) → IsPartlyWarmed keys old old
none_warmed keys old = (0, refl)

-- the pages were taken after the close
pub warmed_after : (prepared : PreparedAt) (keys : List LedgerKey) (old closed before new : List CacheAt)
    → AreMoved prepared.state.header.ledger_seq prepared.state.levels old closed → before ≡ closed
    → keys ≡ changed_keys prepared.batch → IsPartlyWarmed keys before new → IsWarmedAfter prepared old new
warmed_after prepared keys old closed before new moved same are warmed = record {
  closed = closed;
  moved = moved;
  warmed = (warmed.0, warmed.1 ∙ (λ t. all_warmed (take warmed.0 (are t)) (same t)));
}
