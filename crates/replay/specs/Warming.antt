-- The pages that are taken after a close.
use Rattle.std.specs.Prelude.{◌≡◌, ℕ, List, ◌++◌, map, take}
use Rattle.ledger_types.specs.declared.key.LedgerKey.{LedgerKey}
use Rattle.ledger_types.specs.Keys.{key_of}
use Rattle.stored_outcome.specs.entry_sums.entry_map.declared.batch.Batch.{Batch}
use Rattle.worker_merges.specs.ledger_close.States.{PreparedAt}
use Rattle.worker_merges.specs.ledger_close.page_cache.Pages.{CacheAt}
use Rattle.worker_merges.specs.ledger_close.page_cache.Caches.{AreMoved, all_warmed}

-- the keys of what is new, and then of what is changed
abbrev pub changed_keys : Batch → List LedgerKey
changed_keys batch = map key_of batch.init ++ map key_of batch.live

-- the pages of so many keys were taken, in their order
abbrev pub IsPartlyWarmed : List LedgerKey → (old new : List CacheAt) → Type 0
IsPartlyWarmed keys old new = (done : ℕ) × (new ≡ all_warmed (take done keys) old)

-- the ledger took a close, and then the pages of what that changed
pub record IsWarmedAfter (prepared : PreparedAt) (old new : List CacheAt) : Type 0 where
  pub closed : List CacheAt
  pub moved : AreMoved prepared.state.header.ledger_seq prepared.state.levels old closed
  pub warmed : IsPartlyWarmed (changed_keys prepared.batch) closed new
