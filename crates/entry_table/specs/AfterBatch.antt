-- The entries that a batch leaves of others: without what is gone, and with what is new or changed.
use Rattle.std.specs.Prelude.{List, [], ◌∷◌}
use Rattle.ledger_types.specs.declared.key.LedgerKey.{LedgerKey}
use Rattle.ledger_types.specs.declared.entry.LedgerEntry.{LedgerEntry}
use Rattle.entry_map.specs.EntryMap.{EntryMap, put, erase}
use Rattle.entry_map.specs.declared.batch.Batch.{Batch}

abbrev pub all_put : EntryMap → List LedgerEntry → EntryMap
all_put m [] = m
all_put m (e ∷ es) = put (all_put m es) e

abbrev pub all_erased : EntryMap → List LedgerKey → EntryMap
all_erased m [] = m
all_erased m (k ∷ ks) = erase (all_erased m ks) k

unfoldable pub after_batch : EntryMap → Batch → EntryMap
after_batch before batch = all_put (all_put (all_erased before batch.dead) batch.init) batch.live
