-- Pools among the entries of a ledger.
use Rattle.std.specs.Prelude.{Option, Some, None, option_map}
use Rattle.std.specs.FinMap.{get}
use Rattle.entry_map.specs.ledger_types.declared.ids.Hash.{Hash}
use Rattle.entry_map.specs.ledger_types.declared.liquidity_pool.LiquidityPoolEntry.{LiquidityPoolEntry}
use Rattle.entry_map.specs.ledger_types.declared.entry.LedgerEntry.{LedgerEntry}
use Rattle.entry_map.specs.ledger_types.declared.entry.LedgerEntryBody.{LedgerEntryBody}
use Rattle.entry_map.specs.ledger_types.declared.entry.LedgerEntryBody.TheVariants as body
use Rattle.entry_map.specs.ledger_types.declared.key.LedgerKey.TheVariants as key
use Rattle.entry_map.specs.EntryMap.{EntryMap}
use Rattle.entry_slots.specs.EntryKinds.{EntryKind, entry_at, slot_in, slot_of, value_of, with_entry}
use Rattle.entry_slots.specs.declared.pools.PoolSlot.{PoolSlot}

-- a pool, where the body is one
abbrev pub pool_in : LedgerEntryBody → Option LiquidityPoolEntry
pool_in (body.LiquidityPool pool) = Some pool
pool_in other = None

abbrev pub pool_kind : EntryKind LiquidityPoolEntry
pool_kind = record { body_of = body.LiquidityPool; value_in = pool_in }

abbrev pub pool_of : Option LedgerEntry → Option LiquidityPoolEntry
pool_of found = value_of pool_kind found

-- the pool with this id, if it exists
unfoldable pub pool_at : EntryMap → Hash → Option LiquidityPoolEntry
pool_at m pool_id = entry_at pool_kind m (key.LiquidityPool pool_id)

-- ---- entries, taken apart

abbrev pub pool_slot : LedgerEntry → LiquidityPoolEntry → PoolSlot
pool_slot entry pool =
    record { last_modified_ledger_seq = entry.last_modified_ledger_seq; pool = pool; ext = entry.ext }

-- the parts of an entry, where it is that of a pool
abbrev pub pool_slot_in : LedgerEntry → Option PoolSlot
pool_slot_in entry = slot_in pool_kind pool_slot entry

abbrev pub pool_slot_at : EntryMap → Hash → Option PoolSlot
pool_slot_at m pool_id = slot_of pool_kind pool_slot (get m (key.LiquidityPool pool_id))

abbrev pub pool_of_slot : Option PoolSlot → Option LiquidityPoolEntry
pool_of_slot slot = option_map (λ s. s.pool) slot

abbrev pub entry_of_pool : PoolSlot → LedgerEntry
entry_of_pool slot =
    record {
      last_modified_ledger_seq = slot.last_modified_ledger_seq;
      body = body.LiquidityPool slot.pool;
      ext = slot.ext;
    }

-- ---- changes

-- the map, in which the pool with this id is changed; the rest of its entry stays
unfoldable pub with_pool : EntryMap → Hash → (LiquidityPoolEntry → LiquidityPoolEntry) → EntryMap
with_pool m pool_id change = with_entry pool_kind m (key.LiquidityPool pool_id) change
