-- A pool that exists in a legal state.
use Rattle.trade_cross.proofs.Prelude as prelude
use prelude.{◌≡◌, refl, sym, ap, subst, ◌∙◌, ℕ, Some, ℤ, get, Hash, LiquidityPoolEntry, key_of_body, EntryMap, put}
use prelude.{pool_at, pool_slot_at, pool_of_slot, entry_of_pool, with_pool, IsFilledOrEmpty, View, Owed, IsLegalOwing}
use prelude.{IsBodyInRange, IsPoolInRange, pool_entry, pool_slot, pools_exact, slot_entry, slot_value, with_found}
use Rattle.ledger_types.specs.declared.entry.LedgerEntryBody.TheVariants as body
use Rattle.ledger_types.specs.declared.key.LedgerKey.TheVariants as key
use Rattle.entry_slots.specs.declared.pools.PoolSlot.{PoolSlot}

pub record IsLegalPool (id : Hash) (p : LiquidityPoolEntry) : Type 0 where
  pub range : IsPoolInRange p
  pub filled : IsFilledOrEmpty (body.LiquidityPool p)
  pub own : p.pool_id ≡ id

pool_of_key : (id other : Hash) → key.LiquidityPool id ≡ key.LiquidityPool other → id ≡ other
pool_of_key id other same = cc

pub pool_legal : (v : View) (id_pool : ℕ) (owed : Owed) (sum : ℤ) (m : EntryMap) (id : Hash) (p : LiquidityPoolEntry)
    → IsLegalOwing v id_pool owed sum m → pool_at m id ≡ Some p → IsLegalPool id p
pool_legal v id_pool owed sum m id p legal exists =
    let found = pool_entry m id p exists in
    let is = found.1.is in
    let entry = legal.entries (key.LiquidityPool id) found.0 found.1.there in
    record {
      range = subst (IsBodyInRange id_pool) is entry.range.body;
      filled = subst IsFilledOrEmpty is entry.filled;
      own = pool_of_key p.pool_id id
          (sym (ap key_of_body is) ∙ legal.keyed (key.LiquidityPool id) found.0 found.1.there);
    }

-- ---- a pool that was loaded

pub pool_loaded : (m : EntryMap) (pool : Hash) (slot : PoolSlot) → Some slot ≡ pool_slot_at m pool
    → pool_at m pool ≡ Some slot.pool
unfolding pool_at
pool_loaded m pool slot is =
    slot_value pools_exact pool_slot (λ s. s.pool) (λ e p. refl) (get m (key.LiquidityPool pool))
    ∙ ap pool_of_slot (sym is)

module _ (m : EntryMap) (f : LiquidityPoolEntry → LiquidityPoolEntry) (slot : PoolSlot) where
  abbrev stored : PoolSlot → EntryMap
  stored s = put m (entry_of_pool (record s { pool = f s.pool }))

  -- the slot is stored with the pool changed
  pub pool_stored : (id : Hash) → Some slot ≡ pool_slot_at m id → with_pool m id f ≡ stored slot
  unfolding with_pool
  pool_stored id is =
      let found = slot_entry pools_exact pool_slot slot m (key.LiquidityPool id) is in
      with_found pools_exact m (key.LiquidityPool id) f found.1 found.0 found.2 ∙ ap stored (sym found.3)
