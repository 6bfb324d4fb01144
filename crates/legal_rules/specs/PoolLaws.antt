-- That pools which are made and removed keep a state legal (CAP-0038).
use Rattle.std.specs.Prelude.{◌≡◌, ℕ, pos, Some, None}
use Rattle.std.specs.FinMap.{get}
use Rattle.hash_ids.specs.ledger_types.declared.ids.Hash.{Hash}
use Rattle.hash_ids.specs.ledger_types.declared.liquidity_pool.LiquidityPoolEntry.{LiquidityPoolEntry}
use Rattle.hash_ids.specs.ledger_types.declared.header.LedgerHeader.{LedgerHeader}
use Rattle.hash_ids.specs.ledger_types.declared.entry.LedgerEntry.{LedgerEntry}
use Rattle.hash_ids.specs.ledger_types.declared.entry.LedgerEntryBody.TheVariants as body
use Rattle.hash_ids.specs.ledger_types.declared.key.LedgerKey.TheVariants as key
use Rattle.entry_sums.specs.entry_map.EntryMap.{EntryMap, put, erase}
use Rattle.sponsor_laws.specs.entry_slots.Pools.{pool_at}
use Rattle.legal_rules.specs.Ranges.{IsPoolInRange}
use Rattle.legal_rules.specs.Legal.{IsLegal}

abbrev pub new_pool : ℕ → LiquidityPoolEntry → LedgerEntry
new_pool seq pool = record { last_modified_ledger_seq = seq; body = body.LiquidityPool pool; ext = None }

-- a pool without reserves, shares and lines
pub record IsNewPool (pool : LiquidityPoolEntry) : Type 0 where
  pub reserve_a : pool.reserve_a ≡ pos 0
  pub reserve_b : pool.reserve_b ≡ pos 0
  pub shares : pool.total_pool_shares ≡ pos 0
  pub lines : pool.pool_shares_trust_line_count ≡ pos 0

-- a pool that nobody has shares of yet is put
abbrev pub NewPoolsKeep : Type 0
NewPoolsKeep =
    (h : LedgerHeader) (m : EntryMap) (seq : ℕ) (pool : LiquidityPoolEntry) → IsLegal h m
    → get m (key.LiquidityPool pool.pool_id) ≡ None → IsPoolInRange pool → IsNewPool pool
    → IsLegal h (put m (new_pool seq pool))

-- a pool without lines is erased
abbrev pub RemovedPoolsKeep : Type 0
RemovedPoolsKeep =
    (h : LedgerHeader) (m : EntryMap) (id : Hash) (pool : LiquidityPoolEntry) → IsLegal h m → pool_at m id ≡ Some pool
    → pool.pool_shares_trust_line_count ≡ pos 0 → IsLegal h (erase m (key.LiquidityPool id))
