-- Ranges of entries in their two parts.
use Rattle.image_rules.proofs.Prelude.{ℕ, LedgerEntry, LedgerEntryBody, IsBodyInRange, IsEntryInRange}
use Rattle.image_rules.proofs.Prelude.{IsBodyInRangeButId, IsEntryInRangeButId, HasPoolId}
use Rattle.ledger_types.specs.declared.entry.LedgerEntryBody.TheVariants as body

joined_in : (id_pool : ℕ) (b : LedgerEntryBody) → IsBodyInRangeButId id_pool b → HasPoolId b → IsBodyInRange id_pool b
joined_in id_pool (body.LiquidityPool pool) range named = record {
  fee = range.fee;
  assets = range.assets;
  id = named;
  reserve_a = range.reserve_a;
  reserve_b = range.reserve_b;
  shares = range.shares;
  lines = range.lines;
}
joined_in id_pool other range named = range

parted_in : (id_pool : ℕ) (b : LedgerEntryBody) → IsBodyInRange id_pool b → IsBodyInRangeButId id_pool b
parted_in id_pool (body.LiquidityPool pool) range = record {
  fee = range.fee;
  assets = range.assets;
  reserve_a = range.reserve_a;
  reserve_b = range.reserve_b;
  shares = range.shares;
  lines = range.lines;
}
parted_in id_pool other range = range

named_in : (id_pool : ℕ) (b : LedgerEntryBody) → IsBodyInRange id_pool b → HasPoolId b
named_in id_pool (body.LiquidityPool pool) range = range.id
named_in id_pool other range = tt

pub joined : (id_pool : ℕ) (e : LedgerEntry) → IsEntryInRangeButId id_pool e → HasPoolId e.body
    → IsEntryInRange id_pool e
joined id_pool e range named = record { body = joined_in id_pool e.body range.body named; paid = range.paid }

pub parted : (id_pool : ℕ) (e : LedgerEntry) → IsEntryInRange id_pool e → IsEntryInRangeButId id_pool e
parted id_pool e range = record { body = parted_in id_pool e.body range.body; paid = range.paid }

pub named : (id_pool : ℕ) (e : LedgerEntry) → IsEntryInRange id_pool e → HasPoolId e.body
named id_pool e range = named_in id_pool e.body range.body
