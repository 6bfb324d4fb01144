-- The order in which the transactions of a set are applied (TxSetFrame::sortForApply in stellar-core).
use Rattle.std.specs.Prelude.{ℕ, zero, suc, List, [], ◌∷◌, ◌++◌, map, bit_xor, slice_index}
use Rattle.std.specs.declared.cmp.Ordering.{Ordering}
use Rattle.std.specs.Ordering.{nat_cmp, ordering_then}
use Rattle.ledger_types.specs.declared.ids.Hash.{Hash}
use Rattle.ledger_types.specs.KeyOrder.{hash_cmp}
use Rattle.op_types.specs.declared.transaction.TransactionSet.{TransactionSet}
use Rattle.fee_rules.specs.declared.queued.Queued.{Queued}
use Rattle.fee_rules.specs.declared.turn.Turn.{Turn}
use Rattle.fee_rules.specs.Ranking.{ranked}
use Rattle.fee_rules.specs.Queues.{queue_rank, all_queued}
use Rattle.fee_rules.specs.SetHash.{hash_of_set}

-- the first n bytes of one text, bit by bit xor those of another
unfoldable pub mixed_bytes : (a b : List ℕ) → ℕ → List ℕ
mixed_bytes a b zero = []
mixed_bytes a b (suc n) = mixed_bytes a b n ++ bit_xor (slice_index a n) (slice_index b n) ∷ []

-- a hash, bit by bit xor another one
abbrev pub mixed_hash : Hash → Hash → Hash
mixed_hash a b = record { 0 = mixed_bytes a.0 b.0 32 }

-- by the rank in the queue, then by the full hash xor the set's, and then by index
abbrev pub turn_cmp : Turn → Turn → Ordering
turn_cmp a b = ordering_then (nat_cmp a.queue_rank b.queue_rank)
    (ordering_then (hash_cmp a.mixed b.mixed) (nat_cmp a.index b.index))

abbrev pub turn_of : Hash → List Queued → Queued → Turn
turn_of set_hash txs tx =
    record { queue_rank = queue_rank txs tx; mixed = mixed_hash tx.full_hash set_hash; index = tx.index }

abbrev pub turns_of : Hash → List Queued → List Turn
turns_of set_hash txs = map (turn_of set_hash txs) txs

-- the indices of transactions in the set's list, in the order in which they are applied
unfoldable pub indices_in_order : Hash → List Queued → List ℕ
indices_in_order set_hash txs = map (λ turn. turn.index) (ranked turn_cmp (turns_of set_hash txs))

abbrev pub apply_order_of : TransactionSet → List ℕ
apply_order_of set = indices_in_order (hash_of_set set) (all_queued set.txs)
