-- That an id can be drawn, from a set down to each of its operations.
use Rattle.tx_apply.proofs.Prelude.{◌≡◌, ℕ, zero, suc, ◌+◌, ◌-◌, ◌*◌, ◌^◌, ◌<◌, ◌≤◌, List, [], ◌∷◌, ◌++◌, length}
use Rattle.tx_apply.proofs.Prelude.{Option, Some, None, arith, length-append, length-map, LedgerHeader, TransactionSet}
use Rattle.tx_apply.proofs.Prelude.{EntryMap, at_rank, at_most_one, first_ranked, turn_cmp, indices_in_order}
use Rattle.tx_apply.proofs.Prelude.{apply_order_of, AreDrawn, CanDraw}
use Rattle.std.specs.declared.cmp.Ordering.{Ordering}
use Rattle.fee_rules.specs.Queues.{all_queued}
use Rattle.fee_rules.specs.SetHash.{hash_of_set}
use Rattle.fee_rules.specs.Turns.{turns_of}
use Rattle.op_laws.specs.legal_rules.Legal.{IsLegal}
use Rattle.fee_rules.proofs.Indices.{all_queued_length}

-- ---- one after the other

-- after one operation, one id is left for each of the others
pub ids_after : (n was now : ℕ) → 1 ≤ n → AreDrawn 1 was now → CanDraw n was → CanDraw (n - 1) now
ids_after n was now some drawn can = let high = drawn.high in omega (arith, high, can)

-- the next transaction of n
pub ids_of_next : (n i id_pool : ℕ) → i < n → CanDraw (100 * (n - i)) id_pool → CanDraw 100 id_pool
ids_of_next n i id_pool less can = omega arith

-- and those after it
pub ids_of_others : (n i count was now : ℕ) → i < n → count ≤ 100 → AreDrawn count was now
    → CanDraw (100 * (n - i)) was → CanDraw (100 * (n - (i + 1))) now
ids_of_others n i count was now less few drawn can = let high = drawn.high in omega (arith, high, can)

-- ---- no more indices than envelopes

ranked_len : {X : Type 0} (cmp : X → X → Ordering) (xs : List X) (k : ℕ) → length (first_ranked cmp xs k) ≤ k
unfolding first_ranked
ranked_len cmp xs zero = omega arith
ranked_len {X} cmp xs (suc k) =
    at_most (first_ranked cmp xs k) (at_rank cmp xs k) (ranked_len cmp xs k)
  where
    at_most : (prefix : List X) (found : Option X) → length prefix ≤ k → length (prefix ++ at_most_one found) ≤ suc k
    at_most prefix None le = omega (arith, length-append {A = X} prefix [])
    at_most prefix (Some x) le = omega (arith, length-append {A = X} prefix (x ∷ []))

pub order_len : (set : TransactionSet) → length (apply_order_of set) ≤ length set.txs
unfolding indices_in_order
order_len set =
    let txs = all_queued set.txs in
    let turns = turns_of (hash_of_set set) txs in
    simp length-map (no_more (ranked_len turn_cmp turns (length txs)) (all_queued_length 0 set.txs))
  where
    no_more : {b c d : ℕ} → b ≤ c → c ≡ d → b ≤ d
    no_more le h = omega arith

-- ---- a complete set

enough : (order txs id_pool seq : ℕ) → order ≤ txs → txs ≤ 16777216 → id_pool ≤ seq * 2 ^ 32 → seq < 2147483647
    → CanDraw (100 * order) id_pool
enough order txs id_pool seq fewer few high early = omega arith

-- a set of few transactions over a legal state
pub ids_of_set : (h : LedgerHeader) (m : EntryMap) (set : TransactionSet) → IsLegal h m → h.ledger_seq < 2147483647
    → length set.txs ≤ 16777216 → CanDraw (100 * length (apply_order_of set)) h.id_pool
ids_of_set h m set legal early few =
    enough (length (apply_order_of set)) (length set.txs) h.id_pool h.ledger_seq (order_len set) few
    legal.header.id_pool early
