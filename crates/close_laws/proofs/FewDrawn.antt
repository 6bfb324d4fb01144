-- A set has few operations, so it draws few ids.
use Rattle.close_laws.proofs.Prelude.{◌≡◌, ℕ, suc, ◌+◌, ◌*◌, ◌^◌, ◌<◌, ◌≤◌, List, [], ◌∷◌, length, All, arith, All-head}
use Rattle.close_laws.proofs.Prelude.{All-tail, TransactionEnvelope, TransactionSet, operation, transaction_set}
use Rattle.close_laws.proofs.Prelude.{apply_order_of, operations_of, operation_total, CanDraw, envelopes_in_order}
use Rattle.close_laws.proofs.Prelude.{all_at, as_many, IsEncoded}
use Rattle.close_rules.proofs.fee_rules_proofs.Ordered.{indices_exist}
use Rattle.close_rules.proofs.tx_apply_proofs.Drawing.{order_len}
use Rattle.close_laws.proofs.Encoded.{few_encoded}
use Rattle.close_laws.proofs.EncodedSets.{envelopes_encoded, all_operations_encoded}

pub envelopes_len : (set : TransactionSet) → length (envelopes_in_order set) ≤ length set.txs
envelopes_len set =
    same (as_many set.txs (apply_order_of set) (indices_exist set)) (order_len set)
  where
    same : {a b c : ℕ} → a ≡ b → b ≤ c → a ≤ c
    same e le = omega arith

-- ---- operations

abbrev pub HasFew : TransactionEnvelope → Type 0
HasFew entire = length (operations_of entire) ≤ 100

pub set_few : (set : TransactionSet) → IsEncoded transaction_set set → All HasFew set.txs
set_few set encoded = λ k d within.
    few_encoded 100 operation _ (all_operations_encoded _ (envelopes_encoded set encoded k d within))

more_few : (first rest others : ℕ) → first ≤ 100 → rest ≤ others * 100 → first + rest ≤ suc others * 100
more_few first rest others le few = omega arith

total_few : (envelopes : List TransactionEnvelope) → All HasFew envelopes
    → operation_total envelopes ≤ length envelopes * 100
unfolding operation_total
total_few [] few = omega arith
total_few (entire ∷ others) few =
    more_few (length (operations_of entire)) (operation_total others) (length others)
    (All-head HasFew entire others few) (total_few others (All-tail HasFew entire others few))

few_in_all : (total count most : ℕ) → total ≤ count * 100 → count ≤ most → most ≤ 16777216 → total ≤ 1677721600
few_in_all total count most few le all = omega arith

-- at most 100 for each transaction of a record, which has at most so many bytes
pub set_draws : (set : TransactionSet) → IsEncoded transaction_set set → length set.txs ≤ 16777216
    → operation_total (envelopes_in_order set) ≤ 1677721600
set_draws set encoded few =
    few_in_all (operation_total (envelopes_in_order set)) (length (envelopes_in_order set)) (length set.txs)
    (total_few (envelopes_in_order set) (all_at HasFew set.txs (apply_order_of set) (set_few set encoded)))
    (envelopes_len set) few

drawn_fits : (seq was total : ℕ) → was ≤ seq * 2 ^ 32 → seq < 2147483647 → total ≤ 1677721600 → CanDraw total was
drawn_fits seq was total low below few = omega arith

-- every id that a set may draw can be written
pub set_fits : (seq was : ℕ) (set : TransactionSet) → IsEncoded transaction_set set → length set.txs ≤ 16777216
    → was ≤ seq * 2 ^ 32 → seq < 2147483647 → CanDraw (operation_total (envelopes_in_order set)) was
set_fits seq was set encoded few low below =
    drawn_fits seq was (operation_total (envelopes_in_order set)) low below (set_draws set encoded few)
