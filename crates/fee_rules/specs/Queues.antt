-- The queues of a set: the transactions of one source, by their sequence numbers.
use Rattle.std.specs.Prelude.{ℕ, ◌+◌, ◌&&◌, Bool, List, [], ◌∷◌}
use Rattle.std.specs.List.{count_by}
use Rattle.std.specs.declared.cmp.Ordering.{Ordering}
use Rattle.std.specs.Ordering.{nat_cmp, int_cmp, ordering_then, is_lt, is_eq}
use Rattle.ledger_types.specs.KeyOrder.{account_cmp, hash_cmp}
use Rattle.op_types.specs.declared.transaction.TransactionEnvelope.{TransactionEnvelope}
use Rattle.xdr_tx.specs.Transactions.{transaction_envelope}
use Rattle.hash_ids.specs.Ids.{hash_of}
use Rattle.fee_rules.specs.Envelopes.{source_of, seq_num_of}
use Rattle.fee_rules.specs.declared.queued.Queued.{Queued}

-- what decides when the transaction at an index of the set's list goes
abbrev pub queued_of : ℕ → TransactionEnvelope → Queued
queued_of index envelope =
    record {
      source = source_of envelope;
      seq_num = seq_num_of envelope;
      full_hash = hash_of (transaction_envelope.encoding envelope);
      index = index;
    }

abbrev pub all_queued_from : ℕ → List TransactionEnvelope → List Queued
all_queued_from index [] = []
all_queued_from index (envelope ∷ envelopes) = queued_of index envelope ∷ all_queued_from (index + 1) envelopes

abbrev pub all_queued : List TransactionEnvelope → List Queued
all_queued envelopes = all_queued_from 0 envelopes

-- within the queue of one source: by sequence number, full hash and index
abbrev pub queue_cmp : Queued → Queued → Ordering
queue_cmp a b = ordering_then (int_cmp a.seq_num b.seq_num)
    (ordering_then (hash_cmp a.full_hash b.full_hash) (nat_cmp a.index b.index))

-- one transaction goes before another of its source
abbrev pub is_ahead : Queued → Queued → Bool
is_ahead a b = is_eq (account_cmp a.source b.source) && is_lt (queue_cmp a b)

-- how many of its source go before it
abbrev pub queue_rank : List Queued → Queued → ℕ
queue_rank txs tx = count_by (λ other. is_ahead other tx) txs

-- by source, and then as in the queue
abbrev pub queued_cmp : Queued → Queued → Ordering
queued_cmp a b = ordering_then (account_cmp a.source b.source) (queue_cmp a b)

-- two of one index in the set's list
abbrev pub has_index_of : Queued → Queued → Bool
has_index_of a b = is_eq (nat_cmp a.index b.index)
