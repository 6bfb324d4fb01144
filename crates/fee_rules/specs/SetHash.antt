-- The hash of a set: of the hash of the ledger before it, and of its envelopes in the order of their own hashes
-- (TxSetFrame::getContentsHash in stellar-core).
use Rattle.std.specs.Prelude.{ℕ, List, [], map, Option, Some, None}
use Rattle.std.specs.List.{slice_get}
use Rattle.std.specs.declared.cmp.Ordering.{Ordering}
use Rattle.std.specs.Ordering.{nat_cmp, ordering_then}
use Rattle.ledger_types.specs.declared.ids.Hash.{Hash}
use Rattle.ledger_types.specs.KeyOrder.{hash_cmp}
use Rattle.op_types.specs.declared.transaction.TransactionEnvelope.{TransactionEnvelope}
use Rattle.op_types.specs.declared.transaction.TransactionSet.{TransactionSet}
use Rattle.xdr_tx.specs.Transactions.{transaction_envelope}
use Rattle.hash_ids.specs.Ids.{set_hash_of}
use Rattle.fee_rules.specs.declared.queued.Queued.{Queued}
use Rattle.fee_rules.specs.declared.hashed.Hashed.{Hashed}
use Rattle.fee_rules.specs.Queues.{all_queued}
use Rattle.fee_rules.specs.Ranking.{ranked}

abbrev pub hashed_of : Queued → Hashed
hashed_of queued = record { full_hash = queued.full_hash; index = queued.index }

-- by hash; equal envelopes by their indices
abbrev pub hashed_cmp : Hashed → Hashed → Ordering
hashed_cmp a b = ordering_then (hash_cmp a.full_hash b.full_hash) (nat_cmp a.index b.index)

abbrev pub encoding_if : Option TransactionEnvelope → List ℕ
encoding_if None = []
encoding_if (Some envelope) = transaction_envelope.encoding envelope

-- the encoding of the envelope at an index of a list
abbrev pub encoding_at : List TransactionEnvelope → ℕ → List ℕ
encoding_at envelopes index = encoding_if (slice_get envelopes index)

-- the encodings of envelopes, in the order of the envelopes' hashes
abbrev pub encodings_by_hash : List TransactionEnvelope → List Queued → List (List ℕ)
encodings_by_hash envelopes queued =
    map (λ hashed. encoding_at envelopes hashed.index) (ranked hashed_cmp (map hashed_of queued))

unfoldable pub hash_of_set : TransactionSet → Hash
hash_of_set set = set_hash_of set.previous_ledger_hash (encodings_by_hash set.txs (all_queued set.txs))
