-- A set has no more operations, and no more transactions, than its encoding has bytes.
use Rattle.tx_apply.proofs.Prelude as prelude
use prelude.{ℕ, suc, ◌+◌, ◌≡◌, ◌≤◌, List, [], ◌∷◌, ◌++◌, length, Option, Some, None, true, arith, length-append}
use prelude.{flat_map, Operation, Transaction, TransactionV0, TransactionV0Envelope, TransactionV1Envelope}
use prelude.{FeeBumpTransactionEnvelope, TransactionEnvelope, TransactionSet, ◌⨾◌, Fields, struct_of, entire, closed}
use prelude.{marked, option, list, encode_option, operation, operation_body, transaction_fields}
use prelude.{transaction_v0_fields, v1_fields, v0_fields, fee_bump_fields, bump_fields, set_fields, decorated_signature}
use prelude.{memo, time_bounds, preconditions, transaction_tail, transaction, transaction_v0, transaction_v1_envelope}
use prelude.{transaction_v0_envelope, fee_bump_transaction, fee_bump_envelope, transaction_envelope, transaction_set}
use prelude.{operations_of, operation_total}
use Rattle.std.specs.Prelude.{ℤ, pos}
use Rattle.std.specs.Int.{w32, cast_unsigned}
use Rattle.ledger_types.specs.declared.envelope_type.TheConstants as types
use Rattle.op_types.specs.declared.transaction.TransactionEnvelope.TheVariants as envelope
use Rattle.value_hashes.specs.xdr_core.Leaves.{flag, count, fixed, u32, i32, i64}
use Rattle.value_hashes.specs.xdr_core.Xdr.{Xdr, tag, optional, list_of}
use Rattle.xdr_tx.specs.xdr_entries.Basic.{muxed_account, hash}
use Rattle.value_hashes.proofs.xdr_core_proofs.Numbers.{wide4}

-- ---- lists

before : (n : ℕ) (xs ys : List ℕ) → n ≤ length xs → n ≤ length (xs ++ ys)
before n xs ys le = omega (arith, length-append xs ys, le)

after : (n : ℕ) (xs ys : List ℕ) → n ≤ length ys → n ≤ length (xs ++ ys)
after n xs ys le = omega (arith, length-append xs ys, le)

lengths_add : (n k : ℕ) (xs ys : List ℕ) → n ≤ length xs → k ≤ length ys → n + k ≤ length (xs ++ ys)
lengths_add n k xs ys le also = omega (arith, length-append xs ys, le, also)

one_each : {V : Type 0} (encoding : V → List ℕ) → ((v : V) → 1 ≤ length (encoding v)) → (vs : List V)
    → length vs ≤ length (flat_map encoding vs)
one_each encoding some [] = omega arith
one_each encoding some (v ∷ vs) =
    one_more (length vs) (length (flat_map encoding (v ∷ vs)))
    (lengths_add 1 (length vs) (encoding v) (flat_map encoding vs) (some v) (one_each encoding some vs))
  where
    one_more : (n k : ℕ) → 1 + n ≤ k → suc n ≤ k
    one_more n k le = omega arith

-- ---- operations

some_of : (n : ℕ) → n ≡ 4 → 1 ≤ n
some_of n is = omega arith

some_option : {V : Type 0} (f : Xdr V) (o : Option V) → 1 ≤ length (encode_option f o)
unfolding flag
some_option f None = some_of _ (wide4.len 0)
some_option f (Some v) = before 1 (flag.encoding true) (f.encoding v) (some_of _ (wide4.len 1))

some_mark : (mark : ℤ) → 1 ≤ length (i32.encoding mark)
unfolding i32
some_mark mark = some_of _ (wide4.len (cast_unsigned w32 mark))

-- the flag before its source
some_bytes : (one : Operation) → 1 ≤ length (operation.encoding one)
unfolding operation option
some_bytes one = before 1 (encode_option muxed_account one.source_account) (operation_body.encoding one.body)
    (some_option muxed_account one.source_account)

-- ---- formats

-- an encoding of at least n bytes
record Has {V : Type 0} (f : Xdr V) (n : ℕ) (v : V) : Type 0 where
  bytes : n ≤ length (f.encoding v)

in_first : {A B : Type 0} {f : Xdr A} (g : Xdr B) {n : ℕ} {a : A} (b : B) → Has f n a → Has (f ⨾ g) n (a, b)
in_first {f = f} g {n = n} {a = a} b has =
    record { bytes = before n (f.encoding a) (g.encoding b) has.bytes }

in_rest : {A B : Type 0} (f : Xdr A) {g : Xdr B} {n : ℕ} (a : A) {b : B} → Has g n b → Has (f ⨾ g) n (a, b)
in_rest f {g = g} {n = n} a {b = b} has =
    record { bytes = after n (f.encoding a) (g.encoding b) has.bytes }

in_struct : {A V : Type 0} (fields : Fields A V) {f : Xdr A} {n : ℕ} {v : V} → Has f n (fields.from v)
    → Has (struct_of fields f) n v
in_struct fields has = record { bytes = has.bytes }

in_entire : {V : Type 0} {f : Xdr V} {n : ℕ} {v : V} → Has f n v → Has (entire f) n v
in_entire has = record { bytes = has.bytes }

in_closed : {A : Type 0} {f : Xdr A} {n : ℕ} {a : A} (mark : ℤ) → Has f n a → Has (closed f (tag mark)) n a
in_closed {f = f} {n = n} {a = a} mark has =
    record { bytes = before n (f.encoding a) ((tag mark).encoding tt) has.bytes }

in_marked : {A : Type 0} {f : Xdr A} {n : ℕ} {a : A} (mark : ℤ) → Has f n a → Has (marked (tag mark) f) n a
in_marked {f = f} {n = n} {a = a} mark has =
    record { bytes = after n ((tag mark).encoding tt) (f.encoding a) has.bytes }

in_list : {V : Type 0} (max : ℕ) (f : Xdr V) (n : ℕ) (vs : List V) → n ≤ length (flat_map f.encoding vs)
    → Has (list_of max f) n vs
unfolding list
in_list max f n vs le =
    record { bytes = after n ((count max).encoding (length vs)) (flat_map f.encoding vs) le }

-- ---- transactions

in_operations : (operations : List Operation) → Has (list_of 100 operation) (length operations) operations
in_operations operations = in_list 100 operation (length operations) operations
    (one_each operation.encoding some_bytes operations)

in_transaction : (tx : Transaction) → Has transaction (length tx.operations) tx
unfolding transaction transaction_tail
in_transaction tx = in_struct transaction_fields (in_rest muxed_account tx.source_account
    (in_rest u32 tx.fee (in_rest i64 tx.seq_num (in_rest preconditions tx.cond (in_rest memo tx.memo
    (in_closed (pos 0) (in_operations tx.operations)))))))

in_v0 : (tx : TransactionV0) → Has transaction_v0 (length tx.operations) tx
unfolding transaction_v0 transaction_tail
in_v0 tx = in_struct transaction_v0_fields (in_rest (fixed 32) tx.source_account_ed25519
    (in_rest u32 tx.fee (in_rest i64 tx.seq_num (in_rest (optional time_bounds) tx.time_bounds (in_rest memo tx.memo
    (in_closed (pos 0) (in_operations tx.operations)))))))

in_v1_envelope : (signed : TransactionV1Envelope) → Has transaction_v1_envelope (length signed.tx.operations) signed
unfolding transaction_v1_envelope
in_v1_envelope signed = in_struct v1_fields (in_first (list_of 20 decorated_signature) signed.signatures
    (in_entire (in_transaction signed.tx)))

in_v0_envelope : (signed : TransactionV0Envelope) → Has transaction_v0_envelope (length signed.tx.operations) signed
unfolding transaction_v0_envelope
in_v0_envelope signed = in_struct v0_fields (in_first (list_of 20 decorated_signature) signed.signatures
    (in_entire (in_v0 signed.tx)))

in_bump : (signed : FeeBumpTransactionEnvelope)
    → Has fee_bump_envelope (length signed.tx.inner_tx.tx.operations) signed
unfolding fee_bump_envelope fee_bump_transaction
in_bump signed = in_struct bump_fields (in_first (list_of 20 decorated_signature) signed.signatures
    (in_entire (in_struct fee_bump_fields (in_rest muxed_account signed.tx.fee_source (in_rest i64 signed.tx.fee
    (in_closed (pos 0) (in_marked types.ENVELOPE_TYPE_TX (in_v1_envelope signed.tx.inner_tx))))))))

in_envelope : (one : TransactionEnvelope) → Has transaction_envelope (length (operations_of one)) one
unfolding transaction_envelope
in_envelope (envelope.V0 signed) =
    record { bytes = after _ (i32.encoding types.ENVELOPE_TYPE_TX_V0) _ (in_v0_envelope signed).bytes }
in_envelope (envelope.V1 signed) =
    record { bytes = after _ (i32.encoding types.ENVELOPE_TYPE_TX) _ (in_v1_envelope signed).bytes }
in_envelope (envelope.FeeBump signed) =
    record { bytes = after _ (i32.encoding types.ENVELOPE_TYPE_TX_FEE_BUMP) _ (in_bump signed).bytes }

-- ---- sets

in_all : (envelopes : List TransactionEnvelope)
    → operation_total envelopes ≤ length (flat_map transaction_envelope.encoding envelopes)
unfolding operation_total
in_all [] = omega arith
in_all (one ∷ others) = lengths_add (length (operations_of one)) (operation_total others)
    (transaction_envelope.encoding one) (flat_map transaction_envelope.encoding others) (in_envelope one).bytes
    (in_all others)

some_envelope : (one : TransactionEnvelope) → 1 ≤ length (transaction_envelope.encoding one)
unfolding transaction_envelope
some_envelope (envelope.V0 signed) =
    before 1 (i32.encoding types.ENVELOPE_TYPE_TX_V0) _ (some_mark types.ENVELOPE_TYPE_TX_V0)
some_envelope (envelope.V1 signed) = before 1 (i32.encoding types.ENVELOPE_TYPE_TX) _ (some_mark types.ENVELOPE_TYPE_TX)
some_envelope (envelope.FeeBump signed) =
    before 1 (i32.encoding types.ENVELOPE_TYPE_TX_FEE_BUMP) _ (some_mark types.ENVELOPE_TYPE_TX_FEE_BUMP)

in_set : (set : TransactionSet) → Has transaction_set (operation_total set.txs) set
unfolding transaction_set
in_set set = in_struct set_fields (in_rest hash set.previous_ledger_hash
    (in_list 4294967295 transaction_envelope (operation_total set.txs) set.txs (in_all set.txs)))

pub few_operations : (set : TransactionSet) → operation_total set.txs ≤ length (transaction_set.encoding set)
few_operations set = (in_set set).bytes

many_in_set : (set : TransactionSet) → Has transaction_set (length set.txs) set
unfolding transaction_set
many_in_set set = in_struct set_fields (in_rest hash set.previous_ledger_hash
    (in_list 4294967295 transaction_envelope (length set.txs) set.txs
    (one_each transaction_envelope.encoding some_envelope set.txs)))

pub few_transactions : (set : TransactionSet) → length set.txs ≤ length (transaction_set.encoding set)
few_transactions set = (many_in_set set).bytes
