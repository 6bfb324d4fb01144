-- The formats of transactions, their envelopes and sets of them (Stellar-transaction.x and Stellar-ledger.x of protocol
-- 19, over RFC 4506).
use Rattle.std.specs.Prelude.{ℕ, ℤ, pos, List, [], ◌∷◌, Option, refl}
use Rattle.xdr_core.specs.declared.fault.XdrFault.{XdrFault}
use Rattle.xdr_core.specs.Leaves.{u32, u64, i64, fixed, var}
use Rattle.xdr_core.specs.Combinators.{◌⨾◌, Fields, struct_of, entire, marked, closed, empty, Arm, Part, part}
use Rattle.xdr_core.specs.Xdr.{Xdr, tag, optional, list_of, union_of}
use Rattle.ledger_types.specs.declared.envelope_type.TheConstants as types
use Rattle.ledger_types.specs.declared.ids.MuxedAccount.{MuxedAccount}
use Rattle.ledger_types.specs.declared.ids.Hash.{Hash}
use Rattle.op_types.specs.declared.operation.Operation.{Operation}
use Rattle.op_types.specs.declared.transaction.Memo.{Memo}
use Rattle.op_types.specs.declared.transaction.Memo.TheVariants as memos
use Rattle.op_types.specs.declared.preconditions.TimeBounds.{TimeBounds}
use Rattle.op_types.specs.declared.preconditions.LedgerBounds.{LedgerBounds}
use Rattle.op_types.specs.declared.preconditions.PreconditionsV2.{PreconditionsV2}
use Rattle.op_types.specs.declared.preconditions.Preconditions.{Preconditions}
use Rattle.op_types.specs.declared.preconditions.Preconditions.TheVariants as conditions
use Rattle.op_types.specs.declared.transaction.DecoratedSignature.{DecoratedSignature}
use Rattle.op_types.specs.declared.transaction.Transaction.{Transaction}
use Rattle.op_types.specs.declared.transaction.TransactionV0.{TransactionV0}
use Rattle.op_types.specs.declared.transaction.TransactionV1Envelope.{TransactionV1Envelope}
use Rattle.op_types.specs.declared.transaction.TransactionV0Envelope.{TransactionV0Envelope}
use Rattle.op_types.specs.declared.transaction.FeeBumpTransaction.{FeeBumpTransaction}
use Rattle.op_types.specs.declared.transaction.FeeBumpTransactionEnvelope.{FeeBumpTransactionEnvelope}
use Rattle.op_types.specs.declared.transaction.TransactionEnvelope.{TransactionEnvelope}
use Rattle.op_types.specs.declared.transaction.TransactionSet.{TransactionSet}
use Rattle.op_types.specs.declared.transaction.TransactionEnvelope.TheVariants as envelope
use Rattle.ledger_types.specs.declared.signer.SignerKey.{SignerKey}
use Rattle.xdr_entries.specs.Basic.{arm, hash, muxed_account, signer_key}
use Rattle.xdr_tx.specs.Operations.{operation}

-- ---- parts of transactions

abbrev pub memo_none : Arm XdrFault Memo
memo_none = arm (pos 0) empty (λ v. memos.None)

abbrev pub memo_text : Arm XdrFault Memo
memo_text = arm (pos 1) (var 28) memos.Text

abbrev pub memo_id : Arm XdrFault Memo
memo_id = arm (pos 2) u64 memos.Id

abbrev pub memo_hash : Arm XdrFault Memo
memo_hash = arm (pos 3) hash memos.Hash

abbrev pub memo_return : Arm XdrFault Memo
memo_return = arm (pos 4) hash memos.Return

abbrev pub memo_arms : List (Arm XdrFault Memo)
memo_arms = memo_none ∷ memo_text ∷ memo_id ∷ memo_hash ∷ memo_return ∷ []

abbrev pub memo_part : Memo → Part XdrFault Memo
memo_part memos.None = part memo_none tt
memo_part (memos.Text text) = part memo_text text
memo_part (memos.Id id) = part memo_id id
memo_part (memos.Hash digest) = part memo_hash digest
memo_part (memos.Return digest) = part memo_return digest

unfoldable pub memo : Xdr Memo
memo = union_of memo_part memo_arms

abbrev pub time_bounds_fields : Fields (ℕ × ℕ) TimeBounds
time_bounds_fields = record {
  to = λ v. record { min_time = v.0; max_time = v.1 };
  from = λ t. (t.min_time, t.max_time);
  there = λ _. refl;
  back = λ _. refl;
}

unfoldable pub time_bounds : Xdr TimeBounds
time_bounds = struct_of time_bounds_fields (u64 ⨾ u64)

abbrev pub ledger_bounds_fields : Fields (ℕ × ℕ) LedgerBounds
ledger_bounds_fields = record {
  to = λ v. record { min_ledger = v.0; max_ledger = v.1 };
  from = λ b. (b.min_ledger, b.max_ledger);
  there = λ _. refl;
  back = λ _. refl;
}

unfoldable pub ledger_bounds : Xdr LedgerBounds
ledger_bounds = struct_of ledger_bounds_fields (u32 ⨾ u32)

abbrev pub preconditions_v2_fields : Fields
    (Option TimeBounds × (Option LedgerBounds × (Option ℤ × (ℕ × (ℕ × List SignerKey))))) PreconditionsV2
preconditions_v2_fields = record {
  to = λ (times, (ledgers, (seq_num, (age, (gap, signers))))). record {
    time_bounds = times;
    ledger_bounds = ledgers;
    min_seq_num = seq_num;
    min_seq_age = age;
    min_seq_ledger_gap = gap;
    extra_signers = signers;
  };
  from = λ c. (
    c.time_bounds,
    (c.ledger_bounds, (c.min_seq_num, (c.min_seq_age, (c.min_seq_ledger_gap, c.extra_signers)))),
  );
  there = λ _. refl;
  back = λ _. refl;
}

unfoldable pub preconditions_v2 : Xdr PreconditionsV2
preconditions_v2 =
    struct_of preconditions_v2_fields
    (optional time_bounds ⨾ optional ledger_bounds ⨾ optional i64 ⨾ u64 ⨾ u32 ⨾ list_of 2 signer_key)

abbrev pub no_conditions : Arm XdrFault Preconditions
no_conditions = arm (pos 0) empty (λ v. conditions.None)

abbrev pub time_conditions : Arm XdrFault Preconditions
time_conditions = arm (pos 1) time_bounds conditions.Time

abbrev pub conditions_v2 : Arm XdrFault Preconditions
conditions_v2 = arm (pos 2) preconditions_v2 conditions.V2

abbrev pub preconditions_arms : List (Arm XdrFault Preconditions)
preconditions_arms = no_conditions ∷ time_conditions ∷ conditions_v2 ∷ []

abbrev pub preconditions_part : Preconditions → Part XdrFault Preconditions
preconditions_part conditions.None = part no_conditions tt
preconditions_part (conditions.Time bounds) = part time_conditions bounds
preconditions_part (conditions.V2 all) = part conditions_v2 all

unfoldable pub preconditions : Xdr Preconditions
preconditions = union_of preconditions_part preconditions_arms

abbrev pub signature_fields : Fields (List ℕ × List ℕ) DecoratedSignature
signature_fields = record {
  to = λ v. record { hint = v.0; signature = v.1 };
  from = λ s. (s.hint, s.signature);
  there = λ _. refl;
  back = λ _. refl;
}

unfoldable pub decorated_signature : Xdr DecoratedSignature
decorated_signature = struct_of signature_fields (fixed 4 ⨾ var 64)

-- ---- transactions

-- what both versions of a transaction end with
unfoldable pub transaction_tail : Xdr (Memo × List Operation)
transaction_tail = memo ⨾ closed (list_of 100 operation) (tag (pos 0))

abbrev pub transaction_fields : Fields
    (MuxedAccount × (ℕ × (ℤ × (Preconditions × (Memo × List Operation))))) Transaction
transaction_fields = record {
  to = λ (source, (fee, (seq_num, (cond, (note, operations))))). record {
    source_account = source;
    fee = fee;
    seq_num = seq_num;
    cond = cond;
    memo = note;
    operations = operations;
  };
  from = λ t. (t.source_account, (t.fee, (t.seq_num, (t.cond, (t.memo, t.operations)))));
  there = λ _. refl;
  back = λ _. refl;
}

unfoldable pub transaction : Xdr Transaction
transaction = struct_of transaction_fields (muxed_account ⨾ u32 ⨾ i64 ⨾ preconditions ⨾ transaction_tail)

abbrev pub transaction_v0_fields : Fields
    (List ℕ × (ℕ × (ℤ × (Option TimeBounds × (Memo × List Operation))))) TransactionV0
transaction_v0_fields = record {
  to = λ (key, (fee, (seq_num, (bounds, (note, operations))))). record {
    source_account_ed25519 = key;
    fee = fee;
    seq_num = seq_num;
    time_bounds = bounds;
    memo = note;
    operations = operations;
  };
  from = λ t. (t.source_account_ed25519, (t.fee, (t.seq_num, (t.time_bounds, (t.memo, t.operations)))));
  there = λ _. refl;
  back = λ _. refl;
}

-- its source is a key without a type
unfoldable pub transaction_v0 : Xdr TransactionV0
transaction_v0 = struct_of transaction_v0_fields (fixed 32 ⨾ u32 ⨾ i64 ⨾ optional time_bounds ⨾ transaction_tail)

-- ---- envelopes

abbrev pub v1_fields : Fields (Transaction × List DecoratedSignature) TransactionV1Envelope
v1_fields = record {
  to = λ v. record { tx = v.0; signatures = v.1 };
  from = λ e. (e.tx, e.signatures);
  there = λ _. refl;
  back = λ _. refl;
}

unfoldable pub transaction_v1_envelope : Xdr TransactionV1Envelope
transaction_v1_envelope = struct_of v1_fields (entire transaction ⨾ list_of 20 decorated_signature)

abbrev pub v0_fields : Fields (TransactionV0 × List DecoratedSignature) TransactionV0Envelope
v0_fields = record {
  to = λ v. record { tx = v.0; signatures = v.1 };
  from = λ e. (e.tx, e.signatures);
  there = λ _. refl;
  back = λ _. refl;
}

unfoldable pub transaction_v0_envelope : Xdr TransactionV0Envelope
transaction_v0_envelope = struct_of v0_fields (entire transaction_v0 ⨾ list_of 20 decorated_signature)

abbrev pub fee_bump_fields : Fields (MuxedAccount × (ℤ × TransactionV1Envelope)) FeeBumpTransaction
fee_bump_fields = record {
  to = λ (source, (fee, inner)). record { fee_source = source; fee = fee; inner_tx = inner };
  from = λ t. (t.fee_source, (t.fee, t.inner_tx));
  there = λ _. refl;
  back = λ _. refl;
}

-- the one arm of the inner transaction, ENVELOPE_TYPE_TX, and the end of a fee bump
abbrev pub inner_tx : Xdr TransactionV1Envelope
inner_tx = closed (marked (tag types.ENVELOPE_TYPE_TX) transaction_v1_envelope) (tag (pos 0))

unfoldable pub fee_bump_transaction : Xdr FeeBumpTransaction
fee_bump_transaction = struct_of fee_bump_fields (muxed_account ⨾ i64 ⨾ inner_tx)

abbrev pub bump_fields : Fields (FeeBumpTransaction × List DecoratedSignature) FeeBumpTransactionEnvelope
bump_fields = record {
  to = λ v. record { tx = v.0; signatures = v.1 };
  from = λ e. (e.tx, e.signatures);
  there = λ _. refl;
  back = λ _. refl;
}

unfoldable pub fee_bump_envelope : Xdr FeeBumpTransactionEnvelope
fee_bump_envelope = struct_of bump_fields (entire fee_bump_transaction ⨾ list_of 20 decorated_signature)

abbrev pub envelope_v0 : Arm XdrFault TransactionEnvelope
envelope_v0 = arm types.ENVELOPE_TYPE_TX_V0 transaction_v0_envelope envelope.V0

abbrev pub envelope_v1 : Arm XdrFault TransactionEnvelope
envelope_v1 = arm types.ENVELOPE_TYPE_TX transaction_v1_envelope envelope.V1

abbrev pub envelope_fee_bump : Arm XdrFault TransactionEnvelope
envelope_fee_bump = arm types.ENVELOPE_TYPE_TX_FEE_BUMP fee_bump_envelope envelope.FeeBump

abbrev pub envelope_arms : List (Arm XdrFault TransactionEnvelope)
envelope_arms = envelope_v0 ∷ envelope_v1 ∷ envelope_fee_bump ∷ []

abbrev pub envelope_part : TransactionEnvelope → Part XdrFault TransactionEnvelope
envelope_part (envelope.V0 inner) = part envelope_v0 inner
envelope_part (envelope.V1 inner) = part envelope_v1 inner
envelope_part (envelope.FeeBump inner) = part envelope_fee_bump inner

unfoldable pub transaction_envelope : Xdr TransactionEnvelope
transaction_envelope = union_of envelope_part envelope_arms

-- ---- sets

abbrev pub set_fields : Fields (Hash × List TransactionEnvelope) TransactionSet
set_fields = record {
  to = λ v. record { previous_ledger_hash = v.0; txs = v.1 };
  from = λ s. (s.previous_ledger_hash, s.txs);
  there = λ _. refl;
  back = λ _. refl;
}

-- the number of envelopes has no bound but that of its field
unfoldable pub transaction_set : Xdr TransactionSet
transaction_set = struct_of set_fields (hash ⨾ list_of 4294967295 transaction_envelope)
