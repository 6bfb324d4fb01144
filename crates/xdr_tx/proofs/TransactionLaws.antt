-- The laws of the formats of transactions, envelopes and sets.
use Rattle.std.proofs.Common.{pos, refl, arith}
use Rattle.xdr_core.proofs.FormatLaws.{Laws, written, u32_laws, u64_laws, i64_laws, fixed_laws, var_laws, empty_laws}
use Rattle.xdr_core.proofs.FormatLaws.{◌&◌, struct_laws, entire_laws, marked_laws, closed_laws, tag_laws, option_laws}
use Rattle.xdr_core.proofs.FormatLaws.{list_laws, arm_laws, found, union_laws}
use Rattle.xdr_core.proofs.Unions.{IsFound}
use Rattle.xdr_entries.proofs.BasicLaws.{hash_laws, muxed_account_laws, signer_key_laws}
use Rattle.op_types.specs.declared.transaction.Memo.{Memo}
use Rattle.op_types.specs.declared.transaction.Memo.TheVariants as memos
use Rattle.op_types.specs.declared.preconditions.Preconditions.{Preconditions}
use Rattle.op_types.specs.declared.preconditions.Preconditions.TheVariants as conditions
use Rattle.op_types.specs.declared.transaction.TransactionEnvelope.{TransactionEnvelope}
use Rattle.op_types.specs.declared.transaction.TransactionEnvelope.TheVariants as envelope
use Rattle.xdr_tx.proofs.BodyLaws.{operation_laws}
use Rattle.xdr_tx.specs.Transactions.{memo_none, memo_text, memo_id, memo_hash, memo_return, memo_arms, memo_part, memo}
use Rattle.xdr_tx.specs.Transactions.{time_bounds_fields, time_bounds, signature_fields, decorated_signature}
use Rattle.xdr_tx.specs.Transactions.{ledger_bounds_fields, ledger_bounds, preconditions_v2_fields, preconditions_v2}
use Rattle.xdr_tx.specs.Transactions.{no_conditions, time_conditions, conditions_v2, preconditions_arms}
use Rattle.xdr_tx.specs.Transactions.{preconditions_part, preconditions}
use Rattle.xdr_tx.specs.Transactions.{transaction_tail, transaction_fields, transaction}
use Rattle.xdr_tx.specs.Transactions.{transaction_v0_fields, transaction_v0, v1_fields, transaction_v1_envelope}
use Rattle.xdr_tx.specs.Transactions.{v0_fields, transaction_v0_envelope, fee_bump_fields, fee_bump_transaction}
use Rattle.xdr_tx.specs.Transactions.{bump_fields, fee_bump_envelope, envelope_v0, envelope_v1, envelope_fee_bump}
use Rattle.xdr_tx.specs.Transactions.{envelope_arms, envelope_part, transaction_envelope, set_fields, transaction_set}

memo_found : (v : Memo) → IsFound memo_part memo_arms v
memo_found memos.None = found memo_none tt empty_laws tt refl refl (λ _ _ _. refl)
memo_found (memos.Text text) = found memo_text text (var_laws 28 (omega arith)) tt refl refl (λ _ _ _. refl)
memo_found (memos.Id id) = found memo_id id u64_laws tt refl refl (λ _ _ _. refl)
memo_found (memos.Hash digest) = found memo_hash digest hash_laws tt refl refl (λ _ _ _. refl)
memo_found (memos.Return digest) = found memo_return digest hash_laws tt refl refl (λ _ _ _. refl)

pub memo_laws : Laws memo
unfolding memo
memo_laws = union_laws (
  arm_laws empty_laws (λ x. refl),
  (
    arm_laws (var_laws 28 (omega arith)) (λ x. refl),
    (
      arm_laws u64_laws (λ x. refl),
      (
        arm_laws hash_laws (λ x. refl),
        (arm_laws hash_laws (λ x. refl), tt),
      ),
    ),
  ),
)
    memo_found

pub time_bounds_laws : Laws time_bounds
unfolding time_bounds
time_bounds_laws = struct_laws time_bounds_fields (u64_laws & u64_laws)

pub ledger_bounds_laws : Laws ledger_bounds
unfolding ledger_bounds
ledger_bounds_laws = struct_laws ledger_bounds_fields (u32_laws & u32_laws)

pub preconditions_v2_laws : Laws preconditions_v2
unfolding preconditions_v2
preconditions_v2_laws = struct_laws preconditions_v2_fields
    (option_laws time_bounds_laws & option_laws ledger_bounds_laws & option_laws i64_laws & u64_laws & u32_laws
    & list_laws 2 (omega arith) signer_key_laws)

preconditions_found : (v : Preconditions) → IsFound preconditions_part preconditions_arms v
preconditions_found conditions.None = found no_conditions tt empty_laws tt refl refl (λ _ _ _. refl)
preconditions_found (conditions.Time bounds) =
    found time_conditions bounds time_bounds_laws tt refl refl (λ _ _ _. refl)
preconditions_found (conditions.V2 all) = found conditions_v2 all preconditions_v2_laws tt refl refl (λ _ _ _. refl)

pub preconditions_laws : Laws preconditions
unfolding preconditions
preconditions_laws = union_laws (
  arm_laws empty_laws (λ x. refl),
  (
    arm_laws time_bounds_laws (λ x. refl),
    (arm_laws preconditions_v2_laws (λ x. refl), tt),
  ),
)
    preconditions_found

pub decorated_signature_laws : Laws decorated_signature
unfolding decorated_signature
decorated_signature_laws = struct_laws signature_fields (fixed_laws 4 & var_laws 64 (omega arith))

pub transaction_tail_laws : Laws transaction_tail
unfolding transaction_tail
transaction_tail_laws =
    memo_laws & closed_laws (list_laws 100 (omega arith) operation_laws) (tag_laws (pos 0) tt)

pub transaction_laws : Laws transaction
unfolding transaction
transaction_laws = struct_laws transaction_fields
    (muxed_account_laws & u32_laws & i64_laws & preconditions_laws & transaction_tail_laws)

pub transaction_v0_laws : Laws transaction_v0
unfolding transaction_v0
transaction_v0_laws = struct_laws transaction_v0_fields
    (fixed_laws 32 & u32_laws & i64_laws & option_laws time_bounds_laws & transaction_tail_laws)

pub transaction_v1_envelope_laws : Laws transaction_v1_envelope
unfolding transaction_v1_envelope
transaction_v1_envelope_laws = struct_laws v1_fields
    (entire_laws transaction_laws & list_laws 20 (omega arith) decorated_signature_laws)

pub transaction_v0_envelope_laws : Laws transaction_v0_envelope
unfolding transaction_v0_envelope
transaction_v0_envelope_laws = struct_laws v0_fields
    (entire_laws transaction_v0_laws & list_laws 20 (omega arith) decorated_signature_laws)

pub fee_bump_transaction_laws : Laws fee_bump_transaction
unfolding fee_bump_transaction
fee_bump_transaction_laws = struct_laws fee_bump_fields
    (muxed_account_laws & i64_laws
    & closed_laws (marked_laws (tag_laws (pos 2) tt) transaction_v1_envelope_laws) (tag_laws (pos 0) tt))

pub fee_bump_envelope_laws : Laws fee_bump_envelope
unfolding fee_bump_envelope
fee_bump_envelope_laws = struct_laws bump_fields
    (entire_laws fee_bump_transaction_laws & list_laws 20 (omega arith) decorated_signature_laws)

transaction_envelope_found : (v : TransactionEnvelope) → IsFound envelope_part envelope_arms v
transaction_envelope_found (envelope.V0 inner) =
    found envelope_v0 inner transaction_v0_envelope_laws tt refl refl (λ _ _ _. refl)
transaction_envelope_found (envelope.V1 inner) =
    found envelope_v1 inner transaction_v1_envelope_laws tt refl refl (λ _ _ _. refl)
transaction_envelope_found (envelope.FeeBump inner) =
    found envelope_fee_bump inner fee_bump_envelope_laws tt refl refl (λ _ _ _. refl)

pub transaction_envelope_laws : Laws transaction_envelope
unfolding transaction_envelope
transaction_envelope_laws = union_laws (
  arm_laws transaction_v0_envelope_laws (λ x. refl),
  (
    arm_laws transaction_v1_envelope_laws (λ x. refl),
    (arm_laws fee_bump_envelope_laws (λ x. refl), tt),
  ),
)
    transaction_envelope_found

pub transaction_set_laws : Laws transaction_set
unfolding transaction_set
transaction_set_laws = struct_laws set_fields (hash_laws & list_laws 4294967295 (omega arith) transaction_envelope_laws)

-- what its writer goes by
pub ruleset signature_written = (written, decorated_signature_laws)
