-- The laws of the formats of what transactions answer.
use Rattle.std.proofs.Common.{pos, negsuc, refl, arith}
use Rattle.xdr_core.proofs.FormatLaws.{Laws, written, i64_laws, ◌&◌, struct_laws, closed_laws, tag_laws, list_laws}
use Rattle.xdr_core.proofs.FormatLaws.{arm_laws, found, union_laws}
use Rattle.xdr_results.proofs.Plain.{plain_under, plain_are}
use Rattle.xdr_core.proofs.Unions.{IsFound}
use Rattle.xdr_entries.proofs.BasicLaws.{hash_laws}
use Rattle.op_types.specs.declared.transaction_result.InnerTransactionOutcome.{InnerTransactionOutcome}
use Rattle.op_types.specs.declared.transaction_result.InnerTransactionOutcome.TheVariants as inner
use Rattle.op_types.specs.declared.transaction_result.TransactionOutcome.{TransactionOutcome}
use Rattle.op_types.specs.declared.transaction_result.TransactionOutcome.TheVariants as outcome
use Rattle.op_types.specs.Codes.{inner_code, outcome_code, inner_values, outcome_values}
use Rattle.xdr_results.proofs.OperationLaws.{operation_result_laws}
use Rattle.xdr_results.specs.Results.{inner_success, inner_failed, inner_arms, inner_part, inner_transaction_outcome}
use Rattle.xdr_results.specs.Results.{inner_result_fields, inner_transaction_result, inner_pair_fields}
use Rattle.xdr_results.specs.Results.{inner_transaction_result_pair, outcome_success, outcome_failed}
use Rattle.xdr_results.specs.Results.{outcome_inner_success, outcome_inner_failed, outcome_arms, outcome_part}
use Rattle.xdr_results.specs.Results.{transaction_outcome, result_fields, transaction_result, pair_fields}
use Rattle.xdr_results.specs.Results.{transaction_result_pair, result_set_fields, transaction_result_set}

inner_transaction_outcome_found : (v : InnerTransactionOutcome) → IsFound inner_part inner_arms v
inner_transaction_outcome_found (inner.Success results) =
    found inner_success results
    (list_laws 4294967295 (omega arith) operation_result_laws) tt refl refl (λ _ _ _. refl)
inner_transaction_outcome_found (inner.Failed results) =
    found inner_failed results
    (list_laws 4294967295 (omega arith) operation_result_laws) tt refl refl (λ _ _ _. refl)
inner_transaction_outcome_found inner.TooEarly = plain_under inner_code tt refl (λ _ _ _. refl)
inner_transaction_outcome_found inner.TooLate = plain_under inner_code tt refl (λ _ _ _. refl)
inner_transaction_outcome_found inner.MissingOperation = plain_under inner_code tt refl (λ _ _ _. refl)
inner_transaction_outcome_found inner.BadSeq = plain_under inner_code tt refl (λ _ _ _. refl)
inner_transaction_outcome_found inner.BadAuth = plain_under inner_code tt refl (λ _ _ _. refl)
inner_transaction_outcome_found inner.InsufficientBalance = plain_under inner_code tt refl (λ _ _ _. refl)
inner_transaction_outcome_found inner.NoAccount = plain_under inner_code tt refl (λ _ _ _. refl)
inner_transaction_outcome_found inner.InsufficientFee = plain_under inner_code tt refl (λ _ _ _. refl)
inner_transaction_outcome_found inner.BadAuthExtra = plain_under inner_code tt refl (λ _ _ _. refl)
inner_transaction_outcome_found inner.InternalError = plain_under inner_code tt refl (λ _ _ _. refl)
inner_transaction_outcome_found inner.NotSupported = plain_under inner_code tt refl (λ _ _ _. refl)
inner_transaction_outcome_found inner.FeeBumpInnerFailed = plain_under inner_code tt refl (λ _ _ _. refl)
inner_transaction_outcome_found inner.BadSponsorship = plain_under inner_code tt refl (λ _ _ _. refl)
inner_transaction_outcome_found inner.BadMinSeqAgeOrGap = plain_under inner_code tt refl (λ _ _ _. refl)
inner_transaction_outcome_found inner.Malformed = plain_under inner_code tt refl (λ _ _ _. refl)
inner_transaction_outcome_found inner.FeeBumpInnerSuccess = plain_under inner_code tt refl (λ _ _ _. refl)

pub inner_transaction_outcome_laws : Laws inner_transaction_outcome
unfolding inner_transaction_outcome
inner_transaction_outcome_laws = union_laws (
  arm_laws (list_laws 4294967295 (omega arith) operation_result_laws) (λ x. refl),
  (
    arm_laws (list_laws 4294967295 (omega arith) operation_result_laws) (λ x. refl),
    plain_are _ inner_code inner_values (
      refl,
      (
        refl,
        (
          refl,
          (
            refl,
            (refl, (refl, (refl, (refl, (refl, (refl, (refl, (refl, (refl, (refl, (refl, (refl, tt)))))))))))),
          ),
        ),
      ),
    ),
  ),
)
    inner_transaction_outcome_found

pub inner_transaction_result_laws : Laws inner_transaction_result
unfolding inner_transaction_result
inner_transaction_result_laws = struct_laws inner_result_fields
    (i64_laws & closed_laws inner_transaction_outcome_laws (tag_laws (pos 0) tt))

pub inner_transaction_result_pair_laws : Laws inner_transaction_result_pair
unfolding inner_transaction_result_pair
inner_transaction_result_pair_laws = struct_laws inner_pair_fields (hash_laws & inner_transaction_result_laws)

transaction_outcome_found : (v : TransactionOutcome) → IsFound outcome_part outcome_arms v
transaction_outcome_found (outcome.Success results) =
    found outcome_success results
    (list_laws 4294967295 (omega arith) operation_result_laws) tt refl refl (λ _ _ _. refl)
transaction_outcome_found (outcome.Failed results) =
    found outcome_failed results
    (list_laws 4294967295 (omega arith) operation_result_laws) tt refl refl (λ _ _ _. refl)
transaction_outcome_found (outcome.FeeBumpInnerSuccess pair) =
    found outcome_inner_success pair inner_transaction_result_pair_laws tt refl refl (λ _ _ _. refl)
transaction_outcome_found (outcome.FeeBumpInnerFailed pair) =
    found outcome_inner_failed pair inner_transaction_result_pair_laws tt refl refl (λ _ _ _. refl)
transaction_outcome_found outcome.TooEarly = plain_under outcome_code tt refl (λ _ _ _. refl)
transaction_outcome_found outcome.TooLate = plain_under outcome_code tt refl (λ _ _ _. refl)
transaction_outcome_found outcome.MissingOperation = plain_under outcome_code tt refl (λ _ _ _. refl)
transaction_outcome_found outcome.BadSeq = plain_under outcome_code tt refl (λ _ _ _. refl)
transaction_outcome_found outcome.BadAuth = plain_under outcome_code tt refl (λ _ _ _. refl)
transaction_outcome_found outcome.InsufficientBalance = plain_under outcome_code tt refl (λ _ _ _. refl)
transaction_outcome_found outcome.NoAccount = plain_under outcome_code tt refl (λ _ _ _. refl)
transaction_outcome_found outcome.InsufficientFee = plain_under outcome_code tt refl (λ _ _ _. refl)
transaction_outcome_found outcome.BadAuthExtra = plain_under outcome_code tt refl (λ _ _ _. refl)
transaction_outcome_found outcome.InternalError = plain_under outcome_code tt refl (λ _ _ _. refl)
transaction_outcome_found outcome.NotSupported = plain_under outcome_code tt refl (λ _ _ _. refl)
transaction_outcome_found outcome.BadSponsorship = plain_under outcome_code tt refl (λ _ _ _. refl)
transaction_outcome_found outcome.BadMinSeqAgeOrGap = plain_under outcome_code tt refl (λ _ _ _. refl)
transaction_outcome_found outcome.Malformed = plain_under outcome_code tt refl (λ _ _ _. refl)

pub transaction_outcome_laws : Laws transaction_outcome
unfolding transaction_outcome
transaction_outcome_laws = union_laws (
  arm_laws (list_laws 4294967295 (omega arith) operation_result_laws) (λ x. refl),
  (
    arm_laws (list_laws 4294967295 (omega arith) operation_result_laws) (λ x. refl),
    (
      arm_laws inner_transaction_result_pair_laws (λ x. refl),
      (
        arm_laws inner_transaction_result_pair_laws (λ x. refl),
        plain_are _ outcome_code outcome_values (
          refl,
          (
            refl,
            (refl, (refl, (refl, (refl, (refl, (refl, (refl, (refl, (refl, (refl, (refl, (refl, tt)))))))))))),
          ),
        ),
      ),
    ),
  ),
)
    transaction_outcome_found

pub transaction_result_laws : Laws transaction_result
unfolding transaction_result
transaction_result_laws = struct_laws result_fields
    (i64_laws & closed_laws transaction_outcome_laws (tag_laws (pos 0) tt))

pub transaction_result_pair_laws : Laws transaction_result_pair
unfolding transaction_result_pair
transaction_result_pair_laws = struct_laws pair_fields (hash_laws & transaction_result_laws)

pub transaction_result_set_laws : Laws transaction_result_set
unfolding transaction_result_set
transaction_result_set_laws = struct_laws result_set_fields
    (list_laws 4294967295 (omega arith) transaction_result_pair_laws)

-- what its writer goes by
pub ruleset pair_written = (written, transaction_result_pair_laws)

-- what its writer goes by
pub ruleset set_written = (written, transaction_result_set_laws)
