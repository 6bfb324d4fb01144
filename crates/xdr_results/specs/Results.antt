-- The formats of what operations and transactions answer, and of the results of a set (Stellar-transaction.x and
-- Stellar-ledger.x of protocols 18 and 19, over RFC 4506).
use Rattle.std.specs.Prelude.{ℤ, pos, List, [], ◌∷◌, refl}
use Rattle.xdr_core.specs.declared.fault.XdrFault.{XdrFault}
use Rattle.xdr_core.specs.Leaves.{i64}
use Rattle.xdr_core.specs.Combinators.{◌⨾◌, Fields, struct_of, closed, Arm, Part, part}
use Rattle.xdr_core.specs.Xdr.{Xdr, tag, list_of, union_of}
use Rattle.ledger_types.specs.declared.ids.Hash.{Hash}
use Rattle.op_types.specs.declared.operation_type.TheConstants as types
use Rattle.op_types.specs.declared.operation_result.OperationResultTr.{OperationResultTr}
use Rattle.op_types.specs.declared.operation_result.OperationResultTr.TheVariants as run
use Rattle.op_types.specs.declared.operation_result.OperationResult.{OperationResult}
use Rattle.op_types.specs.declared.operation_result.OperationResult.TheVariants as operation
use Rattle.op_types.specs.declared.transaction_result.InnerTransactionOutcome.{InnerTransactionOutcome}
use Rattle.op_types.specs.declared.transaction_result.InnerTransactionResult.{InnerTransactionResult}
use Rattle.op_types.specs.declared.transaction_result.InnerTransactionResultPair.{InnerTransactionResultPair}
use Rattle.op_types.specs.declared.transaction_result.TransactionOutcome.{TransactionOutcome}
use Rattle.op_types.specs.declared.transaction_result.TransactionResult.{TransactionResult}
use Rattle.op_types.specs.declared.transaction_result.TransactionResultPair.{TransactionResultPair}
use Rattle.op_types.specs.declared.transaction_result.TransactionResultSet.{TransactionResultSet}
use Rattle.op_types.specs.declared.transaction_result.InnerTransactionOutcome.TheVariants as inner
use Rattle.op_types.specs.declared.transaction_result.TransactionOutcome.TheVariants as outcome
use Rattle.op_types.specs.Numbers.{minus}
use Rattle.op_types.specs.Codes.{operation_code, operation_values, inner_code, inner_values, outcome_code}
use Rattle.op_types.specs.Codes.{outcome_values}
use Rattle.xdr_entries.specs.Basic.{arm, hash}
use Rattle.xdr_results.specs.Coded.{plain, plain_arms}
use Rattle.xdr_results.specs.Answers.{create_account_result, payment_result, path_payment_strict_receive_result}
use Rattle.xdr_results.specs.Answers.{path_payment_strict_send_result, manage_offer_result, set_options_result}
use Rattle.xdr_results.specs.Answers.{change_trust_result, allow_trust_result, account_merge_result, inflation_result}
use Rattle.xdr_results.specs.Answers.{manage_data_result, bump_sequence_result, create_claimable_balance_result}
use Rattle.xdr_results.specs.Answers.{claim_claimable_balance_result, begin_sponsoring_future_reserves_result}
use Rattle.xdr_results.specs.Answers.{end_sponsoring_future_reserves_result, revoke_sponsorship_result, clawback_result}
use Rattle.xdr_results.specs.Answers.{clawback_claimable_balance_result, set_trust_line_flags_result}
use Rattle.xdr_results.specs.Answers.{liquidity_pool_deposit_result, liquidity_pool_withdraw_result}

-- ---- operations

abbrev pub create_account_answer : Arm XdrFault OperationResultTr
create_account_answer = arm types.CREATE_ACCOUNT create_account_result run.CreateAccount

abbrev pub payment_answer : Arm XdrFault OperationResultTr
payment_answer = arm types.PAYMENT payment_result run.Payment

abbrev pub path_payment_strict_receive_answer : Arm XdrFault OperationResultTr
path_payment_strict_receive_answer =
    arm types.PATH_PAYMENT_STRICT_RECEIVE path_payment_strict_receive_result run.PathPaymentStrictReceive

abbrev pub manage_sell_offer_answer : Arm XdrFault OperationResultTr
manage_sell_offer_answer = arm types.MANAGE_SELL_OFFER manage_offer_result run.ManageSellOffer

abbrev pub create_passive_sell_offer_answer : Arm XdrFault OperationResultTr
create_passive_sell_offer_answer = arm types.CREATE_PASSIVE_SELL_OFFER manage_offer_result run.CreatePassiveSellOffer

abbrev pub set_options_answer : Arm XdrFault OperationResultTr
set_options_answer = arm types.SET_OPTIONS set_options_result run.SetOptions

abbrev pub change_trust_answer : Arm XdrFault OperationResultTr
change_trust_answer = arm types.CHANGE_TRUST change_trust_result run.ChangeTrust

abbrev pub allow_trust_answer : Arm XdrFault OperationResultTr
allow_trust_answer = arm types.ALLOW_TRUST allow_trust_result run.AllowTrust

abbrev pub account_merge_answer : Arm XdrFault OperationResultTr
account_merge_answer = arm types.ACCOUNT_MERGE account_merge_result run.AccountMerge

abbrev pub inflation_answer : Arm XdrFault OperationResultTr
inflation_answer = arm types.INFLATION inflation_result run.Inflation

abbrev pub manage_data_answer : Arm XdrFault OperationResultTr
manage_data_answer = arm types.MANAGE_DATA manage_data_result run.ManageData

abbrev pub bump_sequence_answer : Arm XdrFault OperationResultTr
bump_sequence_answer = arm types.BUMP_SEQUENCE bump_sequence_result run.BumpSequence

abbrev pub manage_buy_offer_answer : Arm XdrFault OperationResultTr
manage_buy_offer_answer = arm types.MANAGE_BUY_OFFER manage_offer_result run.ManageBuyOffer

abbrev pub path_payment_strict_send_answer : Arm XdrFault OperationResultTr
path_payment_strict_send_answer =
    arm types.PATH_PAYMENT_STRICT_SEND path_payment_strict_send_result run.PathPaymentStrictSend

abbrev pub create_claimable_balance_answer : Arm XdrFault OperationResultTr
create_claimable_balance_answer =
    arm types.CREATE_CLAIMABLE_BALANCE create_claimable_balance_result run.CreateClaimableBalance

abbrev pub claim_claimable_balance_answer : Arm XdrFault OperationResultTr
claim_claimable_balance_answer =
    arm types.CLAIM_CLAIMABLE_BALANCE claim_claimable_balance_result run.ClaimClaimableBalance

abbrev pub begin_sponsoring_future_reserves_answer : Arm XdrFault OperationResultTr
begin_sponsoring_future_reserves_answer =
    arm types.BEGIN_SPONSORING_FUTURE_RESERVES begin_sponsoring_future_reserves_result run.BeginSponsoringFutureReserves

abbrev pub end_sponsoring_future_reserves_answer : Arm XdrFault OperationResultTr
end_sponsoring_future_reserves_answer =
    arm types.END_SPONSORING_FUTURE_RESERVES end_sponsoring_future_reserves_result run.EndSponsoringFutureReserves

abbrev pub revoke_sponsorship_answer : Arm XdrFault OperationResultTr
revoke_sponsorship_answer = arm types.REVOKE_SPONSORSHIP revoke_sponsorship_result run.RevokeSponsorship

abbrev pub clawback_answer : Arm XdrFault OperationResultTr
clawback_answer = arm types.CLAWBACK clawback_result run.Clawback

abbrev pub clawback_claimable_balance_answer : Arm XdrFault OperationResultTr
clawback_claimable_balance_answer =
    arm types.CLAWBACK_CLAIMABLE_BALANCE clawback_claimable_balance_result run.ClawbackClaimableBalance

abbrev pub set_trust_line_flags_answer : Arm XdrFault OperationResultTr
set_trust_line_flags_answer = arm types.SET_TRUST_LINE_FLAGS set_trust_line_flags_result run.SetTrustLineFlags

abbrev pub liquidity_pool_deposit_answer : Arm XdrFault OperationResultTr
liquidity_pool_deposit_answer = arm types.LIQUIDITY_POOL_DEPOSIT liquidity_pool_deposit_result run.LiquidityPoolDeposit

abbrev pub liquidity_pool_withdraw_answer : Arm XdrFault OperationResultTr
liquidity_pool_withdraw_answer =
    arm types.LIQUIDITY_POOL_WITHDRAW liquidity_pool_withdraw_result run.LiquidityPoolWithdraw

-- the types from 18 on
unfoldable pub last_run_arms : List (Arm XdrFault OperationResultTr)
last_run_arms =
    revoke_sponsorship_answer ∷ clawback_answer ∷ clawback_claimable_balance_answer ∷ set_trust_line_flags_answer
    ∷ liquidity_pool_deposit_answer ∷ liquidity_pool_withdraw_answer ∷ []

-- the types from 12 on
unfoldable pub third_run_arms : List (Arm XdrFault OperationResultTr)
third_run_arms =
    manage_buy_offer_answer ∷ path_payment_strict_send_answer ∷ create_claimable_balance_answer
    ∷ claim_claimable_balance_answer ∷ begin_sponsoring_future_reserves_answer ∷ end_sponsoring_future_reserves_answer
    ∷ last_run_arms

-- the types from 6 on
unfoldable pub second_run_arms : List (Arm XdrFault OperationResultTr)
second_run_arms =
    change_trust_answer ∷ allow_trust_answer ∷ account_merge_answer ∷ inflation_answer ∷ manage_data_answer
    ∷ bump_sequence_answer ∷ third_run_arms

abbrev pub run_arms : List (Arm XdrFault OperationResultTr)
run_arms =
    create_account_answer ∷ payment_answer ∷ path_payment_strict_receive_answer ∷ manage_sell_offer_answer
    ∷ create_passive_sell_offer_answer ∷ set_options_answer ∷ second_run_arms

abbrev pub run_part : OperationResultTr → Part XdrFault OperationResultTr
run_part (run.CreateAccount answer) = part create_account_answer answer
run_part (run.Payment answer) = part payment_answer answer
run_part (run.PathPaymentStrictReceive answer) = part path_payment_strict_receive_answer answer
run_part (run.ManageSellOffer answer) = part manage_sell_offer_answer answer
run_part (run.CreatePassiveSellOffer answer) = part create_passive_sell_offer_answer answer
run_part (run.SetOptions answer) = part set_options_answer answer
run_part (run.ChangeTrust answer) = part change_trust_answer answer
run_part (run.AllowTrust answer) = part allow_trust_answer answer
run_part (run.AccountMerge answer) = part account_merge_answer answer
run_part (run.Inflation answer) = part inflation_answer answer
run_part (run.ManageData answer) = part manage_data_answer answer
run_part (run.BumpSequence answer) = part bump_sequence_answer answer
run_part (run.ManageBuyOffer answer) = part manage_buy_offer_answer answer
run_part (run.PathPaymentStrictSend answer) = part path_payment_strict_send_answer answer
run_part (run.CreateClaimableBalance answer) = part create_claimable_balance_answer answer
run_part (run.ClaimClaimableBalance answer) = part claim_claimable_balance_answer answer
run_part (run.BeginSponsoringFutureReserves answer) = part begin_sponsoring_future_reserves_answer answer
run_part (run.EndSponsoringFutureReserves answer) = part end_sponsoring_future_reserves_answer answer
run_part (run.RevokeSponsorship answer) = part revoke_sponsorship_answer answer
run_part (run.Clawback answer) = part clawback_answer answer
run_part (run.ClawbackClaimableBalance answer) = part clawback_claimable_balance_answer answer
run_part (run.SetTrustLineFlags answer) = part set_trust_line_flags_answer answer
run_part (run.LiquidityPoolDeposit answer) = part liquidity_pool_deposit_answer answer
run_part (run.LiquidityPoolWithdraw answer) = part liquidity_pool_withdraw_answer answer

-- the type of the operation that answers
abbrev pub type_of : OperationResultTr → ℤ
type_of (run.CreateAccount answer) = types.CREATE_ACCOUNT
type_of (run.Payment answer) = types.PAYMENT
type_of (run.PathPaymentStrictReceive answer) = types.PATH_PAYMENT_STRICT_RECEIVE
type_of (run.ManageSellOffer answer) = types.MANAGE_SELL_OFFER
type_of (run.CreatePassiveSellOffer answer) = types.CREATE_PASSIVE_SELL_OFFER
type_of (run.SetOptions answer) = types.SET_OPTIONS
type_of (run.ChangeTrust answer) = types.CHANGE_TRUST
type_of (run.AllowTrust answer) = types.ALLOW_TRUST
type_of (run.AccountMerge answer) = types.ACCOUNT_MERGE
type_of (run.Inflation answer) = types.INFLATION
type_of (run.ManageData answer) = types.MANAGE_DATA
type_of (run.BumpSequence answer) = types.BUMP_SEQUENCE
type_of (run.ManageBuyOffer answer) = types.MANAGE_BUY_OFFER
type_of (run.PathPaymentStrictSend answer) = types.PATH_PAYMENT_STRICT_SEND
type_of (run.CreateClaimableBalance answer) = types.CREATE_CLAIMABLE_BALANCE
type_of (run.ClaimClaimableBalance answer) = types.CLAIM_CLAIMABLE_BALANCE
type_of (run.BeginSponsoringFutureReserves answer) = types.BEGIN_SPONSORING_FUTURE_RESERVES
type_of (run.EndSponsoringFutureReserves answer) = types.END_SPONSORING_FUTURE_RESERVES
type_of (run.RevokeSponsorship answer) = types.REVOKE_SPONSORSHIP
type_of (run.Clawback answer) = types.CLAWBACK
type_of (run.ClawbackClaimableBalance answer) = types.CLAWBACK_CLAIMABLE_BALANCE
type_of (run.SetTrustLineFlags answer) = types.SET_TRUST_LINE_FLAGS
type_of (run.LiquidityPoolDeposit answer) = types.LIQUIDITY_POOL_DEPOSIT
type_of (run.LiquidityPoolWithdraw answer) = types.LIQUIDITY_POOL_WITHDRAW

unfoldable pub operation_result_tr : Xdr OperationResultTr
operation_result_tr = union_of run_part run_arms

abbrev pub operation_inner : Arm XdrFault OperationResult
operation_inner = arm (pos 0) operation_result_tr operation.Inner

abbrev pub operation_arms : List (Arm XdrFault OperationResult)
operation_arms = operation_inner ∷ plain_arms operation_code operation_values

abbrev pub operation_part : OperationResult → Part XdrFault OperationResult
operation_part (operation.Inner answer) = part operation_inner answer
operation_part answer = part (plain operation_code answer) tt

unfoldable pub operation_result : Xdr OperationResult
operation_result = union_of operation_part operation_arms

-- ---- the inner transaction of a fee bump

abbrev pub inner_success : Arm XdrFault InnerTransactionOutcome
inner_success = arm (pos 0) (list_of 4294967295 operation_result) inner.Success

abbrev pub inner_failed : Arm XdrFault InnerTransactionOutcome
inner_failed = arm (minus 1) (list_of 4294967295 operation_result) inner.Failed

abbrev pub inner_arms : List (Arm XdrFault InnerTransactionOutcome)
inner_arms = inner_success ∷ inner_failed ∷ plain_arms inner_code inner_values

abbrev pub inner_part : InnerTransactionOutcome → Part XdrFault InnerTransactionOutcome
inner_part (inner.Success results) = part inner_success results
inner_part (inner.Failed results) = part inner_failed results
inner_part ended = part (plain inner_code ended) tt

unfoldable pub inner_transaction_outcome : Xdr InnerTransactionOutcome
inner_transaction_outcome = union_of inner_part inner_arms

abbrev pub inner_result_fields : Fields (ℤ × InnerTransactionOutcome) InnerTransactionResult
inner_result_fields = record {
  to = λ v. record { fee_charged = v.0; outcome = v.1 };
  from = λ r. (r.fee_charged, r.outcome);
  there = λ _. refl;
  back = λ _. refl;
}

unfoldable pub inner_transaction_result : Xdr InnerTransactionResult
inner_transaction_result = struct_of inner_result_fields (i64 ⨾ closed inner_transaction_outcome (tag (pos 0)))

abbrev pub inner_pair_fields : Fields (Hash × InnerTransactionResult) InnerTransactionResultPair
inner_pair_fields = record {
  to = λ v. record { transaction_hash = v.0; result = v.1 };
  from = λ p. (p.transaction_hash, p.result);
  there = λ _. refl;
  back = λ _. refl;
}

unfoldable pub inner_transaction_result_pair : Xdr InnerTransactionResultPair
inner_transaction_result_pair = struct_of inner_pair_fields (hash ⨾ inner_transaction_result)

-- ---- transactions

abbrev pub outcome_success : Arm XdrFault TransactionOutcome
outcome_success = arm (pos 0) (list_of 4294967295 operation_result) outcome.Success

abbrev pub outcome_failed : Arm XdrFault TransactionOutcome
outcome_failed = arm (minus 1) (list_of 4294967295 operation_result) outcome.Failed

abbrev pub outcome_inner_success : Arm XdrFault TransactionOutcome
outcome_inner_success = arm (pos 1) inner_transaction_result_pair outcome.FeeBumpInnerSuccess

abbrev pub outcome_inner_failed : Arm XdrFault TransactionOutcome
outcome_inner_failed = arm (minus 13) inner_transaction_result_pair outcome.FeeBumpInnerFailed

abbrev pub outcome_arms : List (Arm XdrFault TransactionOutcome)
outcome_arms =
    outcome_success ∷ outcome_failed ∷ outcome_inner_success ∷ outcome_inner_failed
    ∷ plain_arms outcome_code outcome_values

abbrev pub outcome_part : TransactionOutcome → Part XdrFault TransactionOutcome
outcome_part (outcome.Success results) = part outcome_success results
outcome_part (outcome.Failed results) = part outcome_failed results
outcome_part (outcome.FeeBumpInnerSuccess pair) = part outcome_inner_success pair
outcome_part (outcome.FeeBumpInnerFailed pair) = part outcome_inner_failed pair
outcome_part ended = part (plain outcome_code ended) tt

unfoldable pub transaction_outcome : Xdr TransactionOutcome
transaction_outcome = union_of outcome_part outcome_arms

abbrev pub result_fields : Fields (ℤ × TransactionOutcome) TransactionResult
result_fields = record {
  to = λ v. record { fee_charged = v.0; outcome = v.1 };
  from = λ r. (r.fee_charged, r.outcome);
  there = λ _. refl;
  back = λ _. refl;
}

unfoldable pub transaction_result : Xdr TransactionResult
transaction_result = struct_of result_fields (i64 ⨾ closed transaction_outcome (tag (pos 0)))

abbrev pub pair_fields : Fields (Hash × TransactionResult) TransactionResultPair
pair_fields = record {
  to = λ v. record { transaction_hash = v.0; result = v.1 };
  from = λ p. (p.transaction_hash, p.result);
  there = λ _. refl;
  back = λ _. refl;
}

unfoldable pub transaction_result_pair : Xdr TransactionResultPair
transaction_result_pair = struct_of pair_fields (hash ⨾ transaction_result)

abbrev pub result_set_fields : Fields (List TransactionResultPair) TransactionResultSet
result_set_fields = record {
  to = λ results. record { results = results };
  from = λ s. s.results;
  there = λ _. refl;
  back = λ _. refl;
}

unfoldable pub transaction_result_set : Xdr TransactionResultSet
transaction_result_set = struct_of result_set_fields (list_of 4294967295 transaction_result_pair)
