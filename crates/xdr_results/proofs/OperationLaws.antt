-- The laws of the formats of what operations answer.
use Rattle.std.proofs.Common.{pos, negsuc, refl}
use Rattle.xdr_core.proofs.FormatLaws.{Laws, arm_laws, found, union_laws}
use Rattle.xdr_results.proofs.Plain.{plain_under, plain_are}
use Rattle.xdr_core.proofs.Unions.{IsFound}
use Rattle.op_types.specs.declared.operation_result.OperationResultTr.{OperationResultTr}
use Rattle.op_types.specs.declared.operation_result.OperationResultTr.TheVariants as run
use Rattle.op_types.specs.declared.operation_result.OperationResult.{OperationResult}
use Rattle.op_types.specs.declared.operation_result.OperationResult.TheVariants as operation
use Rattle.op_types.specs.Codes.{operation_code, operation_values}
use Rattle.xdr_results.proofs.AnswerLaws.{create_account_result_laws, payment_result_laws}
use Rattle.xdr_results.proofs.AnswerLaws.{path_payment_strict_receive_result_laws, path_payment_strict_send_result_laws}
use Rattle.xdr_results.proofs.AnswerLaws.{manage_offer_result_laws, set_options_result_laws, change_trust_result_laws}
use Rattle.xdr_results.proofs.AnswerLaws.{allow_trust_result_laws, account_merge_result_laws, inflation_result_laws}
use Rattle.xdr_results.proofs.AnswerLaws.{manage_data_result_laws, bump_sequence_result_laws}
use Rattle.xdr_results.proofs.AnswerLaws.{create_claimable_balance_result_laws, claim_claimable_balance_result_laws}
use Rattle.xdr_results.proofs.AnswerLaws.{begin_sponsoring_future_reserves_result_laws}
use Rattle.xdr_results.proofs.AnswerLaws.{end_sponsoring_future_reserves_result_laws, revoke_sponsorship_result_laws}
use Rattle.xdr_results.proofs.AnswerLaws.{clawback_result_laws, clawback_claimable_balance_result_laws}
use Rattle.xdr_results.proofs.AnswerLaws.{set_trust_line_flags_result_laws, liquidity_pool_deposit_result_laws}
use Rattle.xdr_results.proofs.AnswerLaws.{liquidity_pool_withdraw_result_laws}
use Rattle.xdr_results.specs.Results.{create_account_answer, payment_answer, path_payment_strict_receive_answer}
use Rattle.xdr_results.specs.Results.{manage_sell_offer_answer, create_passive_sell_offer_answer, set_options_answer}
use Rattle.xdr_results.specs.Results.{change_trust_answer, allow_trust_answer, account_merge_answer, inflation_answer}
use Rattle.xdr_results.specs.Results.{manage_data_answer, bump_sequence_answer, manage_buy_offer_answer}
use Rattle.xdr_results.specs.Results.{path_payment_strict_send_answer, create_claimable_balance_answer}
use Rattle.xdr_results.specs.Results.{claim_claimable_balance_answer, begin_sponsoring_future_reserves_answer}
use Rattle.xdr_results.specs.Results.{end_sponsoring_future_reserves_answer, revoke_sponsorship_answer, clawback_answer}
use Rattle.xdr_results.specs.Results.{clawback_claimable_balance_answer, set_trust_line_flags_answer}
use Rattle.xdr_results.specs.Results.{liquidity_pool_deposit_answer, liquidity_pool_withdraw_answer, last_run_arms}
use Rattle.xdr_results.specs.Results.{third_run_arms, second_run_arms, run_arms, run_part, operation_result_tr}
use Rattle.xdr_results.specs.Results.{operation_inner, operation_arms, operation_part, operation_result}

operation_result_tr_found : (v : OperationResultTr) → IsFound run_part run_arms v
unfolding second_run_arms third_run_arms last_run_arms
operation_result_tr_found (run.CreateAccount answer) =
    found create_account_answer answer create_account_result_laws tt refl refl (λ _ _ _. refl)
operation_result_tr_found (run.Payment answer) =
    found payment_answer answer payment_result_laws tt refl refl (λ _ _ _. refl)
operation_result_tr_found (run.PathPaymentStrictReceive answer) =
    found path_payment_strict_receive_answer answer
    path_payment_strict_receive_result_laws tt refl refl (λ _ _ _. refl)
operation_result_tr_found (run.ManageSellOffer answer) =
    found manage_sell_offer_answer answer manage_offer_result_laws tt refl refl (λ _ _ _. refl)
operation_result_tr_found (run.CreatePassiveSellOffer answer) =
    found create_passive_sell_offer_answer answer manage_offer_result_laws tt refl refl (λ _ _ _. refl)
operation_result_tr_found (run.SetOptions answer) =
    found set_options_answer answer set_options_result_laws tt refl refl (λ _ _ _. refl)
operation_result_tr_found (run.ChangeTrust answer) =
    found change_trust_answer answer change_trust_result_laws tt refl refl (λ _ _ _. refl)
operation_result_tr_found (run.AllowTrust answer) =
    found allow_trust_answer answer allow_trust_result_laws tt refl refl (λ _ _ _. refl)
operation_result_tr_found (run.AccountMerge answer) =
    found account_merge_answer answer account_merge_result_laws tt refl refl (λ _ _ _. refl)
operation_result_tr_found (run.Inflation answer) =
    found inflation_answer answer inflation_result_laws tt refl refl (λ _ _ _. refl)
operation_result_tr_found (run.ManageData answer) =
    found manage_data_answer answer manage_data_result_laws tt refl refl (λ _ _ _. refl)
operation_result_tr_found (run.BumpSequence answer) =
    found bump_sequence_answer answer bump_sequence_result_laws tt refl refl (λ _ _ _. refl)
operation_result_tr_found (run.ManageBuyOffer answer) =
    found manage_buy_offer_answer answer manage_offer_result_laws tt refl refl (λ _ _ _. refl)
operation_result_tr_found (run.PathPaymentStrictSend answer) =
    found path_payment_strict_send_answer answer path_payment_strict_send_result_laws tt refl refl (λ _ _ _. refl)
operation_result_tr_found (run.CreateClaimableBalance answer) =
    found create_claimable_balance_answer answer create_claimable_balance_result_laws tt refl refl (λ _ _ _. refl)
operation_result_tr_found (run.ClaimClaimableBalance answer) =
    found claim_claimable_balance_answer answer claim_claimable_balance_result_laws tt refl refl (λ _ _ _. refl)
operation_result_tr_found (run.BeginSponsoringFutureReserves answer) =
    found begin_sponsoring_future_reserves_answer answer
    begin_sponsoring_future_reserves_result_laws tt refl refl (λ _ _ _. refl)
operation_result_tr_found (run.EndSponsoringFutureReserves answer) =
    found end_sponsoring_future_reserves_answer answer
    end_sponsoring_future_reserves_result_laws tt refl refl (λ _ _ _. refl)
operation_result_tr_found (run.RevokeSponsorship answer) =
    found revoke_sponsorship_answer answer revoke_sponsorship_result_laws tt refl refl (λ _ _ _. refl)
operation_result_tr_found (run.Clawback answer) =
    found clawback_answer answer clawback_result_laws tt refl refl (λ _ _ _. refl)
operation_result_tr_found (run.ClawbackClaimableBalance answer) =
    found clawback_claimable_balance_answer answer clawback_claimable_balance_result_laws tt refl refl (λ _ _ _. refl)
operation_result_tr_found (run.SetTrustLineFlags answer) =
    found set_trust_line_flags_answer answer set_trust_line_flags_result_laws tt refl refl (λ _ _ _. refl)
operation_result_tr_found (run.LiquidityPoolDeposit answer) =
    found liquidity_pool_deposit_answer answer liquidity_pool_deposit_result_laws tt refl refl (λ _ _ _. refl)
operation_result_tr_found (run.LiquidityPoolWithdraw answer) =
    found liquidity_pool_withdraw_answer answer liquidity_pool_withdraw_result_laws tt refl refl (λ _ _ _. refl)

pub operation_result_tr_laws : Laws operation_result_tr
unfolding operation_result_tr second_run_arms third_run_arms last_run_arms
operation_result_tr_laws = union_laws (
  arm_laws create_account_result_laws (λ x. refl),
  (
    arm_laws payment_result_laws (λ x. refl),
    (
      arm_laws path_payment_strict_receive_result_laws (λ x. refl),
      (
        arm_laws manage_offer_result_laws (λ x. refl),
        (
          arm_laws manage_offer_result_laws (λ x. refl),
          (
            arm_laws set_options_result_laws (λ x. refl),
            (
              arm_laws change_trust_result_laws (λ x. refl),
              (
                arm_laws allow_trust_result_laws (λ x. refl),
                (
                  arm_laws account_merge_result_laws (λ x. refl),
                  (
                    arm_laws inflation_result_laws (λ x. refl),
                    (
                      arm_laws manage_data_result_laws (λ x. refl),
                      (
                        arm_laws bump_sequence_result_laws (λ x. refl),
                        (
                          arm_laws manage_offer_result_laws (λ x. refl),
                          (
                            arm_laws path_payment_strict_send_result_laws (λ x. refl),
                            (
                              arm_laws create_claimable_balance_result_laws (λ x. refl),
                              (
                                arm_laws claim_claimable_balance_result_laws (λ x. refl),
                                (
                                  arm_laws begin_sponsoring_future_reserves_result_laws (λ x. refl),
                                  (
                                    arm_laws end_sponsoring_future_reserves_result_laws (λ x. refl),
                                    (
                                      arm_laws revoke_sponsorship_result_laws (λ x. refl),
                                      (
                                        arm_laws clawback_result_laws (λ x. refl),
                                        (
                                          arm_laws clawback_claimable_balance_result_laws (λ x. refl),
                                          (
                                            arm_laws set_trust_line_flags_result_laws (λ x. refl),
                                            (
                                              arm_laws liquidity_pool_deposit_result_laws (λ x. refl),
                                              (arm_laws liquidity_pool_withdraw_result_laws (λ x. refl), tt),
                                            ),
                                          ),
                                        ),
                                      ),
                                    ),
                                  ),
                                ),
                              ),
                            ),
                          ),
                        ),
                      ),
                    ),
                  ),
                ),
              ),
            ),
          ),
        ),
      ),
    ),
  ),
)
    operation_result_tr_found

operation_result_found : (v : OperationResult) → IsFound operation_part operation_arms v
operation_result_found (operation.Inner answer) =
    found operation_inner answer operation_result_tr_laws tt refl refl (λ _ _ _. refl)
operation_result_found operation.BadAuth = plain_under operation_code tt refl (λ _ _ _. refl)
operation_result_found operation.NoAccount = plain_under operation_code tt refl (λ _ _ _. refl)
operation_result_found operation.NotSupported = plain_under operation_code tt refl (λ _ _ _. refl)
operation_result_found operation.TooManySubentries = plain_under operation_code tt refl (λ _ _ _. refl)
operation_result_found operation.ExceededWorkLimit = plain_under operation_code tt refl (λ _ _ _. refl)
operation_result_found operation.TooManySponsoring = plain_under operation_code tt refl (λ _ _ _. refl)

pub operation_result_laws : Laws operation_result
unfolding operation_result
operation_result_laws = union_laws (
  arm_laws operation_result_tr_laws (λ x. refl),
  plain_are _ operation_code operation_values (refl, (refl, (refl, (refl, (refl, (refl, tt)))))),
)
    operation_result_found
