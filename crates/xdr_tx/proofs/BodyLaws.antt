-- The laws of operations.
use Rattle.std.proofs.Common.{pos, refl}
use Rattle.xdr_core.proofs.FormatLaws.{Laws, empty_laws, ◌&◌, struct_laws, option_laws, arm_laws, found, union_laws}
use Rattle.xdr_core.proofs.Unions.{IsFound}
use Rattle.xdr_entries.proofs.BasicLaws.{muxed_account_laws}
use Rattle.op_types.specs.declared.operation.OperationBody.{OperationBody}
use Rattle.op_types.specs.declared.operation.OperationBody.TheVariants as body
use Rattle.xdr_tx.proofs.OperationLaws.{create_account_op_laws, set_options_op_laws, account_merge_op_laws}
use Rattle.xdr_tx.proofs.OperationLaws.{manage_data_op_laws, bump_sequence_op_laws, payment_op_laws}
use Rattle.xdr_tx.proofs.OperationLaws.{path_payment_strict_receive_op_laws, path_payment_strict_send_op_laws}
use Rattle.xdr_tx.proofs.OperationLaws.{manage_sell_offer_op_laws, create_passive_sell_offer_op_laws}
use Rattle.xdr_tx.proofs.OperationLaws.{manage_buy_offer_op_laws, change_trust_op_laws, allow_trust_op_laws}
use Rattle.xdr_tx.proofs.OperationLaws.{set_trust_line_flags_op_laws, clawback_op_laws}
use Rattle.xdr_tx.proofs.OperationLaws.{create_claimable_balance_op_laws, claim_claimable_balance_op_laws}
use Rattle.xdr_tx.proofs.OperationLaws.{clawback_claimable_balance_op_laws, begin_sponsoring_future_reserves_op_laws}
use Rattle.xdr_tx.proofs.OperationLaws.{revoke_sponsorship_op_laws, liquidity_pool_deposit_op_laws}
use Rattle.xdr_tx.proofs.OperationLaws.{liquidity_pool_withdraw_op_laws}
use Rattle.xdr_tx.specs.Operations.{create_account_arm, payment_arm, path_payment_strict_receive_arm}
use Rattle.xdr_tx.specs.Operations.{manage_sell_offer_arm, create_passive_sell_offer_arm, set_options_arm}
use Rattle.xdr_tx.specs.Operations.{change_trust_arm, allow_trust_arm, account_merge_arm, inflation_arm}
use Rattle.xdr_tx.specs.Operations.{manage_data_arm, bump_sequence_arm, manage_buy_offer_arm}
use Rattle.xdr_tx.specs.Operations.{path_payment_strict_send_arm, create_claimable_balance_arm}
use Rattle.xdr_tx.specs.Operations.{claim_claimable_balance_arm, begin_sponsoring_future_reserves_arm}
use Rattle.xdr_tx.specs.Operations.{end_sponsoring_future_reserves_arm, revoke_sponsorship_arm, clawback_arm}
use Rattle.xdr_tx.specs.Operations.{clawback_claimable_balance_arm, set_trust_line_flags_arm}
use Rattle.xdr_tx.specs.Operations.{liquidity_pool_deposit_arm, liquidity_pool_withdraw_arm, last_body_arms}
use Rattle.xdr_tx.specs.Operations.{third_body_arms, second_body_arms, body_arms, body_part, operation_body}
use Rattle.xdr_tx.specs.Operations.{operation_fields, operation}

operation_body_found : (v : OperationBody) → IsFound body_part body_arms v
unfolding second_body_arms third_body_arms last_body_arms
operation_body_found (body.CreateAccount op) =
    found create_account_arm op create_account_op_laws tt refl refl (λ _ _ _. refl)
operation_body_found (body.Payment op) = found payment_arm op payment_op_laws tt refl refl (λ _ _ _. refl)
operation_body_found (body.PathPaymentStrictReceive op) =
    found path_payment_strict_receive_arm op path_payment_strict_receive_op_laws tt refl refl (λ _ _ _. refl)
operation_body_found (body.ManageSellOffer op) =
    found manage_sell_offer_arm op manage_sell_offer_op_laws tt refl refl (λ _ _ _. refl)
operation_body_found (body.CreatePassiveSellOffer op) =
    found create_passive_sell_offer_arm op create_passive_sell_offer_op_laws tt refl refl (λ _ _ _. refl)
operation_body_found (body.SetOptions op) = found set_options_arm op set_options_op_laws tt refl refl (λ _ _ _. refl)
operation_body_found (body.ChangeTrust op) =
    found change_trust_arm op change_trust_op_laws tt refl refl (λ _ _ _. refl)
operation_body_found (body.AllowTrust op) = found allow_trust_arm op allow_trust_op_laws tt refl refl (λ _ _ _. refl)
operation_body_found (body.AccountMerge op) =
    found account_merge_arm op account_merge_op_laws tt refl refl (λ _ _ _. refl)
operation_body_found body.Inflation = found inflation_arm tt empty_laws tt refl refl (λ _ _ _. refl)
operation_body_found (body.ManageData op) = found manage_data_arm op manage_data_op_laws tt refl refl (λ _ _ _. refl)
operation_body_found (body.BumpSequence op) =
    found bump_sequence_arm op bump_sequence_op_laws tt refl refl (λ _ _ _. refl)
operation_body_found (body.ManageBuyOffer op) =
    found manage_buy_offer_arm op manage_buy_offer_op_laws tt refl refl (λ _ _ _. refl)
operation_body_found (body.PathPaymentStrictSend op) =
    found path_payment_strict_send_arm op path_payment_strict_send_op_laws tt refl refl (λ _ _ _. refl)
operation_body_found (body.CreateClaimableBalance op) =
    found create_claimable_balance_arm op create_claimable_balance_op_laws tt refl refl (λ _ _ _. refl)
operation_body_found (body.ClaimClaimableBalance op) =
    found claim_claimable_balance_arm op claim_claimable_balance_op_laws tt refl refl (λ _ _ _. refl)
operation_body_found (body.BeginSponsoringFutureReserves op) =
    found begin_sponsoring_future_reserves_arm op
    begin_sponsoring_future_reserves_op_laws tt refl refl (λ _ _ _. refl)
operation_body_found body.EndSponsoringFutureReserves =
    found end_sponsoring_future_reserves_arm tt empty_laws tt refl refl (λ _ _ _. refl)
operation_body_found (body.RevokeSponsorship op) =
    found revoke_sponsorship_arm op revoke_sponsorship_op_laws tt refl refl (λ _ _ _. refl)
operation_body_found (body.Clawback op) = found clawback_arm op clawback_op_laws tt refl refl (λ _ _ _. refl)
operation_body_found (body.ClawbackClaimableBalance op) =
    found clawback_claimable_balance_arm op clawback_claimable_balance_op_laws tt refl refl (λ _ _ _. refl)
operation_body_found (body.SetTrustLineFlags op) =
    found set_trust_line_flags_arm op set_trust_line_flags_op_laws tt refl refl (λ _ _ _. refl)
operation_body_found (body.LiquidityPoolDeposit op) =
    found liquidity_pool_deposit_arm op liquidity_pool_deposit_op_laws tt refl refl (λ _ _ _. refl)
operation_body_found (body.LiquidityPoolWithdraw op) =
    found liquidity_pool_withdraw_arm op liquidity_pool_withdraw_op_laws tt refl refl (λ _ _ _. refl)

pub operation_body_laws : Laws operation_body
unfolding operation_body second_body_arms third_body_arms last_body_arms
operation_body_laws = union_laws (
  arm_laws create_account_op_laws (λ x. refl),
  (
    arm_laws payment_op_laws (λ x. refl),
    (
      arm_laws path_payment_strict_receive_op_laws (λ x. refl),
      (
        arm_laws manage_sell_offer_op_laws (λ x. refl),
        (
          arm_laws create_passive_sell_offer_op_laws (λ x. refl),
          (
            arm_laws set_options_op_laws (λ x. refl),
            (
              arm_laws change_trust_op_laws (λ x. refl),
              (
                arm_laws allow_trust_op_laws (λ x. refl),
                (
                  arm_laws account_merge_op_laws (λ x. refl),
                  (
                    arm_laws empty_laws (λ x. refl),
                    (
                      arm_laws manage_data_op_laws (λ x. refl),
                      (
                        arm_laws bump_sequence_op_laws (λ x. refl),
                        (
                          arm_laws manage_buy_offer_op_laws (λ x. refl),
                          (
                            arm_laws path_payment_strict_send_op_laws (λ x. refl),
                            (
                              arm_laws create_claimable_balance_op_laws (λ x. refl),
                              (
                                arm_laws claim_claimable_balance_op_laws (λ x. refl),
                                (
                                  arm_laws begin_sponsoring_future_reserves_op_laws (λ x. refl),
                                  (
                                    arm_laws empty_laws (λ x. refl),
                                    (
                                      arm_laws revoke_sponsorship_op_laws (λ x. refl),
                                      (
                                        arm_laws clawback_op_laws (λ x. refl),
                                        (
                                          arm_laws clawback_claimable_balance_op_laws (λ x. refl),
                                          (
                                            arm_laws set_trust_line_flags_op_laws (λ x. refl),
                                            (
                                              arm_laws liquidity_pool_deposit_op_laws (λ x. refl),
                                              (arm_laws liquidity_pool_withdraw_op_laws (λ x. refl), tt),
                                            ),
                                          ),
                                        ),
                                      ),
                                    ),
                                  ),
                                ),
                              ),
                            ),
                          ),
                        ),
                      ),
                    ),
                  ),
                ),
              ),
            ),
          ),
        ),
      ),
    ),
  ),
)
    operation_body_found

pub operation_laws : Laws operation
unfolding operation
operation_laws = struct_laws operation_fields (option_laws muxed_account_laws & operation_body_laws)
