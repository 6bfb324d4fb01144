-- Which results of operations are successes: those whose own code is 0 (OperationResult in Stellar-transaction.x).
use Rattle.std.specs.Prelude.{ℤ, pos, Bool, false}
use Rattle.std.specs.Ordering.{int_eq}
use Rattle.op_types.specs.declared.operation_result.OperationResult.{OperationResult}
use Rattle.op_types.specs.declared.operation_result.OperationResult.TheVariants.{Inner}
use Rattle.op_types.specs.declared.operation_result.OperationResultTr.{OperationResultTr}
use Rattle.op_types.specs.declared.operation_result.OperationResultTr.TheVariants as tr
use Rattle.op_types.specs.Codes as codes

-- the number of an operation's own code
abbrev pub own_code : OperationResultTr → ℤ
own_code (tr.CreateAccount answer) = codes.create_account_code answer
own_code (tr.Payment answer) = codes.payment_code answer
own_code (tr.PathPaymentStrictReceive answer) = codes.path_payment_strict_receive_code answer
own_code (tr.ManageSellOffer answer) = codes.manage_offer_code answer
own_code (tr.CreatePassiveSellOffer answer) = codes.manage_offer_code answer
own_code (tr.SetOptions answer) = codes.set_options_code answer
own_code (tr.ChangeTrust answer) = codes.change_trust_code answer
own_code (tr.AllowTrust answer) = codes.allow_trust_code answer
own_code (tr.AccountMerge answer) = codes.account_merge_code answer
own_code (tr.Inflation answer) = codes.inflation_code answer
own_code (tr.ManageData answer) = codes.manage_data_code answer
own_code (tr.BumpSequence answer) = codes.bump_sequence_code answer
own_code (tr.ManageBuyOffer answer) = codes.manage_offer_code answer
own_code (tr.PathPaymentStrictSend answer) = codes.path_payment_strict_send_code answer
own_code (tr.CreateClaimableBalance answer) = codes.create_claimable_balance_code answer
own_code (tr.ClaimClaimableBalance answer) = codes.claim_claimable_balance_code answer
own_code (tr.BeginSponsoringFutureReserves answer) = codes.begin_sponsoring_future_reserves_code answer
own_code (tr.EndSponsoringFutureReserves answer) = codes.end_sponsoring_future_reserves_code answer
own_code (tr.RevokeSponsorship answer) = codes.revoke_sponsorship_code answer
own_code (tr.Clawback answer) = codes.clawback_code answer
own_code (tr.ClawbackClaimableBalance answer) = codes.clawback_claimable_balance_code answer
own_code (tr.SetTrustLineFlags answer) = codes.set_trust_line_flags_code answer
own_code (tr.LiquidityPoolDeposit answer) = codes.liquidity_pool_deposit_code answer
own_code (tr.LiquidityPoolWithdraw answer) = codes.liquidity_pool_withdraw_code answer

unfoldable pub is_success : OperationResult → Bool
is_success (Inner answer) = int_eq (own_code answer) (pos 0)
is_success other = false
