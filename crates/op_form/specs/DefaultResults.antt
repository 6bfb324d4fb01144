-- The result of an operation that wasn't run: the one of its type with code 0, and nothing in it
-- (OperationFrame::resetResultSuccess in stellar-core over values that XDR begins with).
use Rattle.std.specs.Prelude.{[], pos, replicate}
use Rattle.ledger_types.specs.declared.ids.AccountId.{AccountId}
use Rattle.ledger_types.specs.declared.ids.ClaimableBalanceId.{ClaimableBalanceId}
use Rattle.ledger_types.specs.declared.asset.Asset.TheVariants.{Native}
use Rattle.op_types.specs.declared.operation.OperationBody.{OperationBody}
use Rattle.op_types.specs.declared.operation.OperationBody.TheVariants as body
use Rattle.op_types.specs.declared.operation_result.OperationResult.{OperationResult}
use Rattle.op_types.specs.declared.operation_result.OperationResult.TheVariants.{Inner}
use Rattle.op_types.specs.declared.operation_result.OperationResultTr.{OperationResultTr}
use Rattle.op_types.specs.declared.operation_result.OperationResultTr.TheVariants as tr
use Rattle.op_types.specs.declared.account_results.AccountMergeResult.TheVariants as account_merge
use Rattle.op_types.specs.declared.account_results.BumpSequenceResult.TheVariants as bump_sequence
use Rattle.op_types.specs.declared.account_results.InflationResult.TheVariants as inflation
use Rattle.op_types.specs.declared.account_results.ManageDataResult.TheVariants as manage_data
use Rattle.op_types.specs.declared.account_results.SetOptionsResult.TheVariants as set_options
use Rattle.op_types.specs.declared.balance_results.ClaimClaimableBalanceResult.TheVariants as claim_balance
use Rattle.op_types.specs.declared.balance_results.ClawbackClaimableBalanceResult.TheVariants as clawback_balance
use Rattle.op_types.specs.declared.balance_results.CreateClaimableBalanceResult.TheVariants as create_balance
use Rattle.op_types.specs.declared.offer_results.ManageOfferEffect.TheVariants.{Deleted}
use Rattle.op_types.specs.declared.offer_results.ManageOfferResult.{ManageOfferResult}
use Rattle.op_types.specs.declared.offer_results.ManageOfferResult.TheVariants as manage_offer
use Rattle.op_types.specs.declared.payment_results.CreateAccountResult.TheVariants as create_account
use Rattle.op_types.specs.declared.payment_results.PathPaymentStrictReceiveResult.TheVariants as path_receive
use Rattle.op_types.specs.declared.payment_results.PathPaymentStrictSendResult.TheVariants as path_send
use Rattle.op_types.specs.declared.payment_results.PathPaymentSuccess.{PathPaymentSuccess}
use Rattle.op_types.specs.declared.payment_results.PaymentResult.TheVariants as payment
use Rattle.op_types.specs.declared.pool_results.LiquidityPoolDepositResult.TheVariants as pool_deposit
use Rattle.op_types.specs.declared.pool_results.LiquidityPoolWithdrawResult.TheVariants as pool_withdraw
use Rattle.op_types.specs.declared.sponsor_results.BeginSponsoringFutureReservesResult.TheVariants as begin_sponsoring
use Rattle.op_types.specs.declared.sponsor_results.EndSponsoringFutureReservesResult.TheVariants as end_sponsoring
use Rattle.op_types.specs.declared.sponsor_results.RevokeSponsorshipResult.TheVariants as revoke_sponsorship
use Rattle.op_types.specs.declared.trust_results.AllowTrustResult.TheVariants as allow_trust
use Rattle.op_types.specs.declared.trust_results.ChangeTrustResult.TheVariants as change_trust
use Rattle.op_types.specs.declared.trust_results.ClawbackResult.TheVariants as clawback
use Rattle.op_types.specs.declared.trust_results.SetTrustLineFlagsResult.TheVariants as set_flags

abbrev pub no_account : AccountId
no_account = record { 0 = replicate 32 0 }

abbrev pub no_balance : ClaimableBalanceId
no_balance = record { 0 = record { 0 = replicate 32 0 } }

-- nothing was traded, and nothing of lumens arrived at no account
abbrev pub no_path : PathPaymentSuccess
no_path = record { offers = []; last = record { destination = no_account; asset = Native; amount = pos 0 } }

-- nothing was traded, and no offer is left
abbrev pub no_offer : ManageOfferResult
no_offer = manage_offer.Success (record { offers_claimed = []; offer = Deleted })

abbrev pub default_answer : OperationBody → OperationResultTr
default_answer (body.CreateAccount op) = tr.CreateAccount create_account.Success
default_answer (body.Payment op) = tr.Payment payment.Success
default_answer (body.PathPaymentStrictReceive op) = tr.PathPaymentStrictReceive (path_receive.Success no_path)
default_answer (body.ManageSellOffer op) = tr.ManageSellOffer no_offer
default_answer (body.CreatePassiveSellOffer op) = tr.CreatePassiveSellOffer no_offer
default_answer (body.SetOptions op) = tr.SetOptions set_options.Success
default_answer (body.ChangeTrust op) = tr.ChangeTrust change_trust.Success
default_answer (body.AllowTrust op) = tr.AllowTrust allow_trust.Success
default_answer (body.AccountMerge op) = tr.AccountMerge (account_merge.Success (pos 0))
default_answer body.Inflation = tr.Inflation (inflation.Success [])
default_answer (body.ManageData op) = tr.ManageData manage_data.Success
default_answer (body.BumpSequence op) = tr.BumpSequence bump_sequence.Success
default_answer (body.ManageBuyOffer op) = tr.ManageBuyOffer no_offer
default_answer (body.PathPaymentStrictSend op) = tr.PathPaymentStrictSend (path_send.Success no_path)
default_answer (body.CreateClaimableBalance op) = tr.CreateClaimableBalance (create_balance.Success no_balance)
default_answer (body.ClaimClaimableBalance op) = tr.ClaimClaimableBalance claim_balance.Success
default_answer (body.BeginSponsoringFutureReserves op) = tr.BeginSponsoringFutureReserves begin_sponsoring.Success
default_answer body.EndSponsoringFutureReserves = tr.EndSponsoringFutureReserves end_sponsoring.Success
default_answer (body.RevokeSponsorship op) = tr.RevokeSponsorship revoke_sponsorship.Success
default_answer (body.Clawback op) = tr.Clawback clawback.Success
default_answer (body.ClawbackClaimableBalance op) = tr.ClawbackClaimableBalance clawback_balance.Success
default_answer (body.SetTrustLineFlags op) = tr.SetTrustLineFlags set_flags.Success
default_answer (body.LiquidityPoolDeposit op) = tr.LiquidityPoolDeposit pool_deposit.Success
default_answer (body.LiquidityPoolWithdraw op) = tr.LiquidityPoolWithdraw pool_withdraw.Success

abbrev pub default_result : OperationBody → OperationResult
default_result of = Inner (default_answer of)
