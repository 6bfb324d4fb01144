-- What an operation does, by its type: each type is defined in the crate of its kind (OperationFrame::makeHelper in
-- stellar-core).
use Rattle.op_flags.specs.op_types.declared.operation.OperationBody.{OperationBody}
use Rattle.op_flags.specs.op_types.declared.operation.OperationBody.TheVariants as body
use Rattle.op_flags.specs.entry_map.EntryMap.{EntryMap}
use Rattle.op_flags.specs.sponsor_rules.declared.context.Ctx.{Ctx}
use Rattle.op_flags.specs.op_form.Done.{Done}
use Rattle.op_account.specs.Operations.{account_operation}
use Rattle.op_claim.specs.Operations.{claim_operation}
use Rattle.op_flags.specs.Operations.{flags_operation}
use Rattle.op_offers.specs.Operations.{offers_operation}
use Rattle.op_options.specs.Operations.{options_operation}
use Rattle.op_payment.specs.Operations.{payment_operation}
use Rattle.op_pool.specs.Operations.{pool_operation}
use Rattle.op_sponsor.specs.Operations.{sponsor_operation}
use Rattle.op_trust.specs.Operations.{trust_operation}

unfoldable pub any_operation : Ctx → OperationBody → EntryMap → Done
any_operation ctx (body.CreateAccount op) m = account_operation ctx (body.CreateAccount op) m
any_operation ctx (body.AccountMerge op) m = account_operation ctx (body.AccountMerge op) m
any_operation ctx body.Inflation m = account_operation ctx body.Inflation m
any_operation ctx (body.BumpSequence op) m = account_operation ctx (body.BumpSequence op) m
any_operation ctx (body.ManageSellOffer op) m = offers_operation ctx (body.ManageSellOffer op) m
any_operation ctx (body.CreatePassiveSellOffer op) m = offers_operation ctx (body.CreatePassiveSellOffer op) m
any_operation ctx (body.ManageBuyOffer op) m = offers_operation ctx (body.ManageBuyOffer op) m
any_operation ctx (body.SetOptions op) m = options_operation ctx (body.SetOptions op) m
any_operation ctx (body.ManageData op) m = options_operation ctx (body.ManageData op) m
any_operation ctx (body.Payment op) m = payment_operation ctx (body.Payment op) m
any_operation ctx (body.PathPaymentStrictReceive op) m = payment_operation ctx (body.PathPaymentStrictReceive op) m
any_operation ctx (body.PathPaymentStrictSend op) m = payment_operation ctx (body.PathPaymentStrictSend op) m
any_operation ctx (body.ChangeTrust op) m = trust_operation ctx (body.ChangeTrust op) m
any_operation ctx (body.AllowTrust op) m = flags_operation ctx (body.AllowTrust op) m
any_operation ctx (body.SetTrustLineFlags op) m = flags_operation ctx (body.SetTrustLineFlags op) m
any_operation ctx (body.CreateClaimableBalance op) m = claim_operation ctx (body.CreateClaimableBalance op) m
any_operation ctx (body.ClaimClaimableBalance op) m = claim_operation ctx (body.ClaimClaimableBalance op) m
any_operation ctx (body.Clawback op) m = claim_operation ctx (body.Clawback op) m
any_operation ctx (body.ClawbackClaimableBalance op) m = claim_operation ctx (body.ClawbackClaimableBalance op) m
any_operation ctx (body.BeginSponsoringFutureReserves op) m =
    sponsor_operation ctx (body.BeginSponsoringFutureReserves op) m
any_operation ctx body.EndSponsoringFutureReserves m = sponsor_operation ctx body.EndSponsoringFutureReserves m
any_operation ctx (body.RevokeSponsorship op) m = sponsor_operation ctx (body.RevokeSponsorship op) m
any_operation ctx (body.LiquidityPoolDeposit op) m = pool_operation ctx (body.LiquidityPoolDeposit op) m
any_operation ctx (body.LiquidityPoolWithdraw op) m = pool_operation ctx (body.LiquidityPoolWithdraw op) m
