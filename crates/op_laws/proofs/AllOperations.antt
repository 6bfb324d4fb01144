-- Every operation is lawful.
use Rattle.op_laws.proofs.Prelude as prelude
use prelude.{◌≡◌, refl, Ok, Err, OperationResult, NotSupported, EntryMap, Ctx, account_merge, bump_sequence}
use prelude.{create_account, attempt_of, offers_operation, manage_data, set_options, path_payment_strict_receive}
use prelude.{path_payment_strict_send, payment, liquidity_pool_deposit, liquidity_pool_withdraw, revoke_sponsorship}
use prelude.{change_trust, trust_operation, Done, Attempt, done_of, IsLawful, AllLawful, IsUnderway, leaves_itself}
use Rattle.op_flags.specs.op_types.declared.operation.OperationBody.TheVariants as body
use Rattle.op_account.specs.Operations.{account_operation}
use Rattle.op_claim.specs.ClaimClaimableBalance.{claim_claimable_balance}
use Rattle.op_claim.specs.Clawback.{clawback}
use Rattle.op_claim.specs.ClawbackClaimableBalance.{clawback_claimable_balance}
use Rattle.op_claim.specs.CreateClaimableBalance.{create_claimable_balance}
use Rattle.op_claim.specs.Operations.{claim_operation}
use Rattle.op_flags.specs.AllowTrust.{allow_trust}
use Rattle.op_flags.specs.Operations.{flags_operation}
use Rattle.op_flags.specs.SetTrustLineFlags.{set_trust_line_flags}
use Rattle.op_options.specs.Operations.{options_operation}
use Rattle.op_payment.specs.Operations.{payment_operation}
use Rattle.op_pool.specs.Operations.{pool_operation}
use Rattle.op_sponsor.specs.BeginSponsoringFutureReserves.{begin_sponsoring}
use Rattle.op_sponsor.specs.EndSponsoringFutureReserves.{end_sponsoring}
use Rattle.op_sponsor.specs.Operations.{sponsor_operation}
use Rattle.op_laws.specs.AnyOperation.{any_operation}
use Rattle.op_laws.proofs.BumpSequence.{bump_sequence_is_lawful}
use Rattle.op_laws.proofs.ChangeTrust.{change_trust_is_lawful}
use Rattle.op_laws.proofs.Claims.{claim_claimable_balance_is_lawful, clawback_claimable_balance_is_lawful}
use Rattle.op_laws.proofs.Claims.{create_claimable_balance_is_lawful}
use Rattle.op_laws.proofs.Clawbacks.{clawback_is_lawful}
use Rattle.op_laws.proofs.Deposits.{liquidity_pool_deposit_is_lawful}
use Rattle.op_laws.proofs.Lawful.{lawful_still}
use Rattle.op_laws.proofs.LineFlags.{allow_trust_is_lawful, set_trust_line_flags_is_lawful}
use Rattle.op_laws.proofs.ManageData.{manage_data_is_lawful}
use Rattle.op_laws.proofs.ManageOffers.{manage_sell_offer_is_lawful, create_passive_sell_offer_is_lawful}
use Rattle.op_laws.proofs.ManageOffers.{manage_buy_offer_is_lawful}
use Rattle.op_laws.proofs.Merging.{account_merge_is_lawful}
use Rattle.op_laws.proofs.NewAccounts.{create_account_is_lawful}
use Rattle.op_laws.proofs.PathOperations.{path_receive_is_lawful, path_send_is_lawful}
use Rattle.op_laws.proofs.Payment.{payment_is_lawful}
use Rattle.op_laws.proofs.Revoking.{revoke_sponsorship_is_lawful}
use Rattle.op_laws.proofs.SetOptions.{set_options_is_lawful}
use Rattle.op_laws.proofs.Sponsorships.{begin_sponsoring_is_lawful, end_sponsoring_is_lawful}
use Rattle.op_laws.proofs.Withdrawals.{liquidity_pool_withdraw_is_lawful}

-- An operation that fails leaves all as it was.
pub failed_is_lawful : (ctx : Ctx) (m : EntryMap) → IsUnderway ctx m → (result : OperationResult)
    → IsLawful ctx m (done_of ctx m (Err result))
failed_is_lawful ctx m under result = lawful_still ctx m under result m (λ v sum legal. legal)
    (leaves_itself ctx.base_reserve m under.settled.legal.keyed)

attempted : (ctx : Ctx) (m : EntryMap) → IsUnderway ctx m → (attempt : Attempt)
    → ((done : Done) → attempt ≡ Ok done → IsLawful ctx m done) → IsLawful ctx m (done_of ctx m attempt)
attempted ctx m under (Ok done) lawful = lawful done refl
attempted ctx m under (Err result) lawful = failed_is_lawful ctx m under result

pub all_are_lawful : AllLawful
unfolding any_operation account_operation options_operation payment_operation trust_operation flags_operation
    claim_operation sponsor_operation offers_operation pool_operation
all_are_lawful ctx (body.CreateAccount op) m fit under exists = attempted ctx m under (create_account ctx op m)
    (λ done is. create_account_is_lawful ctx op m done under exists is)
all_are_lawful ctx (body.AccountMerge op) m fit under exists = attempted ctx m under (account_merge ctx op m)
    (λ done is. account_merge_is_lawful ctx op m done under exists is)
all_are_lawful ctx body.Inflation m fit under exists = failed_is_lawful ctx m under NotSupported
all_are_lawful ctx (body.BumpSequence op) m fit under exists = attempted ctx m under (bump_sequence ctx op m)
    (λ done is. bump_sequence_is_lawful ctx op m done fit under exists is)
all_are_lawful ctx (body.ManageSellOffer op) m fit under exists = attempted ctx m under
    (attempt_of ctx (body.ManageSellOffer op) m)
    (λ done is. manage_sell_offer_is_lawful ctx op m done under exists is)
all_are_lawful ctx (body.CreatePassiveSellOffer op) m fit under exists = attempted ctx m under
    (attempt_of ctx (body.CreatePassiveSellOffer op) m)
    (λ done is. create_passive_sell_offer_is_lawful ctx op m done under exists is)
all_are_lawful ctx (body.ManageBuyOffer op) m fit under exists = attempted ctx m under
    (attempt_of ctx (body.ManageBuyOffer op) m)
    (λ done is. manage_buy_offer_is_lawful ctx op m done under exists is)
all_are_lawful ctx (body.SetOptions op) m fit under exists = attempted ctx m under (set_options ctx op m)
    (λ done is. set_options_is_lawful ctx op m done under exists is)
all_are_lawful ctx (body.ManageData op) m fit under exists = attempted ctx m under (manage_data ctx op m)
    (λ done is. manage_data_is_lawful ctx op m done under exists is)
all_are_lawful ctx (body.Payment op) m fit under exists = attempted ctx m under (payment ctx op m)
    (λ done is. payment_is_lawful ctx op m done under exists is)
all_are_lawful ctx (body.PathPaymentStrictReceive op) m fit under exists = attempted ctx m under
    (path_payment_strict_receive ctx op m) (λ done is. path_receive_is_lawful ctx op m done under exists is)
all_are_lawful ctx (body.PathPaymentStrictSend op) m fit under exists = attempted ctx m under
    (path_payment_strict_send ctx op m) (λ done is. path_send_is_lawful ctx op m done under exists is)
all_are_lawful ctx (body.ChangeTrust op) m fit under exists = attempted ctx m under (change_trust ctx op m)
    (λ done is. change_trust_is_lawful ctx op m done fit under exists is)
all_are_lawful ctx (body.AllowTrust op) m fit under exists = attempted ctx m under (allow_trust ctx op m)
    (λ done is. allow_trust_is_lawful ctx op m done under exists is)
all_are_lawful ctx (body.SetTrustLineFlags op) m fit under exists =
    attempted ctx m under (set_trust_line_flags ctx op m)
    (λ done is. set_trust_line_flags_is_lawful ctx op m done under exists is)
all_are_lawful ctx (body.CreateClaimableBalance op) m fit under exists = attempted ctx m under
    (create_claimable_balance ctx op m)
    (λ done is. create_claimable_balance_is_lawful ctx op m done fit under exists is)
all_are_lawful ctx (body.ClaimClaimableBalance op) m fit under exists = attempted ctx m under
    (claim_claimable_balance ctx op m) (λ done is. claim_claimable_balance_is_lawful ctx op m done under exists is)
all_are_lawful ctx (body.Clawback op) m fit under exists = attempted ctx m under (clawback ctx op m)
    (λ done is. clawback_is_lawful ctx op m done under exists is)
all_are_lawful ctx (body.ClawbackClaimableBalance op) m fit under exists = attempted ctx m under
    (clawback_claimable_balance ctx op m)
    (λ done is. clawback_claimable_balance_is_lawful ctx op m done under exists is)
all_are_lawful ctx (body.BeginSponsoringFutureReserves op) m fit under exists = attempted ctx m under
    (begin_sponsoring ctx op m) (λ done is. begin_sponsoring_is_lawful ctx op m done under exists is)
all_are_lawful ctx body.EndSponsoringFutureReserves m fit under exists = attempted ctx m under (end_sponsoring ctx m)
    (λ done is. end_sponsoring_is_lawful ctx tt m done under exists is)
all_are_lawful ctx (body.RevokeSponsorship op) m fit under exists = attempted ctx m under (revoke_sponsorship ctx op m)
    (λ done is. revoke_sponsorship_is_lawful ctx op m done under exists is)
all_are_lawful ctx (body.LiquidityPoolDeposit op) m fit under exists = attempted ctx m under
    (liquidity_pool_deposit ctx op m) (λ done is. liquidity_pool_deposit_is_lawful ctx op m done under exists is)
all_are_lawful ctx (body.LiquidityPoolWithdraw op) m fit under exists = attempted ctx m under
    (liquidity_pool_withdraw ctx op m) (λ done is. liquidity_pool_withdraw_is_lawful ctx op m done under exists is)
