-- The laws of the formats of what each type of operation answers.
use Rattle.std.proofs.Common.{pos, negsuc, refl, arith}
use Rattle.xdr_core.proofs.FormatLaws.{Laws, i64_laws, list_laws, arm_laws, found, union_laws}
use Rattle.xdr_results.proofs.Plain.{plain_under, plain_are, IsListed, codes_laws}
use Rattle.xdr_core.proofs.Unions.{IsFound}
use Rattle.xdr_entries.proofs.BasicLaws.{claimable_balance_id_laws, asset_laws}
use Rattle.op_types.specs.declared.payment_results.CreateAccountResult.{CreateAccountResult}
use Rattle.op_types.specs.declared.payment_results.CreateAccountResult.TheVariants as create_account
use Rattle.op_types.specs.declared.payment_results.PaymentResult.{PaymentResult}
use Rattle.op_types.specs.declared.payment_results.PaymentResult.TheVariants as payment
use Rattle.op_types.specs.declared.payment_results.PathPaymentStrictReceiveResult.{PathPaymentStrictReceiveResult}
use Rattle.op_types.specs.declared.payment_results.PathPaymentStrictReceiveResult.TheVariants as strict_receive
use Rattle.op_types.specs.declared.payment_results.PathPaymentStrictSendResult.{PathPaymentStrictSendResult}
use Rattle.op_types.specs.declared.payment_results.PathPaymentStrictSendResult.TheVariants as strict_send
use Rattle.op_types.specs.declared.offer_results.ManageOfferResult.{ManageOfferResult}
use Rattle.op_types.specs.declared.offer_results.ManageOfferResult.TheVariants as manage_offer
use Rattle.op_types.specs.declared.account_results.SetOptionsResult.{SetOptionsResult}
use Rattle.op_types.specs.declared.account_results.SetOptionsResult.TheVariants as set_options
use Rattle.op_types.specs.declared.trust_results.ChangeTrustResult.{ChangeTrustResult}
use Rattle.op_types.specs.declared.trust_results.ChangeTrustResult.TheVariants as change_trust
use Rattle.op_types.specs.declared.trust_results.AllowTrustResult.{AllowTrustResult}
use Rattle.op_types.specs.declared.trust_results.AllowTrustResult.TheVariants as allow_trust
use Rattle.op_types.specs.declared.account_results.AccountMergeResult.{AccountMergeResult}
use Rattle.op_types.specs.declared.account_results.AccountMergeResult.TheVariants as account_merge
use Rattle.op_types.specs.declared.account_results.InflationResult.{InflationResult}
use Rattle.op_types.specs.declared.account_results.InflationResult.TheVariants as inflation
use Rattle.op_types.specs.declared.account_results.ManageDataResult.{ManageDataResult}
use Rattle.op_types.specs.declared.account_results.ManageDataResult.TheVariants as manage_data
use Rattle.op_types.specs.declared.account_results.BumpSequenceResult.{BumpSequenceResult}
use Rattle.op_types.specs.declared.account_results.BumpSequenceResult.TheVariants as bump_sequence
use Rattle.op_types.specs.declared.balance_results.CreateClaimableBalanceResult.{CreateClaimableBalanceResult}
use Rattle.op_types.specs.declared.balance_results.CreateClaimableBalanceResult.TheVariants as create_claimable_balance
use Rattle.op_types.specs.declared.balance_results.ClaimClaimableBalanceResult.{ClaimClaimableBalanceResult}
use Rattle.op_types.specs.declared.balance_results.ClaimClaimableBalanceResult.TheVariants as claim_claimable_balance
use Rattle.op_types.specs.declared.sponsor_results.BeginSponsoringFutureReservesResult.{
  BeginSponsoringFutureReservesResult,
}
use Rattle.op_types.specs.declared.sponsor_results.BeginSponsoringFutureReservesResult.TheVariants as begin_sponsoring
use Rattle.op_types.specs.declared.sponsor_results.EndSponsoringFutureReservesResult.{EndSponsoringFutureReservesResult}
use Rattle.op_types.specs.declared.sponsor_results.EndSponsoringFutureReservesResult.TheVariants as end_sponsoring
use Rattle.op_types.specs.declared.sponsor_results.RevokeSponsorshipResult.{RevokeSponsorshipResult}
use Rattle.op_types.specs.declared.sponsor_results.RevokeSponsorshipResult.TheVariants as revoke_sponsorship
use Rattle.op_types.specs.declared.trust_results.ClawbackResult.{ClawbackResult}
use Rattle.op_types.specs.declared.trust_results.ClawbackResult.TheVariants as clawback
use Rattle.op_types.specs.declared.balance_results.ClawbackClaimableBalanceResult.{ClawbackClaimableBalanceResult}
use Rattle.op_types.specs.declared.balance_results.ClawbackClaimableBalanceResult.TheVariants as clawback_balance
use Rattle.op_types.specs.declared.trust_results.SetTrustLineFlagsResult.{SetTrustLineFlagsResult}
use Rattle.op_types.specs.declared.trust_results.SetTrustLineFlagsResult.TheVariants as set_trust_line_flags
use Rattle.op_types.specs.declared.pool_results.LiquidityPoolDepositResult.{LiquidityPoolDepositResult}
use Rattle.op_types.specs.declared.pool_results.LiquidityPoolDepositResult.TheVariants as liquidity_pool_deposit
use Rattle.op_types.specs.declared.pool_results.LiquidityPoolWithdrawResult.{LiquidityPoolWithdrawResult}
use Rattle.op_types.specs.declared.pool_results.LiquidityPoolWithdrawResult.TheVariants as liquidity_pool_withdraw
use Rattle.op_types.specs.Codes.{create_account_code, payment_code, path_payment_strict_receive_code}
use Rattle.op_types.specs.Codes.{path_payment_strict_send_code, manage_offer_code, set_options_code, change_trust_code}
use Rattle.op_types.specs.Codes.{allow_trust_code, account_merge_code, inflation_code, manage_data_code}
use Rattle.op_types.specs.Codes.{bump_sequence_code, create_claimable_balance_code, claim_claimable_balance_code}
use Rattle.op_types.specs.Codes.{begin_sponsoring_future_reserves_code, end_sponsoring_future_reserves_code}
use Rattle.op_types.specs.Codes.{revoke_sponsorship_code, clawback_code, clawback_claimable_balance_code}
use Rattle.op_types.specs.Codes.{set_trust_line_flags_code, liquidity_pool_deposit_code, liquidity_pool_withdraw_code}
use Rattle.op_types.specs.Codes.{create_account_values, payment_values, set_options_values, change_trust_values}
use Rattle.op_types.specs.Codes.{allow_trust_values, manage_data_values, bump_sequence_values}
use Rattle.op_types.specs.Codes.{claim_claimable_balance_values, begin_sponsoring_future_reserves_values}
use Rattle.op_types.specs.Codes.{end_sponsoring_future_reserves_values, revoke_sponsorship_values, clawback_values}
use Rattle.op_types.specs.Codes.{clawback_claimable_balance_values, set_trust_line_flags_values}
use Rattle.op_types.specs.Codes.{liquidity_pool_deposit_values, liquidity_pool_withdraw_values}
use Rattle.op_types.specs.Codes.{path_payment_strict_receive_values, path_payment_strict_send_values}
use Rattle.op_types.specs.Codes.{manage_offer_values, account_merge_values, inflation_values}
use Rattle.op_types.specs.Codes.{create_claimable_balance_values}
use Rattle.xdr_results.proofs.PayloadLaws.{path_payment_success_laws, manage_offer_success_laws, inflation_payout_laws}
use Rattle.xdr_results.specs.Answers.{create_account_result, payment_result, path_payment_strict_receive_success_arm}
use Rattle.xdr_results.specs.Answers.{path_payment_strict_receive_no_issuer_arm}
use Rattle.xdr_results.specs.Answers.{path_payment_strict_receive_result_arms, path_payment_strict_receive_result_part}
use Rattle.xdr_results.specs.Answers.{path_payment_strict_receive_result, path_payment_strict_send_success_arm}
use Rattle.xdr_results.specs.Answers.{path_payment_strict_send_no_issuer_arm, path_payment_strict_send_result_arms}
use Rattle.xdr_results.specs.Answers.{path_payment_strict_send_result_part, path_payment_strict_send_result}
use Rattle.xdr_results.specs.Answers.{manage_offer_success_arm, manage_offer_result_arms, manage_offer_result_part}
use Rattle.xdr_results.specs.Answers.{manage_offer_result, set_options_result, change_trust_result, allow_trust_result}
use Rattle.xdr_results.specs.Answers.{account_merge_success_arm, account_merge_result_arms, account_merge_result_part}
use Rattle.xdr_results.specs.Answers.{account_merge_result, inflation_success_arm, inflation_result_arms}
use Rattle.xdr_results.specs.Answers.{inflation_result_part, inflation_result, manage_data_result, bump_sequence_result}
use Rattle.xdr_results.specs.Answers.{create_claimable_balance_success_arm, create_claimable_balance_result_arms}
use Rattle.xdr_results.specs.Answers.{create_claimable_balance_result_part, create_claimable_balance_result}
use Rattle.xdr_results.specs.Answers.{claim_claimable_balance_result, begin_sponsoring_future_reserves_result}
use Rattle.xdr_results.specs.Answers.{end_sponsoring_future_reserves_result, revoke_sponsorship_result, clawback_result}
use Rattle.xdr_results.specs.Answers.{clawback_claimable_balance_result, set_trust_line_flags_result}
use Rattle.xdr_results.specs.Answers.{liquidity_pool_deposit_result, liquidity_pool_withdraw_result}

create_account_result_found : (v : CreateAccountResult) → IsListed create_account_code create_account_values v
create_account_result_found create_account.Success = plain_under create_account_code tt refl (λ _ _ _. refl)
create_account_result_found create_account.Malformed = plain_under create_account_code tt refl (λ _ _ _. refl)
create_account_result_found create_account.Underfunded = plain_under create_account_code tt refl (λ _ _ _. refl)
create_account_result_found create_account.LowReserve = plain_under create_account_code tt refl (λ _ _ _. refl)
create_account_result_found create_account.AlreadyExist = plain_under create_account_code tt refl (λ _ _ _. refl)

pub create_account_result_laws : Laws create_account_result
unfolding create_account_result
create_account_result_laws = codes_laws create_account_code create_account_values create_account_result_found

payment_result_found : (v : PaymentResult) → IsListed payment_code payment_values v
payment_result_found payment.Success = plain_under payment_code tt refl (λ _ _ _. refl)
payment_result_found payment.Malformed = plain_under payment_code tt refl (λ _ _ _. refl)
payment_result_found payment.Underfunded = plain_under payment_code tt refl (λ _ _ _. refl)
payment_result_found payment.SrcNoTrust = plain_under payment_code tt refl (λ _ _ _. refl)
payment_result_found payment.SrcNotAuthorized = plain_under payment_code tt refl (λ _ _ _. refl)
payment_result_found payment.NoDestination = plain_under payment_code tt refl (λ _ _ _. refl)
payment_result_found payment.NoTrust = plain_under payment_code tt refl (λ _ _ _. refl)
payment_result_found payment.NotAuthorized = plain_under payment_code tt refl (λ _ _ _. refl)
payment_result_found payment.LineFull = plain_under payment_code tt refl (λ _ _ _. refl)
payment_result_found payment.NoIssuer = plain_under payment_code tt refl (λ _ _ _. refl)

pub payment_result_laws : Laws payment_result
unfolding payment_result
payment_result_laws = codes_laws payment_code payment_values payment_result_found

path_payment_strict_receive_result_found : (v : PathPaymentStrictReceiveResult) →
    IsFound path_payment_strict_receive_result_part path_payment_strict_receive_result_arms v
path_payment_strict_receive_result_found (strict_receive.Success x) =
    found path_payment_strict_receive_success_arm x path_payment_success_laws tt refl refl (λ _ _ _. refl)
path_payment_strict_receive_result_found (strict_receive.NoIssuer x) =
    found path_payment_strict_receive_no_issuer_arm x asset_laws tt refl refl (λ _ _ _. refl)
path_payment_strict_receive_result_found strict_receive.Malformed =
    plain_under path_payment_strict_receive_code tt refl (λ _ _ _. refl)
path_payment_strict_receive_result_found strict_receive.Underfunded =
    plain_under path_payment_strict_receive_code tt refl (λ _ _ _. refl)
path_payment_strict_receive_result_found strict_receive.SrcNoTrust =
    plain_under path_payment_strict_receive_code tt refl (λ _ _ _. refl)
path_payment_strict_receive_result_found strict_receive.SrcNotAuthorized =
    plain_under path_payment_strict_receive_code tt refl (λ _ _ _. refl)
path_payment_strict_receive_result_found strict_receive.NoDestination =
    plain_under path_payment_strict_receive_code tt refl (λ _ _ _. refl)
path_payment_strict_receive_result_found strict_receive.NoTrust =
    plain_under path_payment_strict_receive_code tt refl (λ _ _ _. refl)
path_payment_strict_receive_result_found strict_receive.NotAuthorized =
    plain_under path_payment_strict_receive_code tt refl (λ _ _ _. refl)
path_payment_strict_receive_result_found strict_receive.LineFull =
    plain_under path_payment_strict_receive_code tt refl (λ _ _ _. refl)
path_payment_strict_receive_result_found strict_receive.TooFewOffers =
    plain_under path_payment_strict_receive_code tt refl (λ _ _ _. refl)
path_payment_strict_receive_result_found strict_receive.OfferCrossSelf =
    plain_under path_payment_strict_receive_code tt refl (λ _ _ _. refl)
path_payment_strict_receive_result_found strict_receive.OverSendmax =
    plain_under path_payment_strict_receive_code tt refl (λ _ _ _. refl)

pub path_payment_strict_receive_result_laws : Laws path_payment_strict_receive_result
unfolding path_payment_strict_receive_result
path_payment_strict_receive_result_laws = union_laws (
  arm_laws path_payment_success_laws (λ x. refl),
  (
    arm_laws asset_laws (λ x. refl),
    plain_are _ path_payment_strict_receive_code path_payment_strict_receive_values
        (refl, (refl, (refl, (refl, (refl, (refl, (refl, (refl, (refl, (refl, (refl, tt))))))))))),
  ),
)
    path_payment_strict_receive_result_found

path_payment_strict_send_result_found : (v : PathPaymentStrictSendResult) →
    IsFound path_payment_strict_send_result_part path_payment_strict_send_result_arms v
path_payment_strict_send_result_found (strict_send.Success x) =
    found path_payment_strict_send_success_arm x path_payment_success_laws tt refl refl (λ _ _ _. refl)
path_payment_strict_send_result_found (strict_send.NoIssuer x) =
    found path_payment_strict_send_no_issuer_arm x asset_laws tt refl refl (λ _ _ _. refl)
path_payment_strict_send_result_found strict_send.Malformed =
    plain_under path_payment_strict_send_code tt refl (λ _ _ _. refl)
path_payment_strict_send_result_found strict_send.Underfunded =
    plain_under path_payment_strict_send_code tt refl (λ _ _ _. refl)
path_payment_strict_send_result_found strict_send.SrcNoTrust =
    plain_under path_payment_strict_send_code tt refl (λ _ _ _. refl)
path_payment_strict_send_result_found strict_send.SrcNotAuthorized =
    plain_under path_payment_strict_send_code tt refl (λ _ _ _. refl)
path_payment_strict_send_result_found strict_send.NoDestination =
    plain_under path_payment_strict_send_code tt refl (λ _ _ _. refl)
path_payment_strict_send_result_found strict_send.NoTrust =
    plain_under path_payment_strict_send_code tt refl (λ _ _ _. refl)
path_payment_strict_send_result_found strict_send.NotAuthorized =
    plain_under path_payment_strict_send_code tt refl (λ _ _ _. refl)
path_payment_strict_send_result_found strict_send.LineFull =
    plain_under path_payment_strict_send_code tt refl (λ _ _ _. refl)
path_payment_strict_send_result_found strict_send.TooFewOffers =
    plain_under path_payment_strict_send_code tt refl (λ _ _ _. refl)
path_payment_strict_send_result_found strict_send.OfferCrossSelf =
    plain_under path_payment_strict_send_code tt refl (λ _ _ _. refl)
path_payment_strict_send_result_found strict_send.UnderDestmin =
    plain_under path_payment_strict_send_code tt refl (λ _ _ _. refl)

pub path_payment_strict_send_result_laws : Laws path_payment_strict_send_result
unfolding path_payment_strict_send_result
path_payment_strict_send_result_laws = union_laws (
  arm_laws path_payment_success_laws (λ x. refl),
  (
    arm_laws asset_laws (λ x. refl),
    plain_are _ path_payment_strict_send_code path_payment_strict_send_values
        (refl, (refl, (refl, (refl, (refl, (refl, (refl, (refl, (refl, (refl, (refl, tt))))))))))),
  ),
)
    path_payment_strict_send_result_found

manage_offer_result_found : (v : ManageOfferResult) → IsFound manage_offer_result_part manage_offer_result_arms v
manage_offer_result_found (manage_offer.Success x) =
    found manage_offer_success_arm x manage_offer_success_laws tt refl refl (λ _ _ _. refl)
manage_offer_result_found manage_offer.Malformed = plain_under manage_offer_code tt refl (λ _ _ _. refl)
manage_offer_result_found manage_offer.SellNoTrust = plain_under manage_offer_code tt refl (λ _ _ _. refl)
manage_offer_result_found manage_offer.BuyNoTrust = plain_under manage_offer_code tt refl (λ _ _ _. refl)
manage_offer_result_found manage_offer.SellNotAuthorized = plain_under manage_offer_code tt refl (λ _ _ _. refl)
manage_offer_result_found manage_offer.BuyNotAuthorized = plain_under manage_offer_code tt refl (λ _ _ _. refl)
manage_offer_result_found manage_offer.LineFull = plain_under manage_offer_code tt refl (λ _ _ _. refl)
manage_offer_result_found manage_offer.Underfunded = plain_under manage_offer_code tt refl (λ _ _ _. refl)
manage_offer_result_found manage_offer.CrossSelf = plain_under manage_offer_code tt refl (λ _ _ _. refl)
manage_offer_result_found manage_offer.SellNoIssuer = plain_under manage_offer_code tt refl (λ _ _ _. refl)
manage_offer_result_found manage_offer.BuyNoIssuer = plain_under manage_offer_code tt refl (λ _ _ _. refl)
manage_offer_result_found manage_offer.NotFound = plain_under manage_offer_code tt refl (λ _ _ _. refl)
manage_offer_result_found manage_offer.LowReserve = plain_under manage_offer_code tt refl (λ _ _ _. refl)

pub manage_offer_result_laws : Laws manage_offer_result
unfolding manage_offer_result
manage_offer_result_laws = union_laws (
  arm_laws manage_offer_success_laws (λ x. refl),
  plain_are _ manage_offer_code manage_offer_values
      (refl, (refl, (refl, (refl, (refl, (refl, (refl, (refl, (refl, (refl, (refl, (refl, tt)))))))))))),
)
    manage_offer_result_found

set_options_result_found : (v : SetOptionsResult) → IsListed set_options_code set_options_values v
set_options_result_found set_options.Success = plain_under set_options_code tt refl (λ _ _ _. refl)
set_options_result_found set_options.LowReserve = plain_under set_options_code tt refl (λ _ _ _. refl)
set_options_result_found set_options.TooManySigners = plain_under set_options_code tt refl (λ _ _ _. refl)
set_options_result_found set_options.BadFlags = plain_under set_options_code tt refl (λ _ _ _. refl)
set_options_result_found set_options.InvalidInflation = plain_under set_options_code tt refl (λ _ _ _. refl)
set_options_result_found set_options.CantChange = plain_under set_options_code tt refl (λ _ _ _. refl)
set_options_result_found set_options.UnknownFlag = plain_under set_options_code tt refl (λ _ _ _. refl)
set_options_result_found set_options.ThresholdOutOfRange = plain_under set_options_code tt refl (λ _ _ _. refl)
set_options_result_found set_options.BadSigner = plain_under set_options_code tt refl (λ _ _ _. refl)
set_options_result_found set_options.InvalidHomeDomain = plain_under set_options_code tt refl (λ _ _ _. refl)
set_options_result_found set_options.AuthRevocableRequired = plain_under set_options_code tt refl (λ _ _ _. refl)

pub set_options_result_laws : Laws set_options_result
unfolding set_options_result
set_options_result_laws = codes_laws set_options_code set_options_values set_options_result_found

change_trust_result_found : (v : ChangeTrustResult) → IsListed change_trust_code change_trust_values v
change_trust_result_found change_trust.Success = plain_under change_trust_code tt refl (λ _ _ _. refl)
change_trust_result_found change_trust.Malformed = plain_under change_trust_code tt refl (λ _ _ _. refl)
change_trust_result_found change_trust.NoIssuer = plain_under change_trust_code tt refl (λ _ _ _. refl)
change_trust_result_found change_trust.InvalidLimit = plain_under change_trust_code tt refl (λ _ _ _. refl)
change_trust_result_found change_trust.LowReserve = plain_under change_trust_code tt refl (λ _ _ _. refl)
change_trust_result_found change_trust.SelfNotAllowed = plain_under change_trust_code tt refl (λ _ _ _. refl)
change_trust_result_found change_trust.TrustLineMissing = plain_under change_trust_code tt refl (λ _ _ _. refl)
change_trust_result_found change_trust.CannotDelete = plain_under change_trust_code tt refl (λ _ _ _. refl)
change_trust_result_found change_trust.NotAuthMaintainLiabilities =
    plain_under change_trust_code tt refl (λ _ _ _. refl)

pub change_trust_result_laws : Laws change_trust_result
unfolding change_trust_result
change_trust_result_laws = codes_laws change_trust_code change_trust_values change_trust_result_found

allow_trust_result_found : (v : AllowTrustResult) → IsListed allow_trust_code allow_trust_values v
allow_trust_result_found allow_trust.Success = plain_under allow_trust_code tt refl (λ _ _ _. refl)
allow_trust_result_found allow_trust.Malformed = plain_under allow_trust_code tt refl (λ _ _ _. refl)
allow_trust_result_found allow_trust.NoTrustLine = plain_under allow_trust_code tt refl (λ _ _ _. refl)
allow_trust_result_found allow_trust.TrustNotRequired = plain_under allow_trust_code tt refl (λ _ _ _. refl)
allow_trust_result_found allow_trust.CantRevoke = plain_under allow_trust_code tt refl (λ _ _ _. refl)
allow_trust_result_found allow_trust.SelfNotAllowed = plain_under allow_trust_code tt refl (λ _ _ _. refl)
allow_trust_result_found allow_trust.LowReserve = plain_under allow_trust_code tt refl (λ _ _ _. refl)

pub allow_trust_result_laws : Laws allow_trust_result
unfolding allow_trust_result
allow_trust_result_laws = codes_laws allow_trust_code allow_trust_values allow_trust_result_found

account_merge_result_found : (v : AccountMergeResult) → IsFound account_merge_result_part account_merge_result_arms v
account_merge_result_found (account_merge.Success x) =
    found account_merge_success_arm x i64_laws tt refl refl (λ _ _ _. refl)
account_merge_result_found account_merge.Malformed = plain_under account_merge_code tt refl (λ _ _ _. refl)
account_merge_result_found account_merge.NoAccount = plain_under account_merge_code tt refl (λ _ _ _. refl)
account_merge_result_found account_merge.ImmutableSet = plain_under account_merge_code tt refl (λ _ _ _. refl)
account_merge_result_found account_merge.HasSubEntries = plain_under account_merge_code tt refl (λ _ _ _. refl)
account_merge_result_found account_merge.SeqnumTooFar = plain_under account_merge_code tt refl (λ _ _ _. refl)
account_merge_result_found account_merge.DestFull = plain_under account_merge_code tt refl (λ _ _ _. refl)
account_merge_result_found account_merge.IsSponsor = plain_under account_merge_code tt refl (λ _ _ _. refl)

pub account_merge_result_laws : Laws account_merge_result
unfolding account_merge_result
account_merge_result_laws = union_laws (
  arm_laws i64_laws (λ x. refl),
  plain_are _ account_merge_code account_merge_values (refl, (refl, (refl, (refl, (refl, (refl, (refl, tt))))))),
)
    account_merge_result_found

inflation_result_found : (v : InflationResult) → IsFound inflation_result_part inflation_result_arms v
inflation_result_found (inflation.Success x) =
    found inflation_success_arm x
    (list_laws 4294967295 (omega arith) inflation_payout_laws) tt refl refl (λ _ _ _. refl)
inflation_result_found inflation.NotTime = plain_under inflation_code tt refl (λ _ _ _. refl)

pub inflation_result_laws : Laws inflation_result
unfolding inflation_result
inflation_result_laws = union_laws (
  arm_laws (list_laws 4294967295 (omega arith) inflation_payout_laws) (λ x. refl),
  plain_are _ inflation_code inflation_values (refl, tt),
)
    inflation_result_found

manage_data_result_found : (v : ManageDataResult) → IsListed manage_data_code manage_data_values v
manage_data_result_found manage_data.Success = plain_under manage_data_code tt refl (λ _ _ _. refl)
manage_data_result_found manage_data.NotSupportedYet = plain_under manage_data_code tt refl (λ _ _ _. refl)
manage_data_result_found manage_data.NameNotFound = plain_under manage_data_code tt refl (λ _ _ _. refl)
manage_data_result_found manage_data.LowReserve = plain_under manage_data_code tt refl (λ _ _ _. refl)
manage_data_result_found manage_data.InvalidName = plain_under manage_data_code tt refl (λ _ _ _. refl)

pub manage_data_result_laws : Laws manage_data_result
unfolding manage_data_result
manage_data_result_laws = codes_laws manage_data_code manage_data_values manage_data_result_found

bump_sequence_result_found : (v : BumpSequenceResult) → IsListed bump_sequence_code bump_sequence_values v
bump_sequence_result_found bump_sequence.Success = plain_under bump_sequence_code tt refl (λ _ _ _. refl)
bump_sequence_result_found bump_sequence.BadSeq = plain_under bump_sequence_code tt refl (λ _ _ _. refl)

pub bump_sequence_result_laws : Laws bump_sequence_result
unfolding bump_sequence_result
bump_sequence_result_laws = codes_laws bump_sequence_code bump_sequence_values bump_sequence_result_found

create_claimable_balance_result_found : (v : CreateClaimableBalanceResult) →
    IsFound create_claimable_balance_result_part create_claimable_balance_result_arms v
create_claimable_balance_result_found (create_claimable_balance.Success x) =
    found create_claimable_balance_success_arm x claimable_balance_id_laws tt refl refl (λ _ _ _. refl)
create_claimable_balance_result_found create_claimable_balance.Malformed =
    plain_under create_claimable_balance_code tt refl (λ _ _ _. refl)
create_claimable_balance_result_found create_claimable_balance.LowReserve =
    plain_under create_claimable_balance_code tt refl (λ _ _ _. refl)
create_claimable_balance_result_found create_claimable_balance.NoTrust =
    plain_under create_claimable_balance_code tt refl (λ _ _ _. refl)
create_claimable_balance_result_found create_claimable_balance.NotAuthorized =
    plain_under create_claimable_balance_code tt refl (λ _ _ _. refl)
create_claimable_balance_result_found create_claimable_balance.Underfunded =
    plain_under create_claimable_balance_code tt refl (λ _ _ _. refl)

pub create_claimable_balance_result_laws : Laws create_claimable_balance_result
unfolding create_claimable_balance_result
create_claimable_balance_result_laws = union_laws (
  arm_laws claimable_balance_id_laws (λ x. refl),
  plain_are _ create_claimable_balance_code create_claimable_balance_values
      (refl, (refl, (refl, (refl, (refl, tt))))),
)
    create_claimable_balance_result_found

claim_claimable_balance_result_found : (v : ClaimClaimableBalanceResult) →
    IsListed claim_claimable_balance_code claim_claimable_balance_values v
claim_claimable_balance_result_found claim_claimable_balance.Success =
    plain_under claim_claimable_balance_code tt refl (λ _ _ _. refl)
claim_claimable_balance_result_found claim_claimable_balance.DoesNotExist =
    plain_under claim_claimable_balance_code tt refl (λ _ _ _. refl)
claim_claimable_balance_result_found claim_claimable_balance.CannotClaim =
    plain_under claim_claimable_balance_code tt refl (λ _ _ _. refl)
claim_claimable_balance_result_found claim_claimable_balance.LineFull =
    plain_under claim_claimable_balance_code tt refl (λ _ _ _. refl)
claim_claimable_balance_result_found claim_claimable_balance.NoTrust =
    plain_under claim_claimable_balance_code tt refl (λ _ _ _. refl)
claim_claimable_balance_result_found claim_claimable_balance.NotAuthorized =
    plain_under claim_claimable_balance_code tt refl (λ _ _ _. refl)

pub claim_claimable_balance_result_laws : Laws claim_claimable_balance_result
unfolding claim_claimable_balance_result
claim_claimable_balance_result_laws =
    codes_laws claim_claimable_balance_code claim_claimable_balance_values claim_claimable_balance_result_found

begin_sponsoring_future_reserves_result_found : (v : BeginSponsoringFutureReservesResult) →
    IsListed begin_sponsoring_future_reserves_code begin_sponsoring_future_reserves_values v
begin_sponsoring_future_reserves_result_found begin_sponsoring.Success =
    plain_under begin_sponsoring_future_reserves_code tt refl (λ _ _ _. refl)
begin_sponsoring_future_reserves_result_found begin_sponsoring.Malformed =
    plain_under begin_sponsoring_future_reserves_code tt refl (λ _ _ _. refl)
begin_sponsoring_future_reserves_result_found begin_sponsoring.AlreadySponsored =
    plain_under begin_sponsoring_future_reserves_code tt refl (λ _ _ _. refl)
begin_sponsoring_future_reserves_result_found begin_sponsoring.Recursive =
    plain_under begin_sponsoring_future_reserves_code tt refl (λ _ _ _. refl)

pub begin_sponsoring_future_reserves_result_laws : Laws begin_sponsoring_future_reserves_result
unfolding begin_sponsoring_future_reserves_result
begin_sponsoring_future_reserves_result_laws =
    codes_laws begin_sponsoring_future_reserves_code begin_sponsoring_future_reserves_values
    begin_sponsoring_future_reserves_result_found

end_sponsoring_future_reserves_result_found : (v : EndSponsoringFutureReservesResult) →
    IsListed end_sponsoring_future_reserves_code end_sponsoring_future_reserves_values v
end_sponsoring_future_reserves_result_found end_sponsoring.Success =
    plain_under end_sponsoring_future_reserves_code tt refl (λ _ _ _. refl)
end_sponsoring_future_reserves_result_found end_sponsoring.NotSponsored =
    plain_under end_sponsoring_future_reserves_code tt refl (λ _ _ _. refl)

pub end_sponsoring_future_reserves_result_laws : Laws end_sponsoring_future_reserves_result
unfolding end_sponsoring_future_reserves_result
end_sponsoring_future_reserves_result_laws =
    codes_laws end_sponsoring_future_reserves_code end_sponsoring_future_reserves_values
    end_sponsoring_future_reserves_result_found

revoke_sponsorship_result_found : (v : RevokeSponsorshipResult) →
    IsListed revoke_sponsorship_code revoke_sponsorship_values v
revoke_sponsorship_result_found revoke_sponsorship.Success = plain_under revoke_sponsorship_code tt refl (λ _ _ _. refl)
revoke_sponsorship_result_found revoke_sponsorship.DoesNotExist =
    plain_under revoke_sponsorship_code tt refl (λ _ _ _. refl)
revoke_sponsorship_result_found revoke_sponsorship.NotSponsor =
    plain_under revoke_sponsorship_code tt refl (λ _ _ _. refl)
revoke_sponsorship_result_found revoke_sponsorship.LowReserve =
    plain_under revoke_sponsorship_code tt refl (λ _ _ _. refl)
revoke_sponsorship_result_found revoke_sponsorship.OnlyTransferable =
    plain_under revoke_sponsorship_code tt refl (λ _ _ _. refl)
revoke_sponsorship_result_found revoke_sponsorship.Malformed =
    plain_under revoke_sponsorship_code tt refl (λ _ _ _. refl)

pub revoke_sponsorship_result_laws : Laws revoke_sponsorship_result
unfolding revoke_sponsorship_result
revoke_sponsorship_result_laws =
    codes_laws revoke_sponsorship_code revoke_sponsorship_values revoke_sponsorship_result_found

clawback_result_found : (v : ClawbackResult) → IsListed clawback_code clawback_values v
clawback_result_found clawback.Success = plain_under clawback_code tt refl (λ _ _ _. refl)
clawback_result_found clawback.Malformed = plain_under clawback_code tt refl (λ _ _ _. refl)
clawback_result_found clawback.NotClawbackEnabled = plain_under clawback_code tt refl (λ _ _ _. refl)
clawback_result_found clawback.NoTrust = plain_under clawback_code tt refl (λ _ _ _. refl)
clawback_result_found clawback.Underfunded = plain_under clawback_code tt refl (λ _ _ _. refl)

pub clawback_result_laws : Laws clawback_result
unfolding clawback_result
clawback_result_laws = codes_laws clawback_code clawback_values clawback_result_found

clawback_claimable_balance_result_found : (v : ClawbackClaimableBalanceResult) →
    IsListed clawback_claimable_balance_code clawback_claimable_balance_values v
clawback_claimable_balance_result_found clawback_balance.Success =
    plain_under clawback_claimable_balance_code tt refl (λ _ _ _. refl)
clawback_claimable_balance_result_found clawback_balance.DoesNotExist =
    plain_under clawback_claimable_balance_code tt refl (λ _ _ _. refl)
clawback_claimable_balance_result_found clawback_balance.NotIssuer =
    plain_under clawback_claimable_balance_code tt refl (λ _ _ _. refl)
clawback_claimable_balance_result_found clawback_balance.NotClawbackEnabled =
    plain_under clawback_claimable_balance_code tt refl (λ _ _ _. refl)

pub clawback_claimable_balance_result_laws : Laws clawback_claimable_balance_result
unfolding clawback_claimable_balance_result
clawback_claimable_balance_result_laws =
    codes_laws clawback_claimable_balance_code clawback_claimable_balance_values clawback_claimable_balance_result_found

set_trust_line_flags_result_found : (v : SetTrustLineFlagsResult) →
    IsListed set_trust_line_flags_code set_trust_line_flags_values v
set_trust_line_flags_result_found set_trust_line_flags.Success =
    plain_under set_trust_line_flags_code tt refl (λ _ _ _. refl)
set_trust_line_flags_result_found set_trust_line_flags.Malformed =
    plain_under set_trust_line_flags_code tt refl (λ _ _ _. refl)
set_trust_line_flags_result_found set_trust_line_flags.NoTrustLine =
    plain_under set_trust_line_flags_code tt refl (λ _ _ _. refl)
set_trust_line_flags_result_found set_trust_line_flags.CantRevoke =
    plain_under set_trust_line_flags_code tt refl (λ _ _ _. refl)
set_trust_line_flags_result_found set_trust_line_flags.InvalidState =
    plain_under set_trust_line_flags_code tt refl (λ _ _ _. refl)
set_trust_line_flags_result_found set_trust_line_flags.LowReserve =
    plain_under set_trust_line_flags_code tt refl (λ _ _ _. refl)

pub set_trust_line_flags_result_laws : Laws set_trust_line_flags_result
unfolding set_trust_line_flags_result
set_trust_line_flags_result_laws =
    codes_laws set_trust_line_flags_code set_trust_line_flags_values set_trust_line_flags_result_found

liquidity_pool_deposit_result_found : (v : LiquidityPoolDepositResult) →
    IsListed liquidity_pool_deposit_code liquidity_pool_deposit_values v
liquidity_pool_deposit_result_found liquidity_pool_deposit.Success =
    plain_under liquidity_pool_deposit_code tt refl (λ _ _ _. refl)
liquidity_pool_deposit_result_found liquidity_pool_deposit.Malformed =
    plain_under liquidity_pool_deposit_code tt refl (λ _ _ _. refl)
liquidity_pool_deposit_result_found liquidity_pool_deposit.NoTrust =
    plain_under liquidity_pool_deposit_code tt refl (λ _ _ _. refl)
liquidity_pool_deposit_result_found liquidity_pool_deposit.NotAuthorized =
    plain_under liquidity_pool_deposit_code tt refl (λ _ _ _. refl)
liquidity_pool_deposit_result_found liquidity_pool_deposit.Underfunded =
    plain_under liquidity_pool_deposit_code tt refl (λ _ _ _. refl)
liquidity_pool_deposit_result_found liquidity_pool_deposit.LineFull =
    plain_under liquidity_pool_deposit_code tt refl (λ _ _ _. refl)
liquidity_pool_deposit_result_found liquidity_pool_deposit.BadPrice =
    plain_under liquidity_pool_deposit_code tt refl (λ _ _ _. refl)
liquidity_pool_deposit_result_found liquidity_pool_deposit.PoolFull =
    plain_under liquidity_pool_deposit_code tt refl (λ _ _ _. refl)

pub liquidity_pool_deposit_result_laws : Laws liquidity_pool_deposit_result
unfolding liquidity_pool_deposit_result
liquidity_pool_deposit_result_laws =
    codes_laws liquidity_pool_deposit_code liquidity_pool_deposit_values liquidity_pool_deposit_result_found

liquidity_pool_withdraw_result_found : (v : LiquidityPoolWithdrawResult) →
    IsListed liquidity_pool_withdraw_code liquidity_pool_withdraw_values v
liquidity_pool_withdraw_result_found liquidity_pool_withdraw.Success =
    plain_under liquidity_pool_withdraw_code tt refl (λ _ _ _. refl)
liquidity_pool_withdraw_result_found liquidity_pool_withdraw.Malformed =
    plain_under liquidity_pool_withdraw_code tt refl (λ _ _ _. refl)
liquidity_pool_withdraw_result_found liquidity_pool_withdraw.NoTrust =
    plain_under liquidity_pool_withdraw_code tt refl (λ _ _ _. refl)
liquidity_pool_withdraw_result_found liquidity_pool_withdraw.Underfunded =
    plain_under liquidity_pool_withdraw_code tt refl (λ _ _ _. refl)
liquidity_pool_withdraw_result_found liquidity_pool_withdraw.LineFull =
    plain_under liquidity_pool_withdraw_code tt refl (λ _ _ _. refl)
liquidity_pool_withdraw_result_found liquidity_pool_withdraw.UnderMinimum =
    plain_under liquidity_pool_withdraw_code tt refl (λ _ _ _. refl)

pub liquidity_pool_withdraw_result_laws : Laws liquidity_pool_withdraw_result
unfolding liquidity_pool_withdraw_result
liquidity_pool_withdraw_result_laws =
    codes_laws liquidity_pool_withdraw_code liquidity_pool_withdraw_values liquidity_pool_withdraw_result_found
