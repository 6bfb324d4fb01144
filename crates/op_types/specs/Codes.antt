-- The codes of results (Stellar-transaction.x of protocols 18 and 19): the number of each, and those that have no more
-- than a number.
use Rattle.std.specs.Prelude.{ℤ, pos, List, [], ◌∷◌}
use Rattle.op_types.specs.Numbers.{minus}
use Rattle.op_types.specs.declared.payment_results.CreateAccountResult.{CreateAccountResult}
use Rattle.op_types.specs.declared.payment_results.CreateAccountResult.TheVariants as create_account
use Rattle.op_types.specs.declared.payment_results.PaymentResult.{PaymentResult}
use Rattle.op_types.specs.declared.payment_results.PaymentResult.TheVariants as payment
use Rattle.op_types.specs.declared.payment_results.PathPaymentStrictReceiveResult.{PathPaymentStrictReceiveResult}
use Rattle.op_types.specs.declared.payment_results.PathPaymentStrictReceiveResult.TheVariants
    as path_payment_strict_receive
use Rattle.op_types.specs.declared.payment_results.PathPaymentStrictSendResult.{PathPaymentStrictSendResult}
use Rattle.op_types.specs.declared.payment_results.PathPaymentStrictSendResult.TheVariants as path_payment_strict_send
use Rattle.op_types.specs.declared.offer_results.ManageOfferResult.{ManageOfferResult}
use Rattle.op_types.specs.declared.offer_results.ManageOfferResult.TheVariants as manage_offer
use Rattle.op_types.specs.declared.account_results.SetOptionsResult.{SetOptionsResult}
use Rattle.op_types.specs.declared.account_results.SetOptionsResult.TheVariants as set_options
use Rattle.op_types.specs.declared.trust_results.ChangeTrustResult.{ChangeTrustResult}
use Rattle.op_types.specs.declared.trust_results.ChangeTrustResult.TheVariants as change_trust
use Rattle.op_types.specs.declared.trust_results.AllowTrustResult.{AllowTrustResult}
use Rattle.op_types.specs.declared.trust_results.AllowTrustResult.TheVariants as allow_trust
use Rattle.op_types.specs.declared.account_results.AccountMergeResult.{AccountMergeResult}
use Rattle.op_types.specs.declared.account_results.AccountMergeResult.TheVariants as account_merge
use Rattle.op_types.specs.declared.account_results.InflationResult.{InflationResult}
use Rattle.op_types.specs.declared.account_results.InflationResult.TheVariants as inflation
use Rattle.op_types.specs.declared.account_results.ManageDataResult.{ManageDataResult}
use Rattle.op_types.specs.declared.account_results.ManageDataResult.TheVariants as manage_data
use Rattle.op_types.specs.declared.account_results.BumpSequenceResult.{BumpSequenceResult}
use Rattle.op_types.specs.declared.account_results.BumpSequenceResult.TheVariants as bump_sequence
use Rattle.op_types.specs.declared.balance_results.CreateClaimableBalanceResult.{CreateClaimableBalanceResult}
use Rattle.op_types.specs.declared.balance_results.CreateClaimableBalanceResult.TheVariants as create_claimable_balance
use Rattle.op_types.specs.declared.balance_results.ClaimClaimableBalanceResult.{ClaimClaimableBalanceResult}
use Rattle.op_types.specs.declared.balance_results.ClaimClaimableBalanceResult.TheVariants as claim_claimable_balance
use Rattle.op_types.specs.declared.sponsor_results.BeginSponsoringFutureReservesResult.{
  BeginSponsoringFutureReservesResult,
}
use Rattle.op_types.specs.declared.sponsor_results.BeginSponsoringFutureReservesResult.TheVariants
    as begin_sponsoring_future_reserves
use Rattle.op_types.specs.declared.sponsor_results.EndSponsoringFutureReservesResult.{EndSponsoringFutureReservesResult}
use Rattle.op_types.specs.declared.sponsor_results.EndSponsoringFutureReservesResult.TheVariants
    as end_sponsoring_future_reserves
use Rattle.op_types.specs.declared.sponsor_results.RevokeSponsorshipResult.{RevokeSponsorshipResult}
use Rattle.op_types.specs.declared.sponsor_results.RevokeSponsorshipResult.TheVariants as revoke_sponsorship
use Rattle.op_types.specs.declared.trust_results.ClawbackResult.{ClawbackResult}
use Rattle.op_types.specs.declared.trust_results.ClawbackResult.TheVariants as clawback
use Rattle.op_types.specs.declared.balance_results.ClawbackClaimableBalanceResult.{ClawbackClaimableBalanceResult}
use Rattle.op_types.specs.declared.balance_results.ClawbackClaimableBalanceResult.TheVariants
    as clawback_claimable_balance
use Rattle.op_types.specs.declared.trust_results.SetTrustLineFlagsResult.{SetTrustLineFlagsResult}
use Rattle.op_types.specs.declared.trust_results.SetTrustLineFlagsResult.TheVariants as set_trust_line_flags
use Rattle.op_types.specs.declared.pool_results.LiquidityPoolDepositResult.{LiquidityPoolDepositResult}
use Rattle.op_types.specs.declared.pool_results.LiquidityPoolDepositResult.TheVariants as liquidity_pool_deposit
use Rattle.op_types.specs.declared.pool_results.LiquidityPoolWithdrawResult.{LiquidityPoolWithdrawResult}
use Rattle.op_types.specs.declared.pool_results.LiquidityPoolWithdrawResult.TheVariants as liquidity_pool_withdraw
use Rattle.op_types.specs.declared.operation_result.OperationResult.{OperationResult}
use Rattle.op_types.specs.declared.operation_result.OperationResult.TheVariants as operation
use Rattle.op_types.specs.declared.transaction_result.InnerTransactionOutcome.{InnerTransactionOutcome}
use Rattle.op_types.specs.declared.transaction_result.InnerTransactionOutcome.TheVariants as inner
use Rattle.op_types.specs.declared.transaction_result.TransactionOutcome.{TransactionOutcome}
use Rattle.op_types.specs.declared.transaction_result.TransactionOutcome.TheVariants as outcome

-- ---- CreateAccountResult

abbrev pub create_account_code : CreateAccountResult → ℤ
create_account_code create_account.Success = pos 0
create_account_code create_account.Malformed = minus 1
create_account_code create_account.Underfunded = minus 2
create_account_code create_account.LowReserve = minus 3
create_account_code create_account.AlreadyExist = minus 4

abbrev pub create_account_values : List CreateAccountResult
create_account_values =
    create_account.Success ∷ create_account.Malformed ∷ create_account.Underfunded ∷ create_account.LowReserve
    ∷ create_account.AlreadyExist ∷ []

-- ---- PaymentResult

abbrev pub payment_code : PaymentResult → ℤ
payment_code payment.Success = pos 0
payment_code payment.Malformed = minus 1
payment_code payment.Underfunded = minus 2
payment_code payment.SrcNoTrust = minus 3
payment_code payment.SrcNotAuthorized = minus 4
payment_code payment.NoDestination = minus 5
payment_code payment.NoTrust = minus 6
payment_code payment.NotAuthorized = minus 7
payment_code payment.LineFull = minus 8
payment_code payment.NoIssuer = minus 9

abbrev pub payment_values : List PaymentResult
payment_values =
    payment.Success ∷ payment.Malformed ∷ payment.Underfunded ∷ payment.SrcNoTrust ∷ payment.SrcNotAuthorized
    ∷ payment.NoDestination ∷ payment.NoTrust ∷ payment.NotAuthorized ∷ payment.LineFull ∷ payment.NoIssuer ∷ []

-- ---- PathPaymentStrictReceiveResult

abbrev pub path_payment_strict_receive_code : PathPaymentStrictReceiveResult → ℤ
path_payment_strict_receive_code (path_payment_strict_receive.Success x) = pos 0
path_payment_strict_receive_code path_payment_strict_receive.Malformed = minus 1
path_payment_strict_receive_code path_payment_strict_receive.Underfunded = minus 2
path_payment_strict_receive_code path_payment_strict_receive.SrcNoTrust = minus 3
path_payment_strict_receive_code path_payment_strict_receive.SrcNotAuthorized = minus 4
path_payment_strict_receive_code path_payment_strict_receive.NoDestination = minus 5
path_payment_strict_receive_code path_payment_strict_receive.NoTrust = minus 6
path_payment_strict_receive_code path_payment_strict_receive.NotAuthorized = minus 7
path_payment_strict_receive_code path_payment_strict_receive.LineFull = minus 8
path_payment_strict_receive_code (path_payment_strict_receive.NoIssuer x) = minus 9
path_payment_strict_receive_code path_payment_strict_receive.TooFewOffers = minus 10
path_payment_strict_receive_code path_payment_strict_receive.OfferCrossSelf = minus 11
path_payment_strict_receive_code path_payment_strict_receive.OverSendmax = minus 12

abbrev pub path_payment_strict_receive_values : List PathPaymentStrictReceiveResult
path_payment_strict_receive_values =
    path_payment_strict_receive.Malformed ∷ path_payment_strict_receive.Underfunded
    ∷ path_payment_strict_receive.SrcNoTrust ∷ path_payment_strict_receive.SrcNotAuthorized
    ∷ path_payment_strict_receive.NoDestination ∷ path_payment_strict_receive.NoTrust
    ∷ path_payment_strict_receive.NotAuthorized ∷ path_payment_strict_receive.LineFull
    ∷ path_payment_strict_receive.TooFewOffers ∷ path_payment_strict_receive.OfferCrossSelf
    ∷ path_payment_strict_receive.OverSendmax ∷ []

-- ---- PathPaymentStrictSendResult

abbrev pub path_payment_strict_send_code : PathPaymentStrictSendResult → ℤ
path_payment_strict_send_code (path_payment_strict_send.Success x) = pos 0
path_payment_strict_send_code path_payment_strict_send.Malformed = minus 1
path_payment_strict_send_code path_payment_strict_send.Underfunded = minus 2
path_payment_strict_send_code path_payment_strict_send.SrcNoTrust = minus 3
path_payment_strict_send_code path_payment_strict_send.SrcNotAuthorized = minus 4
path_payment_strict_send_code path_payment_strict_send.NoDestination = minus 5
path_payment_strict_send_code path_payment_strict_send.NoTrust = minus 6
path_payment_strict_send_code path_payment_strict_send.NotAuthorized = minus 7
path_payment_strict_send_code path_payment_strict_send.LineFull = minus 8
path_payment_strict_send_code (path_payment_strict_send.NoIssuer x) = minus 9
path_payment_strict_send_code path_payment_strict_send.TooFewOffers = minus 10
path_payment_strict_send_code path_payment_strict_send.OfferCrossSelf = minus 11
path_payment_strict_send_code path_payment_strict_send.UnderDestmin = minus 12

abbrev pub path_payment_strict_send_values : List PathPaymentStrictSendResult
path_payment_strict_send_values =
    path_payment_strict_send.Malformed ∷ path_payment_strict_send.Underfunded ∷ path_payment_strict_send.SrcNoTrust
    ∷ path_payment_strict_send.SrcNotAuthorized ∷ path_payment_strict_send.NoDestination
    ∷ path_payment_strict_send.NoTrust ∷ path_payment_strict_send.NotAuthorized ∷ path_payment_strict_send.LineFull
    ∷ path_payment_strict_send.TooFewOffers ∷ path_payment_strict_send.OfferCrossSelf
    ∷ path_payment_strict_send.UnderDestmin ∷ []

-- ---- ManageOfferResult

abbrev pub manage_offer_code : ManageOfferResult → ℤ
manage_offer_code (manage_offer.Success x) = pos 0
manage_offer_code manage_offer.Malformed = minus 1
manage_offer_code manage_offer.SellNoTrust = minus 2
manage_offer_code manage_offer.BuyNoTrust = minus 3
manage_offer_code manage_offer.SellNotAuthorized = minus 4
manage_offer_code manage_offer.BuyNotAuthorized = minus 5
manage_offer_code manage_offer.LineFull = minus 6
manage_offer_code manage_offer.Underfunded = minus 7
manage_offer_code manage_offer.CrossSelf = minus 8
manage_offer_code manage_offer.SellNoIssuer = minus 9
manage_offer_code manage_offer.BuyNoIssuer = minus 10
manage_offer_code manage_offer.NotFound = minus 11
manage_offer_code manage_offer.LowReserve = minus 12

abbrev pub manage_offer_values : List ManageOfferResult
manage_offer_values =
    manage_offer.Malformed ∷ manage_offer.SellNoTrust ∷ manage_offer.BuyNoTrust ∷ manage_offer.SellNotAuthorized
    ∷ manage_offer.BuyNotAuthorized ∷ manage_offer.LineFull ∷ manage_offer.Underfunded ∷ manage_offer.CrossSelf
    ∷ manage_offer.SellNoIssuer ∷ manage_offer.BuyNoIssuer ∷ manage_offer.NotFound ∷ manage_offer.LowReserve ∷ []

-- ---- SetOptionsResult

abbrev pub set_options_code : SetOptionsResult → ℤ
set_options_code set_options.Success = pos 0
set_options_code set_options.LowReserve = minus 1
set_options_code set_options.TooManySigners = minus 2
set_options_code set_options.BadFlags = minus 3
set_options_code set_options.InvalidInflation = minus 4
set_options_code set_options.CantChange = minus 5
set_options_code set_options.UnknownFlag = minus 6
set_options_code set_options.ThresholdOutOfRange = minus 7
set_options_code set_options.BadSigner = minus 8
set_options_code set_options.InvalidHomeDomain = minus 9
set_options_code set_options.AuthRevocableRequired = minus 10

abbrev pub set_options_values : List SetOptionsResult
set_options_values =
    set_options.Success ∷ set_options.LowReserve ∷ set_options.TooManySigners ∷ set_options.BadFlags
    ∷ set_options.InvalidInflation ∷ set_options.CantChange ∷ set_options.UnknownFlag ∷ set_options.ThresholdOutOfRange
    ∷ set_options.BadSigner ∷ set_options.InvalidHomeDomain ∷ set_options.AuthRevocableRequired ∷ []

-- ---- ChangeTrustResult

abbrev pub change_trust_code : ChangeTrustResult → ℤ
change_trust_code change_trust.Success = pos 0
change_trust_code change_trust.Malformed = minus 1
change_trust_code change_trust.NoIssuer = minus 2
change_trust_code change_trust.InvalidLimit = minus 3
change_trust_code change_trust.LowReserve = minus 4
change_trust_code change_trust.SelfNotAllowed = minus 5
change_trust_code change_trust.TrustLineMissing = minus 6
change_trust_code change_trust.CannotDelete = minus 7
change_trust_code change_trust.NotAuthMaintainLiabilities = minus 8

abbrev pub change_trust_values : List ChangeTrustResult
change_trust_values =
    change_trust.Success ∷ change_trust.Malformed ∷ change_trust.NoIssuer ∷ change_trust.InvalidLimit
    ∷ change_trust.LowReserve ∷ change_trust.SelfNotAllowed ∷ change_trust.TrustLineMissing ∷ change_trust.CannotDelete
    ∷ change_trust.NotAuthMaintainLiabilities ∷ []

-- ---- AllowTrustResult

abbrev pub allow_trust_code : AllowTrustResult → ℤ
allow_trust_code allow_trust.Success = pos 0
allow_trust_code allow_trust.Malformed = minus 1
allow_trust_code allow_trust.NoTrustLine = minus 2
allow_trust_code allow_trust.TrustNotRequired = minus 3
allow_trust_code allow_trust.CantRevoke = minus 4
allow_trust_code allow_trust.SelfNotAllowed = minus 5
allow_trust_code allow_trust.LowReserve = minus 6

abbrev pub allow_trust_values : List AllowTrustResult
allow_trust_values =
    allow_trust.Success ∷ allow_trust.Malformed ∷ allow_trust.NoTrustLine ∷ allow_trust.TrustNotRequired
    ∷ allow_trust.CantRevoke ∷ allow_trust.SelfNotAllowed ∷ allow_trust.LowReserve ∷ []

-- ---- AccountMergeResult

abbrev pub account_merge_code : AccountMergeResult → ℤ
account_merge_code (account_merge.Success x) = pos 0
account_merge_code account_merge.Malformed = minus 1
account_merge_code account_merge.NoAccount = minus 2
account_merge_code account_merge.ImmutableSet = minus 3
account_merge_code account_merge.HasSubEntries = minus 4
account_merge_code account_merge.SeqnumTooFar = minus 5
account_merge_code account_merge.DestFull = minus 6
account_merge_code account_merge.IsSponsor = minus 7

abbrev pub account_merge_values : List AccountMergeResult
account_merge_values =
    account_merge.Malformed ∷ account_merge.NoAccount ∷ account_merge.ImmutableSet ∷ account_merge.HasSubEntries
    ∷ account_merge.SeqnumTooFar ∷ account_merge.DestFull ∷ account_merge.IsSponsor ∷ []

-- ---- InflationResult

abbrev pub inflation_code : InflationResult → ℤ
inflation_code (inflation.Success x) = pos 0
inflation_code inflation.NotTime = minus 1

abbrev pub inflation_values : List InflationResult
inflation_values = inflation.NotTime ∷ []

-- ---- ManageDataResult

abbrev pub manage_data_code : ManageDataResult → ℤ
manage_data_code manage_data.Success = pos 0
manage_data_code manage_data.NotSupportedYet = minus 1
manage_data_code manage_data.NameNotFound = minus 2
manage_data_code manage_data.LowReserve = minus 3
manage_data_code manage_data.InvalidName = minus 4

abbrev pub manage_data_values : List ManageDataResult
manage_data_values =
    manage_data.Success ∷ manage_data.NotSupportedYet ∷ manage_data.NameNotFound ∷ manage_data.LowReserve
    ∷ manage_data.InvalidName ∷ []

-- ---- BumpSequenceResult

abbrev pub bump_sequence_code : BumpSequenceResult → ℤ
bump_sequence_code bump_sequence.Success = pos 0
bump_sequence_code bump_sequence.BadSeq = minus 1

abbrev pub bump_sequence_values : List BumpSequenceResult
bump_sequence_values = bump_sequence.Success ∷ bump_sequence.BadSeq ∷ []

-- ---- CreateClaimableBalanceResult

abbrev pub create_claimable_balance_code : CreateClaimableBalanceResult → ℤ
create_claimable_balance_code (create_claimable_balance.Success x) = pos 0
create_claimable_balance_code create_claimable_balance.Malformed = minus 1
create_claimable_balance_code create_claimable_balance.LowReserve = minus 2
create_claimable_balance_code create_claimable_balance.NoTrust = minus 3
create_claimable_balance_code create_claimable_balance.NotAuthorized = minus 4
create_claimable_balance_code create_claimable_balance.Underfunded = minus 5

abbrev pub create_claimable_balance_values : List CreateClaimableBalanceResult
create_claimable_balance_values =
    create_claimable_balance.Malformed ∷ create_claimable_balance.LowReserve ∷ create_claimable_balance.NoTrust
    ∷ create_claimable_balance.NotAuthorized ∷ create_claimable_balance.Underfunded ∷ []

-- ---- ClaimClaimableBalanceResult

abbrev pub claim_claimable_balance_code : ClaimClaimableBalanceResult → ℤ
claim_claimable_balance_code claim_claimable_balance.Success = pos 0
claim_claimable_balance_code claim_claimable_balance.DoesNotExist = minus 1
claim_claimable_balance_code claim_claimable_balance.CannotClaim = minus 2
claim_claimable_balance_code claim_claimable_balance.LineFull = minus 3
claim_claimable_balance_code claim_claimable_balance.NoTrust = minus 4
claim_claimable_balance_code claim_claimable_balance.NotAuthorized = minus 5

abbrev pub claim_claimable_balance_values : List ClaimClaimableBalanceResult
claim_claimable_balance_values =
    claim_claimable_balance.Success ∷ claim_claimable_balance.DoesNotExist ∷ claim_claimable_balance.CannotClaim
    ∷ claim_claimable_balance.LineFull ∷ claim_claimable_balance.NoTrust ∷ claim_claimable_balance.NotAuthorized ∷ []

-- ---- BeginSponsoringFutureReservesResult

abbrev pub begin_sponsoring_future_reserves_code : BeginSponsoringFutureReservesResult → ℤ
begin_sponsoring_future_reserves_code begin_sponsoring_future_reserves.Success = pos 0
begin_sponsoring_future_reserves_code begin_sponsoring_future_reserves.Malformed = minus 1
begin_sponsoring_future_reserves_code begin_sponsoring_future_reserves.AlreadySponsored = minus 2
begin_sponsoring_future_reserves_code begin_sponsoring_future_reserves.Recursive = minus 3

abbrev pub begin_sponsoring_future_reserves_values : List BeginSponsoringFutureReservesResult
begin_sponsoring_future_reserves_values =
    begin_sponsoring_future_reserves.Success ∷ begin_sponsoring_future_reserves.Malformed
    ∷ begin_sponsoring_future_reserves.AlreadySponsored ∷ begin_sponsoring_future_reserves.Recursive ∷ []

-- ---- EndSponsoringFutureReservesResult

abbrev pub end_sponsoring_future_reserves_code : EndSponsoringFutureReservesResult → ℤ
end_sponsoring_future_reserves_code end_sponsoring_future_reserves.Success = pos 0
end_sponsoring_future_reserves_code end_sponsoring_future_reserves.NotSponsored = minus 1

abbrev pub end_sponsoring_future_reserves_values : List EndSponsoringFutureReservesResult
end_sponsoring_future_reserves_values =
    end_sponsoring_future_reserves.Success ∷ end_sponsoring_future_reserves.NotSponsored ∷ []

-- ---- RevokeSponsorshipResult

abbrev pub revoke_sponsorship_code : RevokeSponsorshipResult → ℤ
revoke_sponsorship_code revoke_sponsorship.Success = pos 0
revoke_sponsorship_code revoke_sponsorship.DoesNotExist = minus 1
revoke_sponsorship_code revoke_sponsorship.NotSponsor = minus 2
revoke_sponsorship_code revoke_sponsorship.LowReserve = minus 3
revoke_sponsorship_code revoke_sponsorship.OnlyTransferable = minus 4
revoke_sponsorship_code revoke_sponsorship.Malformed = minus 5

abbrev pub revoke_sponsorship_values : List RevokeSponsorshipResult
revoke_sponsorship_values =
    revoke_sponsorship.Success ∷ revoke_sponsorship.DoesNotExist ∷ revoke_sponsorship.NotSponsor
    ∷ revoke_sponsorship.LowReserve ∷ revoke_sponsorship.OnlyTransferable ∷ revoke_sponsorship.Malformed ∷ []

-- ---- ClawbackResult

abbrev pub clawback_code : ClawbackResult → ℤ
clawback_code clawback.Success = pos 0
clawback_code clawback.Malformed = minus 1
clawback_code clawback.NotClawbackEnabled = minus 2
clawback_code clawback.NoTrust = minus 3
clawback_code clawback.Underfunded = minus 4

abbrev pub clawback_values : List ClawbackResult
clawback_values =
    clawback.Success ∷ clawback.Malformed ∷ clawback.NotClawbackEnabled ∷ clawback.NoTrust ∷ clawback.Underfunded ∷ []

-- ---- ClawbackClaimableBalanceResult

abbrev pub clawback_claimable_balance_code : ClawbackClaimableBalanceResult → ℤ
clawback_claimable_balance_code clawback_claimable_balance.Success = pos 0
clawback_claimable_balance_code clawback_claimable_balance.DoesNotExist = minus 1
clawback_claimable_balance_code clawback_claimable_balance.NotIssuer = minus 2
clawback_claimable_balance_code clawback_claimable_balance.NotClawbackEnabled = minus 3

abbrev pub clawback_claimable_balance_values : List ClawbackClaimableBalanceResult
clawback_claimable_balance_values =
    clawback_claimable_balance.Success ∷ clawback_claimable_balance.DoesNotExist ∷ clawback_claimable_balance.NotIssuer
    ∷ clawback_claimable_balance.NotClawbackEnabled ∷ []

-- ---- SetTrustLineFlagsResult

abbrev pub set_trust_line_flags_code : SetTrustLineFlagsResult → ℤ
set_trust_line_flags_code set_trust_line_flags.Success = pos 0
set_trust_line_flags_code set_trust_line_flags.Malformed = minus 1
set_trust_line_flags_code set_trust_line_flags.NoTrustLine = minus 2
set_trust_line_flags_code set_trust_line_flags.CantRevoke = minus 3
set_trust_line_flags_code set_trust_line_flags.InvalidState = minus 4
set_trust_line_flags_code set_trust_line_flags.LowReserve = minus 5

abbrev pub set_trust_line_flags_values : List SetTrustLineFlagsResult
set_trust_line_flags_values =
    set_trust_line_flags.Success ∷ set_trust_line_flags.Malformed ∷ set_trust_line_flags.NoTrustLine
    ∷ set_trust_line_flags.CantRevoke ∷ set_trust_line_flags.InvalidState ∷ set_trust_line_flags.LowReserve ∷ []

-- ---- LiquidityPoolDepositResult

abbrev pub liquidity_pool_deposit_code : LiquidityPoolDepositResult → ℤ
liquidity_pool_deposit_code liquidity_pool_deposit.Success = pos 0
liquidity_pool_deposit_code liquidity_pool_deposit.Malformed = minus 1
liquidity_pool_deposit_code liquidity_pool_deposit.NoTrust = minus 2
liquidity_pool_deposit_code liquidity_pool_deposit.NotAuthorized = minus 3
liquidity_pool_deposit_code liquidity_pool_deposit.Underfunded = minus 4
liquidity_pool_deposit_code liquidity_pool_deposit.LineFull = minus 5
liquidity_pool_deposit_code liquidity_pool_deposit.BadPrice = minus 6
liquidity_pool_deposit_code liquidity_pool_deposit.PoolFull = minus 7

abbrev pub liquidity_pool_deposit_values : List LiquidityPoolDepositResult
liquidity_pool_deposit_values =
    liquidity_pool_deposit.Success ∷ liquidity_pool_deposit.Malformed ∷ liquidity_pool_deposit.NoTrust
    ∷ liquidity_pool_deposit.NotAuthorized ∷ liquidity_pool_deposit.Underfunded ∷ liquidity_pool_deposit.LineFull
    ∷ liquidity_pool_deposit.BadPrice ∷ liquidity_pool_deposit.PoolFull ∷ []

-- ---- LiquidityPoolWithdrawResult

abbrev pub liquidity_pool_withdraw_code : LiquidityPoolWithdrawResult → ℤ
liquidity_pool_withdraw_code liquidity_pool_withdraw.Success = pos 0
liquidity_pool_withdraw_code liquidity_pool_withdraw.Malformed = minus 1
liquidity_pool_withdraw_code liquidity_pool_withdraw.NoTrust = minus 2
liquidity_pool_withdraw_code liquidity_pool_withdraw.Underfunded = minus 3
liquidity_pool_withdraw_code liquidity_pool_withdraw.LineFull = minus 4
liquidity_pool_withdraw_code liquidity_pool_withdraw.UnderMinimum = minus 5

abbrev pub liquidity_pool_withdraw_values : List LiquidityPoolWithdrawResult
liquidity_pool_withdraw_values =
    liquidity_pool_withdraw.Success ∷ liquidity_pool_withdraw.Malformed ∷ liquidity_pool_withdraw.NoTrust
    ∷ liquidity_pool_withdraw.Underfunded ∷ liquidity_pool_withdraw.LineFull ∷ liquidity_pool_withdraw.UnderMinimum ∷ []

-- ---- OperationResult

abbrev pub operation_code : OperationResult → ℤ
operation_code (operation.Inner x) = pos 0
operation_code operation.BadAuth = minus 1
operation_code operation.NoAccount = minus 2
operation_code operation.NotSupported = minus 3
operation_code operation.TooManySubentries = minus 4
operation_code operation.ExceededWorkLimit = minus 5
operation_code operation.TooManySponsoring = minus 6

abbrev pub operation_values : List OperationResult
operation_values =
    operation.BadAuth ∷ operation.NoAccount ∷ operation.NotSupported ∷ operation.TooManySubentries
    ∷ operation.ExceededWorkLimit ∷ operation.TooManySponsoring ∷ []

-- ---- InnerTransactionOutcome

abbrev pub inner_code : InnerTransactionOutcome → ℤ
inner_code (inner.Success x) = pos 0
inner_code (inner.Failed x) = minus 1
inner_code inner.TooEarly = minus 2
inner_code inner.TooLate = minus 3
inner_code inner.MissingOperation = minus 4
inner_code inner.BadSeq = minus 5
inner_code inner.BadAuth = minus 6
inner_code inner.InsufficientBalance = minus 7
inner_code inner.NoAccount = minus 8
inner_code inner.InsufficientFee = minus 9
inner_code inner.BadAuthExtra = minus 10
inner_code inner.InternalError = minus 11
inner_code inner.NotSupported = minus 12
inner_code inner.FeeBumpInnerFailed = minus 13
inner_code inner.BadSponsorship = minus 14
inner_code inner.BadMinSeqAgeOrGap = minus 15
inner_code inner.Malformed = minus 16
inner_code inner.FeeBumpInnerSuccess = pos 1

abbrev pub inner_values : List InnerTransactionOutcome
inner_values =
    inner.TooEarly ∷ inner.TooLate ∷ inner.MissingOperation ∷ inner.BadSeq ∷ inner.BadAuth ∷ inner.InsufficientBalance
    ∷ inner.NoAccount ∷ inner.InsufficientFee ∷ inner.BadAuthExtra ∷ inner.InternalError ∷ inner.NotSupported
    ∷ inner.FeeBumpInnerFailed ∷ inner.BadSponsorship ∷ inner.BadMinSeqAgeOrGap ∷ inner.Malformed
    ∷ inner.FeeBumpInnerSuccess ∷ []

-- ---- TransactionOutcome

abbrev pub outcome_code : TransactionOutcome → ℤ
outcome_code (outcome.Success x) = pos 0
outcome_code (outcome.Failed x) = minus 1
outcome_code outcome.TooEarly = minus 2
outcome_code outcome.TooLate = minus 3
outcome_code outcome.MissingOperation = minus 4
outcome_code outcome.BadSeq = minus 5
outcome_code outcome.BadAuth = minus 6
outcome_code outcome.InsufficientBalance = minus 7
outcome_code outcome.NoAccount = minus 8
outcome_code outcome.InsufficientFee = minus 9
outcome_code outcome.BadAuthExtra = minus 10
outcome_code outcome.InternalError = minus 11
outcome_code outcome.NotSupported = minus 12
outcome_code (outcome.FeeBumpInnerFailed x) = minus 13
outcome_code outcome.BadSponsorship = minus 14
outcome_code outcome.BadMinSeqAgeOrGap = minus 15
outcome_code outcome.Malformed = minus 16
outcome_code (outcome.FeeBumpInnerSuccess x) = pos 1

abbrev pub outcome_values : List TransactionOutcome
outcome_values =
    outcome.TooEarly ∷ outcome.TooLate ∷ outcome.MissingOperation ∷ outcome.BadSeq ∷ outcome.BadAuth
    ∷ outcome.InsufficientBalance ∷ outcome.NoAccount ∷ outcome.InsufficientFee ∷ outcome.BadAuthExtra
    ∷ outcome.InternalError ∷ outcome.NotSupported ∷ outcome.BadSponsorship ∷ outcome.BadMinSeqAgeOrGap
    ∷ outcome.Malformed ∷ []
