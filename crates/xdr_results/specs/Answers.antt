-- The formats of what operations answer (Stellar-transaction.x of protocols 18 and 19, over RFC 4506).
use Rattle.std.specs.Prelude.{ℤ, pos, List, [], ◌∷◌, refl}
use Rattle.xdr_core.specs.declared.fault.XdrFault.{XdrFault}
use Rattle.xdr_core.specs.Leaves.{i64, fixed}
use Rattle.xdr_core.specs.Combinators.{◌⨾◌, Fields, struct_of, empty, Arm, Part, part}
use Rattle.xdr_core.specs.Xdr.{Xdr, list_of, union_of}
use Rattle.ledger_types.specs.declared.ids.AccountId.{AccountId}
use Rattle.ledger_types.specs.declared.asset.Asset.{Asset}
use Rattle.ledger_types.specs.declared.claim_atom.ClaimAtom.{ClaimAtom}
use Rattle.ledger_types.specs.declared.claim_atom.ClaimAtom.TheVariants as atoms
use Rattle.op_types.specs.declared.payment_results.PathPaymentSuccess.{PathPaymentSuccess}
use Rattle.op_types.specs.declared.payment_results.SimplePaymentResult.{SimplePaymentResult}
use Rattle.op_types.specs.declared.offer_results.ManageOfferSuccess.{ManageOfferSuccess}
use Rattle.op_types.specs.declared.offer_results.ManageOfferEffect.{ManageOfferEffect}
use Rattle.op_types.specs.declared.offer_results.ManageOfferEffect.TheVariants as effects
use Rattle.op_types.specs.declared.account_results.InflationPayout.{InflationPayout}
use Rattle.op_types.specs.declared.payment_results.CreateAccountResult.{CreateAccountResult}
use Rattle.op_types.specs.declared.payment_results.PaymentResult.{PaymentResult}
use Rattle.op_types.specs.declared.payment_results.PathPaymentStrictReceiveResult.{PathPaymentStrictReceiveResult}
use Rattle.op_types.specs.declared.payment_results.PathPaymentStrictReceiveResult.TheVariants as strict_receive
use Rattle.op_types.specs.declared.payment_results.PathPaymentStrictSendResult.{PathPaymentStrictSendResult}
use Rattle.op_types.specs.declared.payment_results.PathPaymentStrictSendResult.TheVariants as strict_send
use Rattle.op_types.specs.declared.offer_results.ManageOfferResult.{ManageOfferResult}
use Rattle.op_types.specs.declared.offer_results.ManageOfferResult.TheVariants as manage_offer
use Rattle.op_types.specs.declared.account_results.SetOptionsResult.{SetOptionsResult}
use Rattle.op_types.specs.declared.trust_results.ChangeTrustResult.{ChangeTrustResult}
use Rattle.op_types.specs.declared.trust_results.AllowTrustResult.{AllowTrustResult}
use Rattle.op_types.specs.declared.account_results.AccountMergeResult.{AccountMergeResult}
use Rattle.op_types.specs.declared.account_results.AccountMergeResult.TheVariants as account_merge
use Rattle.op_types.specs.declared.account_results.InflationResult.{InflationResult}
use Rattle.op_types.specs.declared.account_results.InflationResult.TheVariants as inflation
use Rattle.op_types.specs.declared.account_results.ManageDataResult.{ManageDataResult}
use Rattle.op_types.specs.declared.account_results.BumpSequenceResult.{BumpSequenceResult}
use Rattle.op_types.specs.declared.balance_results.CreateClaimableBalanceResult.{CreateClaimableBalanceResult}
use Rattle.op_types.specs.declared.balance_results.CreateClaimableBalanceResult.TheVariants as create_claimable_balance
use Rattle.op_types.specs.declared.balance_results.ClaimClaimableBalanceResult.{ClaimClaimableBalanceResult}
use Rattle.op_types.specs.declared.sponsor_results.BeginSponsoringFutureReservesResult.{
  BeginSponsoringFutureReservesResult,
}
use Rattle.op_types.specs.declared.sponsor_results.EndSponsoringFutureReservesResult.{EndSponsoringFutureReservesResult}
use Rattle.op_types.specs.declared.sponsor_results.RevokeSponsorshipResult.{RevokeSponsorshipResult}
use Rattle.op_types.specs.declared.trust_results.ClawbackResult.{ClawbackResult}
use Rattle.op_types.specs.declared.balance_results.ClawbackClaimableBalanceResult.{ClawbackClaimableBalanceResult}
use Rattle.op_types.specs.declared.trust_results.SetTrustLineFlagsResult.{SetTrustLineFlagsResult}
use Rattle.op_types.specs.declared.pool_results.LiquidityPoolDepositResult.{LiquidityPoolDepositResult}
use Rattle.op_types.specs.declared.pool_results.LiquidityPoolWithdrawResult.{LiquidityPoolWithdrawResult}
use Rattle.op_types.specs.Numbers.{minus}
use Rattle.op_types.specs.Codes.{create_account_code, create_account_values, payment_code, payment_values}
use Rattle.op_types.specs.Codes.{path_payment_strict_receive_code, path_payment_strict_receive_values}
use Rattle.op_types.specs.Codes.{path_payment_strict_send_code, path_payment_strict_send_values, manage_offer_code}
use Rattle.op_types.specs.Codes.{manage_offer_values, set_options_code, set_options_values, change_trust_code}
use Rattle.op_types.specs.Codes.{change_trust_values, allow_trust_code, allow_trust_values, account_merge_code}
use Rattle.op_types.specs.Codes.{account_merge_values, inflation_code, inflation_values, manage_data_code}
use Rattle.op_types.specs.Codes.{manage_data_values, bump_sequence_code, bump_sequence_values}
use Rattle.op_types.specs.Codes.{create_claimable_balance_code, create_claimable_balance_values}
use Rattle.op_types.specs.Codes.{claim_claimable_balance_code, claim_claimable_balance_values}
use Rattle.op_types.specs.Codes.{begin_sponsoring_future_reserves_code, begin_sponsoring_future_reserves_values}
use Rattle.op_types.specs.Codes.{end_sponsoring_future_reserves_code, end_sponsoring_future_reserves_values}
use Rattle.op_types.specs.Codes.{revoke_sponsorship_code, revoke_sponsorship_values, clawback_code, clawback_values}
use Rattle.op_types.specs.Codes.{clawback_claimable_balance_code, clawback_claimable_balance_values}
use Rattle.op_types.specs.Codes.{set_trust_line_flags_code, set_trust_line_flags_values, liquidity_pool_deposit_code}
use Rattle.op_types.specs.Codes.{liquidity_pool_deposit_values, liquidity_pool_withdraw_code}
use Rattle.op_types.specs.Codes.{liquidity_pool_withdraw_values}
use Rattle.xdr_entries.specs.Basic.{arm, hash, account_id, claimable_balance_id, asset}
use Rattle.xdr_entries.specs.Entries.{offer_entry}
use Rattle.xdr_results.specs.Coded.{plain, plain_arms, codes}

-- ---- what trades moved

-- so much of an asset
abbrev pub asset_amount : Xdr (Asset × ℤ)
asset_amount = asset ⨾ i64

-- what was given, and what was got
abbrev pub trade : Xdr ((Asset × ℤ) × (Asset × ℤ))
trade = asset_amount ⨾ asset_amount

abbrev pub atom_v0 : Arm XdrFault ClaimAtom
atom_v0 =
    arm (pos 0) (fixed 32 ⨾ i64 ⨾ trade)
    (λ (seller, (offer, (sold, bought))). atoms.V0 seller offer sold.0 sold.1 bought.0 bought.1)

abbrev pub atom_order_book : Arm XdrFault ClaimAtom
atom_order_book =
    arm (pos 1) (account_id ⨾ i64 ⨾ trade)
    (λ (seller, (offer, (sold, bought))). atoms.OrderBook seller offer sold.0 sold.1 bought.0 bought.1)

abbrev pub atom_liquidity_pool : Arm XdrFault ClaimAtom
atom_liquidity_pool =
    arm (pos 2) (hash ⨾ trade)
    (λ (pool, (sold, bought)). atoms.LiquidityPool pool sold.0 sold.1 bought.0 bought.1)

abbrev pub atom_arms : List (Arm XdrFault ClaimAtom)
atom_arms = atom_v0 ∷ atom_order_book ∷ atom_liquidity_pool ∷ []

abbrev pub atom_part : ClaimAtom → Part XdrFault ClaimAtom
atom_part (atoms.V0 seller offer sold amount_sold bought amount_bought) =
    part atom_v0 (seller, (offer, ((sold, amount_sold), (bought, amount_bought))))
atom_part (atoms.OrderBook seller offer sold amount_sold bought amount_bought) =
    part atom_order_book (seller, (offer, ((sold, amount_sold), (bought, amount_bought))))
atom_part (atoms.LiquidityPool pool sold amount_sold bought amount_bought) =
    part atom_liquidity_pool (pool, ((sold, amount_sold), (bought, amount_bought)))

unfoldable pub claim_atom : Xdr ClaimAtom
claim_atom = union_of atom_part atom_arms

-- ---- what follows codes

abbrev pub simple_fields : Fields (AccountId × (Asset × ℤ)) SimplePaymentResult
simple_fields = record {
  to = λ (destination, (held, amount)). record { destination = destination; asset = held; amount = amount };
  from = λ r. (r.destination, (r.asset, r.amount));
  there = λ _. refl;
  back = λ _. refl;
}

unfoldable pub simple_payment_result : Xdr SimplePaymentResult
simple_payment_result = struct_of simple_fields (account_id ⨾ asset ⨾ i64)

abbrev pub path_fields : Fields (List ClaimAtom × SimplePaymentResult) PathPaymentSuccess
path_fields = record {
  to = λ v. record { offers = v.0; last = v.1 };
  from = λ r. (r.offers, r.last);
  there = λ _. refl;
  back = λ _. refl;
}

unfoldable pub path_payment_success : Xdr PathPaymentSuccess
path_payment_success = struct_of path_fields (list_of 4294967295 claim_atom ⨾ simple_payment_result)

abbrev pub effect_created : Arm XdrFault ManageOfferEffect
effect_created = arm (pos 0) offer_entry effects.Created

abbrev pub effect_updated : Arm XdrFault ManageOfferEffect
effect_updated = arm (pos 1) offer_entry effects.Updated

abbrev pub effect_deleted : Arm XdrFault ManageOfferEffect
effect_deleted = arm (pos 2) empty (λ v. effects.Deleted)

abbrev pub effect_arms : List (Arm XdrFault ManageOfferEffect)
effect_arms = effect_created ∷ effect_updated ∷ effect_deleted ∷ []

abbrev pub effect_part : ManageOfferEffect → Part XdrFault ManageOfferEffect
effect_part (effects.Created offer) = part effect_created offer
effect_part (effects.Updated offer) = part effect_updated offer
effect_part effects.Deleted = part effect_deleted tt

unfoldable pub manage_offer_effect : Xdr ManageOfferEffect
manage_offer_effect = union_of effect_part effect_arms

abbrev pub offer_success_fields : Fields (List ClaimAtom × ManageOfferEffect) ManageOfferSuccess
offer_success_fields = record {
  to = λ v. record { offers_claimed = v.0; offer = v.1 };
  from = λ r. (r.offers_claimed, r.offer);
  there = λ _. refl;
  back = λ _. refl;
}

unfoldable pub manage_offer_success : Xdr ManageOfferSuccess
manage_offer_success = struct_of offer_success_fields (list_of 4294967295 claim_atom ⨾ manage_offer_effect)

abbrev pub payout_fields : Fields (AccountId × ℤ) InflationPayout
payout_fields = record {
  to = λ v. record { destination = v.0; amount = v.1 };
  from = λ p. (p.destination, p.amount);
  there = λ _. refl;
  back = λ _. refl;
}

unfoldable pub inflation_payout : Xdr InflationPayout
inflation_payout = struct_of payout_fields (account_id ⨾ i64)

-- ---- what each type of operation answers

unfoldable pub create_account_result : Xdr CreateAccountResult
create_account_result = codes create_account_code create_account_values

unfoldable pub payment_result : Xdr PaymentResult
payment_result = codes payment_code payment_values

abbrev pub path_payment_strict_receive_success_arm : Arm XdrFault PathPaymentStrictReceiveResult
path_payment_strict_receive_success_arm = arm (pos 0) path_payment_success strict_receive.Success

abbrev pub path_payment_strict_receive_no_issuer_arm : Arm XdrFault PathPaymentStrictReceiveResult
path_payment_strict_receive_no_issuer_arm = arm (minus 9) asset strict_receive.NoIssuer

abbrev pub path_payment_strict_receive_result_arms : List (Arm XdrFault PathPaymentStrictReceiveResult)
path_payment_strict_receive_result_arms =
    path_payment_strict_receive_success_arm ∷ path_payment_strict_receive_no_issuer_arm
    ∷ plain_arms path_payment_strict_receive_code path_payment_strict_receive_values

abbrev pub path_payment_strict_receive_result_part : PathPaymentStrictReceiveResult
    → Part XdrFault PathPaymentStrictReceiveResult
path_payment_strict_receive_result_part (strict_receive.Success x) =
    part path_payment_strict_receive_success_arm x
path_payment_strict_receive_result_part (strict_receive.NoIssuer x) =
    part path_payment_strict_receive_no_issuer_arm x
path_payment_strict_receive_result_part answer = part (plain path_payment_strict_receive_code answer) tt

unfoldable pub path_payment_strict_receive_result : Xdr PathPaymentStrictReceiveResult
path_payment_strict_receive_result =
    union_of path_payment_strict_receive_result_part path_payment_strict_receive_result_arms

abbrev pub path_payment_strict_send_success_arm : Arm XdrFault PathPaymentStrictSendResult
path_payment_strict_send_success_arm = arm (pos 0) path_payment_success strict_send.Success

abbrev pub path_payment_strict_send_no_issuer_arm : Arm XdrFault PathPaymentStrictSendResult
path_payment_strict_send_no_issuer_arm = arm (minus 9) asset strict_send.NoIssuer

abbrev pub path_payment_strict_send_result_arms : List (Arm XdrFault PathPaymentStrictSendResult)
path_payment_strict_send_result_arms =
    path_payment_strict_send_success_arm ∷ path_payment_strict_send_no_issuer_arm
    ∷ plain_arms path_payment_strict_send_code path_payment_strict_send_values

abbrev pub path_payment_strict_send_result_part : PathPaymentStrictSendResult
    → Part XdrFault PathPaymentStrictSendResult
path_payment_strict_send_result_part (strict_send.Success x) = part path_payment_strict_send_success_arm x
path_payment_strict_send_result_part (strict_send.NoIssuer x) =
    part path_payment_strict_send_no_issuer_arm x
path_payment_strict_send_result_part answer = part (plain path_payment_strict_send_code answer) tt

unfoldable pub path_payment_strict_send_result : Xdr PathPaymentStrictSendResult
path_payment_strict_send_result = union_of path_payment_strict_send_result_part path_payment_strict_send_result_arms

abbrev pub manage_offer_success_arm : Arm XdrFault ManageOfferResult
manage_offer_success_arm = arm (pos 0) manage_offer_success manage_offer.Success

abbrev pub manage_offer_result_arms : List (Arm XdrFault ManageOfferResult)
manage_offer_result_arms = manage_offer_success_arm ∷ plain_arms manage_offer_code manage_offer_values

abbrev pub manage_offer_result_part : ManageOfferResult → Part XdrFault ManageOfferResult
manage_offer_result_part (manage_offer.Success x) = part manage_offer_success_arm x
manage_offer_result_part answer = part (plain manage_offer_code answer) tt

unfoldable pub manage_offer_result : Xdr ManageOfferResult
manage_offer_result = union_of manage_offer_result_part manage_offer_result_arms

unfoldable pub set_options_result : Xdr SetOptionsResult
set_options_result = codes set_options_code set_options_values

unfoldable pub change_trust_result : Xdr ChangeTrustResult
change_trust_result = codes change_trust_code change_trust_values

unfoldable pub allow_trust_result : Xdr AllowTrustResult
allow_trust_result = codes allow_trust_code allow_trust_values

abbrev pub account_merge_success_arm : Arm XdrFault AccountMergeResult
account_merge_success_arm = arm (pos 0) i64 account_merge.Success

abbrev pub account_merge_result_arms : List (Arm XdrFault AccountMergeResult)
account_merge_result_arms = account_merge_success_arm ∷ plain_arms account_merge_code account_merge_values

abbrev pub account_merge_result_part : AccountMergeResult → Part XdrFault AccountMergeResult
account_merge_result_part (account_merge.Success x) = part account_merge_success_arm x
account_merge_result_part answer = part (plain account_merge_code answer) tt

unfoldable pub account_merge_result : Xdr AccountMergeResult
account_merge_result = union_of account_merge_result_part account_merge_result_arms

abbrev pub inflation_success_arm : Arm XdrFault InflationResult
inflation_success_arm = arm (pos 0) (list_of 4294967295 inflation_payout) inflation.Success

abbrev pub inflation_result_arms : List (Arm XdrFault InflationResult)
inflation_result_arms = inflation_success_arm ∷ plain_arms inflation_code inflation_values

abbrev pub inflation_result_part : InflationResult → Part XdrFault InflationResult
inflation_result_part (inflation.Success x) = part inflation_success_arm x
inflation_result_part answer = part (plain inflation_code answer) tt

unfoldable pub inflation_result : Xdr InflationResult
inflation_result = union_of inflation_result_part inflation_result_arms

unfoldable pub manage_data_result : Xdr ManageDataResult
manage_data_result = codes manage_data_code manage_data_values

unfoldable pub bump_sequence_result : Xdr BumpSequenceResult
bump_sequence_result = codes bump_sequence_code bump_sequence_values

abbrev pub create_claimable_balance_success_arm : Arm XdrFault CreateClaimableBalanceResult
create_claimable_balance_success_arm = arm (pos 0) claimable_balance_id create_claimable_balance.Success

abbrev pub create_claimable_balance_result_arms : List (Arm XdrFault CreateClaimableBalanceResult)
create_claimable_balance_result_arms =
    create_claimable_balance_success_arm ∷ plain_arms create_claimable_balance_code create_claimable_balance_values

abbrev pub create_claimable_balance_result_part : CreateClaimableBalanceResult
    → Part XdrFault CreateClaimableBalanceResult
create_claimable_balance_result_part (create_claimable_balance.Success x) = part create_claimable_balance_success_arm x
create_claimable_balance_result_part answer = part (plain create_claimable_balance_code answer) tt

unfoldable pub create_claimable_balance_result : Xdr CreateClaimableBalanceResult
create_claimable_balance_result = union_of create_claimable_balance_result_part create_claimable_balance_result_arms

unfoldable pub claim_claimable_balance_result : Xdr ClaimClaimableBalanceResult
claim_claimable_balance_result = codes claim_claimable_balance_code claim_claimable_balance_values

unfoldable pub begin_sponsoring_future_reserves_result : Xdr BeginSponsoringFutureReservesResult
begin_sponsoring_future_reserves_result =
    codes begin_sponsoring_future_reserves_code begin_sponsoring_future_reserves_values

unfoldable pub end_sponsoring_future_reserves_result : Xdr EndSponsoringFutureReservesResult
end_sponsoring_future_reserves_result = codes end_sponsoring_future_reserves_code end_sponsoring_future_reserves_values

unfoldable pub revoke_sponsorship_result : Xdr RevokeSponsorshipResult
revoke_sponsorship_result = codes revoke_sponsorship_code revoke_sponsorship_values

unfoldable pub clawback_result : Xdr ClawbackResult
clawback_result = codes clawback_code clawback_values

unfoldable pub clawback_claimable_balance_result : Xdr ClawbackClaimableBalanceResult
clawback_claimable_balance_result = codes clawback_claimable_balance_code clawback_claimable_balance_values

unfoldable pub set_trust_line_flags_result : Xdr SetTrustLineFlagsResult
set_trust_line_flags_result = codes set_trust_line_flags_code set_trust_line_flags_values

unfoldable pub liquidity_pool_deposit_result : Xdr LiquidityPoolDepositResult
liquidity_pool_deposit_result = codes liquidity_pool_deposit_code liquidity_pool_deposit_values

unfoldable pub liquidity_pool_withdraw_result : Xdr LiquidityPoolWithdrawResult
liquidity_pool_withdraw_result = codes liquidity_pool_withdraw_code liquidity_pool_withdraw_values
