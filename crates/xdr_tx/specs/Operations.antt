-- The formats of operations (Stellar-transaction.x of protocols 18 and 19, over RFC 4506).
use Rattle.std.specs.Prelude.{ℕ, ℤ, pos, List, [], ◌∷◌, Option, refl}
use Rattle.xdr_core.specs.declared.fault.XdrFault.{XdrFault}
use Rattle.xdr_core.specs.Leaves.{u32, i64, fixed, var}
use Rattle.xdr_core.specs.Combinators.{◌⨾◌, Fields, struct_of, entire, empty, Arm, Part, part}
use Rattle.xdr_core.specs.Xdr.{Xdr, optional, list_of, union_of}
use Rattle.ledger_types.specs.declared.ids.AccountId.{AccountId}
use Rattle.ledger_types.specs.declared.ids.MuxedAccount.{MuxedAccount}
use Rattle.ledger_types.specs.declared.ids.Hash.{Hash}
use Rattle.ledger_types.specs.declared.ids.ClaimableBalanceId.{ClaimableBalanceId}
use Rattle.ledger_types.specs.declared.signer.Signer.{Signer}
use Rattle.ledger_types.specs.declared.asset.Asset.{Asset}
use Rattle.ledger_types.specs.declared.asset.ChangeTrustAsset.{ChangeTrustAsset}
use Rattle.ledger_types.specs.declared.price.Price.{Price}
use Rattle.ledger_types.specs.declared.claimable_balance.Claimant.{Claimant}
use Rattle.op_types.specs.declared.trust_ops.AssetCode.{AssetCode}
use Rattle.op_types.specs.declared.trust_ops.AssetCode.TheVariants as asset_codes
use Rattle.op_types.specs.declared.account_ops.CreateAccountOp.{CreateAccountOp}
use Rattle.op_types.specs.declared.payment_ops.PaymentOp.{PaymentOp}
use Rattle.op_types.specs.declared.payment_ops.PathPaymentStrictReceiveOp.{PathPaymentStrictReceiveOp}
use Rattle.op_types.specs.declared.offer_ops.ManageSellOfferOp.{ManageSellOfferOp}
use Rattle.op_types.specs.declared.offer_ops.CreatePassiveSellOfferOp.{CreatePassiveSellOfferOp}
use Rattle.op_types.specs.declared.account_ops.SetOptionsOp.{SetOptionsOp}
use Rattle.op_types.specs.declared.trust_ops.ChangeTrustOp.{ChangeTrustOp}
use Rattle.op_types.specs.declared.trust_ops.AllowTrustOp.{AllowTrustOp}
use Rattle.op_types.specs.declared.account_ops.AccountMergeOp.{AccountMergeOp}
use Rattle.op_types.specs.declared.account_ops.ManageDataOp.{ManageDataOp}
use Rattle.op_types.specs.declared.account_ops.BumpSequenceOp.{BumpSequenceOp}
use Rattle.op_types.specs.declared.offer_ops.ManageBuyOfferOp.{ManageBuyOfferOp}
use Rattle.op_types.specs.declared.payment_ops.PathPaymentStrictSendOp.{PathPaymentStrictSendOp}
use Rattle.op_types.specs.declared.balance_ops.CreateClaimableBalanceOp.{CreateClaimableBalanceOp}
use Rattle.op_types.specs.declared.balance_ops.ClaimClaimableBalanceOp.{ClaimClaimableBalanceOp}
use Rattle.op_types.specs.declared.sponsor_ops.BeginSponsoringFutureReservesOp.{BeginSponsoringFutureReservesOp}
use Rattle.op_types.specs.declared.sponsor_ops.RevokeSponsorshipOp.{RevokeSponsorshipOp}
use Rattle.op_types.specs.declared.sponsor_ops.RevokeSponsorshipOp.TheVariants as revoking
use Rattle.op_types.specs.declared.trust_ops.ClawbackOp.{ClawbackOp}
use Rattle.op_types.specs.declared.balance_ops.ClawbackClaimableBalanceOp.{ClawbackClaimableBalanceOp}
use Rattle.op_types.specs.declared.trust_ops.SetTrustLineFlagsOp.{SetTrustLineFlagsOp}
use Rattle.op_types.specs.declared.pool_ops.LiquidityPoolDepositOp.{LiquidityPoolDepositOp}
use Rattle.op_types.specs.declared.pool_ops.LiquidityPoolWithdrawOp.{LiquidityPoolWithdrawOp}
use Rattle.op_types.specs.declared.operation_type.TheConstants as types
use Rattle.op_types.specs.declared.operation.OperationBody.{OperationBody}
use Rattle.op_types.specs.declared.operation.OperationBody.TheVariants as body
use Rattle.op_types.specs.declared.operation.Operation.{Operation}
use Rattle.xdr_entries.specs.Basic.{arm, hash, account_id, claimable_balance_id, muxed_account, signer_key, signer}
use Rattle.xdr_entries.specs.Basic.{asset, change_trust_asset, price}
use Rattle.xdr_entries.specs.Entries.{claimant}
use Rattle.xdr_entries.specs.Keys.{ledger_key}

-- ---- the source's own account

abbrev pub create_account_op_fields : Fields (AccountId × ℤ) CreateAccountOp
create_account_op_fields = record {
  to = λ (destination, starting_balance). record {
    destination = destination;
    starting_balance = starting_balance;
  };
  from = λ o. (o.destination, o.starting_balance);
  there = λ _. refl;
  back = λ _. refl;
}

unfoldable pub create_account_op : Xdr CreateAccountOp
create_account_op = struct_of create_account_op_fields (account_id ⨾ i64)

-- the thresholds that are set, and what follows them
abbrev pub ThresholdParts : Type 0
ThresholdParts = Option ℕ × (Option ℕ × (Option ℕ × (Option (List ℕ) × Option Signer)))

abbrev pub threshold_parts : SetOptionsOp → ThresholdParts
threshold_parts o = (o.low_threshold, (o.med_threshold, (o.high_threshold, (o.home_domain, o.signer))))

abbrev pub SetOptionsParts : Type 0
SetOptionsParts = Option AccountId × (Option ℕ × (Option ℕ × (Option ℕ × ThresholdParts)))

abbrev pub set_options_op_fields : Fields SetOptionsParts SetOptionsOp
set_options_op_fields = record {
  to = λ (inflation, (clear, (set, (master, (low, (medium, (high, (domain, signer)))))))). record {
    inflation_dest = inflation;
    clear_flags = clear;
    set_flags = set;
    master_weight = master;
    low_threshold = low;
    med_threshold = medium;
    high_threshold = high;
    home_domain = domain;
    signer = signer;
  };
  from = λ o. (o.inflation_dest, (o.clear_flags, (o.set_flags, (o.master_weight, threshold_parts o))));
  there = λ _. refl;
  back = λ _. refl;
}

unfoldable pub set_options_op : Xdr SetOptionsOp
set_options_op =
    struct_of set_options_op_fields (
    optional account_id ⨾ optional u32 ⨾ optional u32 ⨾ optional u32 ⨾ optional u32 ⨾ optional u32 ⨾ optional u32
    ⨾ optional (var 32) ⨾ optional signer)

abbrev pub account_merge_op_fields : Fields MuxedAccount AccountMergeOp
account_merge_op_fields = record {
  to = λ x. record { destination = x };
  from = λ o. o.destination;
  there = λ _. refl;
  back = λ _. refl;
}

unfoldable pub account_merge_op : Xdr AccountMergeOp
account_merge_op = struct_of account_merge_op_fields (muxed_account)

abbrev pub manage_data_op_fields : Fields (List ℕ × Option (List ℕ)) ManageDataOp
manage_data_op_fields = record {
  to = λ (data_name, data_value). record {
    data_name = data_name;
    data_value = data_value;
  };
  from = λ o. (o.data_name, o.data_value);
  there = λ _. refl;
  back = λ _. refl;
}

unfoldable pub manage_data_op : Xdr ManageDataOp
manage_data_op = struct_of manage_data_op_fields (var 64 ⨾ optional (var 64))

abbrev pub bump_sequence_op_fields : Fields ℤ BumpSequenceOp
bump_sequence_op_fields = record {
  to = λ x. record { bump_to = x };
  from = λ o. o.bump_to;
  there = λ _. refl;
  back = λ _. refl;
}

unfoldable pub bump_sequence_op : Xdr BumpSequenceOp
bump_sequence_op = struct_of bump_sequence_op_fields (i64)

-- ---- payments

abbrev pub payment_op_fields : Fields (MuxedAccount × (Asset × ℤ)) PaymentOp
payment_op_fields = record {
  to = λ (destination, (asset, amount)). record {
    destination = destination;
    asset = asset;
    amount = amount;
  };
  from = λ o. (o.destination, (o.asset, o.amount));
  there = λ _. refl;
  back = λ _. refl;
}

unfoldable pub payment_op : Xdr PaymentOp
payment_op = struct_of payment_op_fields (muxed_account ⨾ asset ⨾ i64)

abbrev pub path_payment_strict_receive_op_fields : Fields (Asset × (ℤ × (MuxedAccount × (Asset × (ℤ × List Asset)))))
    PathPaymentStrictReceiveOp
path_payment_strict_receive_op_fields = record {
  to = λ (send_asset, (send_max, (destination, (dest_asset, (dest_amount, path))))). record {
    send_asset = send_asset;
    send_max = send_max;
    destination = destination;
    dest_asset = dest_asset;
    dest_amount = dest_amount;
    path = path;
  };
  from = λ o. (o.send_asset, (o.send_max, (o.destination, (o.dest_asset, (o.dest_amount, o.path)))));
  there = λ _. refl;
  back = λ _. refl;
}

unfoldable pub path_payment_strict_receive_op : Xdr PathPaymentStrictReceiveOp
path_payment_strict_receive_op =
    struct_of path_payment_strict_receive_op_fields (asset ⨾ i64 ⨾ muxed_account ⨾ asset ⨾ i64 ⨾ list_of 5 asset)

abbrev pub path_payment_strict_send_op_fields : Fields (Asset × (ℤ × (MuxedAccount × (Asset × (ℤ × List Asset)))))
    PathPaymentStrictSendOp
path_payment_strict_send_op_fields = record {
  to = λ (send_asset, (send_amount, (destination, (dest_asset, (dest_min, path))))). record {
    send_asset = send_asset;
    send_amount = send_amount;
    destination = destination;
    dest_asset = dest_asset;
    dest_min = dest_min;
    path = path;
  };
  from = λ o. (o.send_asset, (o.send_amount, (o.destination, (o.dest_asset, (o.dest_min, o.path)))));
  there = λ _. refl;
  back = λ _. refl;
}

unfoldable pub path_payment_strict_send_op : Xdr PathPaymentStrictSendOp
path_payment_strict_send_op =
    struct_of path_payment_strict_send_op_fields (asset ⨾ i64 ⨾ muxed_account ⨾ asset ⨾ i64 ⨾ list_of 5 asset)

-- ---- offers

abbrev pub manage_sell_offer_op_fields : Fields (Asset × (Asset × (ℤ × (Price × ℤ)))) ManageSellOfferOp
manage_sell_offer_op_fields = record {
  to = λ (selling, (buying, (amount, (price, offer_id)))). record {
    selling = selling;
    buying = buying;
    amount = amount;
    price = price;
    offer_id = offer_id;
  };
  from = λ o. (o.selling, (o.buying, (o.amount, (o.price, o.offer_id))));
  there = λ _. refl;
  back = λ _. refl;
}

unfoldable pub manage_sell_offer_op : Xdr ManageSellOfferOp
manage_sell_offer_op = struct_of manage_sell_offer_op_fields (asset ⨾ asset ⨾ i64 ⨾ price ⨾ i64)

abbrev pub create_passive_sell_offer_op_fields : Fields (Asset × (Asset × (ℤ × Price))) CreatePassiveSellOfferOp
create_passive_sell_offer_op_fields = record {
  to = λ (selling, (buying, (amount, price))). record {
    selling = selling;
    buying = buying;
    amount = amount;
    price = price;
  };
  from = λ o. (o.selling, (o.buying, (o.amount, o.price)));
  there = λ _. refl;
  back = λ _. refl;
}

unfoldable pub create_passive_sell_offer_op : Xdr CreatePassiveSellOfferOp
create_passive_sell_offer_op = struct_of create_passive_sell_offer_op_fields (asset ⨾ asset ⨾ i64 ⨾ price)

abbrev pub manage_buy_offer_op_fields : Fields (Asset × (Asset × (ℤ × (Price × ℤ)))) ManageBuyOfferOp
manage_buy_offer_op_fields = record {
  to = λ (selling, (buying, (buy_amount, (price, offer_id)))). record {
    selling = selling;
    buying = buying;
    buy_amount = buy_amount;
    price = price;
    offer_id = offer_id;
  };
  from = λ o. (o.selling, (o.buying, (o.buy_amount, (o.price, o.offer_id))));
  there = λ _. refl;
  back = λ _. refl;
}

unfoldable pub manage_buy_offer_op : Xdr ManageBuyOfferOp
manage_buy_offer_op = struct_of manage_buy_offer_op_fields (asset ⨾ asset ⨾ i64 ⨾ price ⨾ i64)

-- ---- trust lines

abbrev pub change_trust_op_fields : Fields (ChangeTrustAsset × ℤ) ChangeTrustOp
change_trust_op_fields = record {
  to = λ (line, limit). record {
    line = line;
    limit = limit;
  };
  from = λ o. (o.line, o.limit);
  there = λ _. refl;
  back = λ _. refl;
}

unfoldable pub change_trust_op : Xdr ChangeTrustOp
change_trust_op = struct_of change_trust_op_fields (change_trust_asset ⨾ i64)

abbrev pub code4 : Arm XdrFault AssetCode
code4 = arm (pos 1) (fixed 4) asset_codes.Alphanum4

abbrev pub code12 : Arm XdrFault AssetCode
code12 = arm (pos 2) (fixed 12) asset_codes.Alphanum12

abbrev pub asset_code_arms : List (Arm XdrFault AssetCode)
asset_code_arms = code4 ∷ code12 ∷ []

abbrev pub asset_code_part : AssetCode → Part XdrFault AssetCode
asset_code_part (asset_codes.Alphanum4 code) = part code4 code
asset_code_part (asset_codes.Alphanum12 code) = part code12 code

unfoldable pub asset_code : Xdr AssetCode
asset_code = union_of asset_code_part asset_code_arms

abbrev pub allow_trust_op_fields : Fields (AccountId × (AssetCode × ℕ)) AllowTrustOp
allow_trust_op_fields = record {
  to = λ (trustor, (asset, authorize)). record {
    trustor = trustor;
    asset = asset;
    authorize = authorize;
  };
  from = λ o. (o.trustor, (o.asset, o.authorize));
  there = λ _. refl;
  back = λ _. refl;
}

unfoldable pub allow_trust_op : Xdr AllowTrustOp
allow_trust_op = struct_of allow_trust_op_fields (account_id ⨾ asset_code ⨾ u32)

abbrev pub set_trust_line_flags_op_fields : Fields (AccountId × (Asset × (ℕ × ℕ))) SetTrustLineFlagsOp
set_trust_line_flags_op_fields = record {
  to = λ (trustor, (asset, (clear_flags, set_flags))). record {
    trustor = trustor;
    asset = asset;
    clear_flags = clear_flags;
    set_flags = set_flags;
  };
  from = λ o. (o.trustor, (o.asset, (o.clear_flags, o.set_flags)));
  there = λ _. refl;
  back = λ _. refl;
}

unfoldable pub set_trust_line_flags_op : Xdr SetTrustLineFlagsOp
set_trust_line_flags_op = struct_of set_trust_line_flags_op_fields (account_id ⨾ asset ⨾ u32 ⨾ u32)

abbrev pub clawback_op_fields : Fields (Asset × (MuxedAccount × ℤ)) ClawbackOp
clawback_op_fields = record {
  to = λ (asset, (from, amount)). record {
    asset = asset;
    from = from;
    amount = amount;
  };
  from = λ o. (o.asset, (o.from, o.amount));
  there = λ _. refl;
  back = λ _. refl;
}

unfoldable pub clawback_op : Xdr ClawbackOp
clawback_op = struct_of clawback_op_fields (asset ⨾ muxed_account ⨾ i64)

-- ---- claimable balances

abbrev pub create_claimable_balance_op_fields : Fields (Asset × (ℤ × List Claimant)) CreateClaimableBalanceOp
create_claimable_balance_op_fields = record {
  to = λ (asset, (amount, claimants)). record {
    asset = asset;
    amount = amount;
    claimants = claimants;
  };
  from = λ o. (o.asset, (o.amount, o.claimants));
  there = λ _. refl;
  back = λ _. refl;
}

unfoldable pub create_claimable_balance_op : Xdr CreateClaimableBalanceOp
create_claimable_balance_op = struct_of create_claimable_balance_op_fields (asset ⨾ i64 ⨾ list_of 10 claimant)

abbrev pub claim_claimable_balance_op_fields : Fields ClaimableBalanceId ClaimClaimableBalanceOp
claim_claimable_balance_op_fields = record {
  to = λ x. record { balance_id = x };
  from = λ o. o.balance_id;
  there = λ _. refl;
  back = λ _. refl;
}

unfoldable pub claim_claimable_balance_op : Xdr ClaimClaimableBalanceOp
claim_claimable_balance_op = struct_of claim_claimable_balance_op_fields (claimable_balance_id)

abbrev pub clawback_claimable_balance_op_fields : Fields ClaimableBalanceId ClawbackClaimableBalanceOp
clawback_claimable_balance_op_fields = record {
  to = λ x. record { balance_id = x };
  from = λ o. o.balance_id;
  there = λ _. refl;
  back = λ _. refl;
}

unfoldable pub clawback_claimable_balance_op : Xdr ClawbackClaimableBalanceOp
clawback_claimable_balance_op = struct_of clawback_claimable_balance_op_fields (claimable_balance_id)

-- ---- sponsorship

abbrev pub begin_sponsoring_future_reserves_op_fields : Fields AccountId BeginSponsoringFutureReservesOp
begin_sponsoring_future_reserves_op_fields = record {
  to = λ x. record { sponsored_id = x };
  from = λ o. o.sponsored_id;
  there = λ _. refl;
  back = λ _. refl;
}

unfoldable pub begin_sponsoring_future_reserves_op : Xdr BeginSponsoringFutureReservesOp
begin_sponsoring_future_reserves_op = struct_of begin_sponsoring_future_reserves_op_fields (account_id)

abbrev pub revoke_entry : Arm XdrFault RevokeSponsorshipOp
revoke_entry = arm (pos 0) (entire ledger_key) revoking.LedgerEntry

abbrev pub revoke_signer : Arm XdrFault RevokeSponsorshipOp
revoke_signer = arm (pos 1) (account_id ⨾ signer_key) (λ v. revoking.Signer v.0 v.1)

abbrev pub revoke_arms : List (Arm XdrFault RevokeSponsorshipOp)
revoke_arms = revoke_entry ∷ revoke_signer ∷ []

abbrev pub revoke_part : RevokeSponsorshipOp → Part XdrFault RevokeSponsorshipOp
revoke_part (revoking.LedgerEntry key) = part revoke_entry key
revoke_part (revoking.Signer id key) = part revoke_signer (id, key)

unfoldable pub revoke_sponsorship_op : Xdr RevokeSponsorshipOp
revoke_sponsorship_op = union_of revoke_part revoke_arms

-- ---- liquidity pools

abbrev pub liquidity_pool_deposit_op_fields : Fields (Hash × (ℤ × (ℤ × (Price × Price)))) LiquidityPoolDepositOp
liquidity_pool_deposit_op_fields = record {
  to = λ (pool_id, (max_amount_a, (max_amount_b, (min_price, max_price)))). record {
    pool_id = pool_id;
    max_amount_a = max_amount_a;
    max_amount_b = max_amount_b;
    min_price = min_price;
    max_price = max_price;
  };
  from = λ o. (o.pool_id, (o.max_amount_a, (o.max_amount_b, (o.min_price, o.max_price))));
  there = λ _. refl;
  back = λ _. refl;
}

unfoldable pub liquidity_pool_deposit_op : Xdr LiquidityPoolDepositOp
liquidity_pool_deposit_op = struct_of liquidity_pool_deposit_op_fields (hash ⨾ i64 ⨾ i64 ⨾ price ⨾ price)

abbrev pub liquidity_pool_withdraw_op_fields : Fields (Hash × (ℤ × (ℤ × ℤ))) LiquidityPoolWithdrawOp
liquidity_pool_withdraw_op_fields = record {
  to = λ (pool_id, (amount, (min_amount_a, min_amount_b))). record {
    pool_id = pool_id;
    amount = amount;
    min_amount_a = min_amount_a;
    min_amount_b = min_amount_b;
  };
  from = λ o. (o.pool_id, (o.amount, (o.min_amount_a, o.min_amount_b)));
  there = λ _. refl;
  back = λ _. refl;
}

unfoldable pub liquidity_pool_withdraw_op : Xdr LiquidityPoolWithdrawOp
liquidity_pool_withdraw_op = struct_of liquidity_pool_withdraw_op_fields (hash ⨾ i64 ⨾ i64 ⨾ i64)

-- ---- operations

abbrev pub create_account_arm : Arm XdrFault OperationBody
create_account_arm = arm types.CREATE_ACCOUNT create_account_op body.CreateAccount

abbrev pub payment_arm : Arm XdrFault OperationBody
payment_arm = arm types.PAYMENT payment_op body.Payment

abbrev pub path_payment_strict_receive_arm : Arm XdrFault OperationBody
path_payment_strict_receive_arm =
    arm types.PATH_PAYMENT_STRICT_RECEIVE path_payment_strict_receive_op body.PathPaymentStrictReceive

abbrev pub manage_sell_offer_arm : Arm XdrFault OperationBody
manage_sell_offer_arm = arm types.MANAGE_SELL_OFFER manage_sell_offer_op body.ManageSellOffer

abbrev pub create_passive_sell_offer_arm : Arm XdrFault OperationBody
create_passive_sell_offer_arm =
    arm types.CREATE_PASSIVE_SELL_OFFER create_passive_sell_offer_op body.CreatePassiveSellOffer

abbrev pub set_options_arm : Arm XdrFault OperationBody
set_options_arm = arm types.SET_OPTIONS set_options_op body.SetOptions

abbrev pub change_trust_arm : Arm XdrFault OperationBody
change_trust_arm = arm types.CHANGE_TRUST change_trust_op body.ChangeTrust

abbrev pub allow_trust_arm : Arm XdrFault OperationBody
allow_trust_arm = arm types.ALLOW_TRUST allow_trust_op body.AllowTrust

abbrev pub account_merge_arm : Arm XdrFault OperationBody
account_merge_arm = arm types.ACCOUNT_MERGE account_merge_op body.AccountMerge

abbrev pub inflation_arm : Arm XdrFault OperationBody
inflation_arm = arm types.INFLATION empty (λ v. body.Inflation)

abbrev pub manage_data_arm : Arm XdrFault OperationBody
manage_data_arm = arm types.MANAGE_DATA manage_data_op body.ManageData

abbrev pub bump_sequence_arm : Arm XdrFault OperationBody
bump_sequence_arm = arm types.BUMP_SEQUENCE bump_sequence_op body.BumpSequence

abbrev pub manage_buy_offer_arm : Arm XdrFault OperationBody
manage_buy_offer_arm = arm types.MANAGE_BUY_OFFER manage_buy_offer_op body.ManageBuyOffer

abbrev pub path_payment_strict_send_arm : Arm XdrFault OperationBody
path_payment_strict_send_arm = arm types.PATH_PAYMENT_STRICT_SEND path_payment_strict_send_op body.PathPaymentStrictSend

abbrev pub create_claimable_balance_arm : Arm XdrFault OperationBody
create_claimable_balance_arm =
    arm types.CREATE_CLAIMABLE_BALANCE create_claimable_balance_op body.CreateClaimableBalance

abbrev pub claim_claimable_balance_arm : Arm XdrFault OperationBody
claim_claimable_balance_arm = arm types.CLAIM_CLAIMABLE_BALANCE claim_claimable_balance_op body.ClaimClaimableBalance

abbrev pub begin_sponsoring_future_reserves_arm : Arm XdrFault OperationBody
begin_sponsoring_future_reserves_arm =
    arm types.BEGIN_SPONSORING_FUTURE_RESERVES begin_sponsoring_future_reserves_op body.BeginSponsoringFutureReserves

abbrev pub end_sponsoring_future_reserves_arm : Arm XdrFault OperationBody
end_sponsoring_future_reserves_arm =
    arm types.END_SPONSORING_FUTURE_RESERVES empty (λ v. body.EndSponsoringFutureReserves)

abbrev pub revoke_sponsorship_arm : Arm XdrFault OperationBody
revoke_sponsorship_arm = arm types.REVOKE_SPONSORSHIP revoke_sponsorship_op body.RevokeSponsorship

abbrev pub clawback_arm : Arm XdrFault OperationBody
clawback_arm = arm types.CLAWBACK clawback_op body.Clawback

abbrev pub clawback_claimable_balance_arm : Arm XdrFault OperationBody
clawback_claimable_balance_arm =
    arm types.CLAWBACK_CLAIMABLE_BALANCE clawback_claimable_balance_op body.ClawbackClaimableBalance

abbrev pub set_trust_line_flags_arm : Arm XdrFault OperationBody
set_trust_line_flags_arm = arm types.SET_TRUST_LINE_FLAGS set_trust_line_flags_op body.SetTrustLineFlags

abbrev pub liquidity_pool_deposit_arm : Arm XdrFault OperationBody
liquidity_pool_deposit_arm = arm types.LIQUIDITY_POOL_DEPOSIT liquidity_pool_deposit_op body.LiquidityPoolDeposit

abbrev pub liquidity_pool_withdraw_arm : Arm XdrFault OperationBody
liquidity_pool_withdraw_arm = arm types.LIQUIDITY_POOL_WITHDRAW liquidity_pool_withdraw_op body.LiquidityPoolWithdraw

-- the types from 18 on
unfoldable pub last_body_arms : List (Arm XdrFault OperationBody)
last_body_arms =
    revoke_sponsorship_arm ∷ clawback_arm ∷ clawback_claimable_balance_arm ∷ set_trust_line_flags_arm
    ∷ liquidity_pool_deposit_arm ∷ liquidity_pool_withdraw_arm ∷ []

-- the types from 12 on
unfoldable pub third_body_arms : List (Arm XdrFault OperationBody)
third_body_arms =
    manage_buy_offer_arm ∷ path_payment_strict_send_arm ∷ create_claimable_balance_arm ∷ claim_claimable_balance_arm
    ∷ begin_sponsoring_future_reserves_arm ∷ end_sponsoring_future_reserves_arm ∷ last_body_arms

-- the types from 6 on
unfoldable pub second_body_arms : List (Arm XdrFault OperationBody)
second_body_arms =
    change_trust_arm ∷ allow_trust_arm ∷ account_merge_arm ∷ inflation_arm ∷ manage_data_arm ∷ bump_sequence_arm
    ∷ third_body_arms

abbrev pub body_arms : List (Arm XdrFault OperationBody)
body_arms =
    create_account_arm ∷ payment_arm ∷ path_payment_strict_receive_arm ∷ manage_sell_offer_arm
    ∷ create_passive_sell_offer_arm ∷ set_options_arm ∷ second_body_arms

abbrev pub body_part : OperationBody → Part XdrFault OperationBody
body_part (body.CreateAccount op) = part create_account_arm op
body_part (body.Payment op) = part payment_arm op
body_part (body.PathPaymentStrictReceive op) = part path_payment_strict_receive_arm op
body_part (body.ManageSellOffer op) = part manage_sell_offer_arm op
body_part (body.CreatePassiveSellOffer op) = part create_passive_sell_offer_arm op
body_part (body.SetOptions op) = part set_options_arm op
body_part (body.ChangeTrust op) = part change_trust_arm op
body_part (body.AllowTrust op) = part allow_trust_arm op
body_part (body.AccountMerge op) = part account_merge_arm op
body_part body.Inflation = part inflation_arm tt
body_part (body.ManageData op) = part manage_data_arm op
body_part (body.BumpSequence op) = part bump_sequence_arm op
body_part (body.ManageBuyOffer op) = part manage_buy_offer_arm op
body_part (body.PathPaymentStrictSend op) = part path_payment_strict_send_arm op
body_part (body.CreateClaimableBalance op) = part create_claimable_balance_arm op
body_part (body.ClaimClaimableBalance op) = part claim_claimable_balance_arm op
body_part (body.BeginSponsoringFutureReserves op) = part begin_sponsoring_future_reserves_arm op
body_part body.EndSponsoringFutureReserves = part end_sponsoring_future_reserves_arm tt
body_part (body.RevokeSponsorship op) = part revoke_sponsorship_arm op
body_part (body.Clawback op) = part clawback_arm op
body_part (body.ClawbackClaimableBalance op) = part clawback_claimable_balance_arm op
body_part (body.SetTrustLineFlags op) = part set_trust_line_flags_arm op
body_part (body.LiquidityPoolDeposit op) = part liquidity_pool_deposit_arm op
body_part (body.LiquidityPoolWithdraw op) = part liquidity_pool_withdraw_arm op

-- the type of an operation
abbrev pub type_of : OperationBody → ℤ
type_of (body.CreateAccount op) = types.CREATE_ACCOUNT
type_of (body.Payment op) = types.PAYMENT
type_of (body.PathPaymentStrictReceive op) = types.PATH_PAYMENT_STRICT_RECEIVE
type_of (body.ManageSellOffer op) = types.MANAGE_SELL_OFFER
type_of (body.CreatePassiveSellOffer op) = types.CREATE_PASSIVE_SELL_OFFER
type_of (body.SetOptions op) = types.SET_OPTIONS
type_of (body.ChangeTrust op) = types.CHANGE_TRUST
type_of (body.AllowTrust op) = types.ALLOW_TRUST
type_of (body.AccountMerge op) = types.ACCOUNT_MERGE
type_of body.Inflation = types.INFLATION
type_of (body.ManageData op) = types.MANAGE_DATA
type_of (body.BumpSequence op) = types.BUMP_SEQUENCE
type_of (body.ManageBuyOffer op) = types.MANAGE_BUY_OFFER
type_of (body.PathPaymentStrictSend op) = types.PATH_PAYMENT_STRICT_SEND
type_of (body.CreateClaimableBalance op) = types.CREATE_CLAIMABLE_BALANCE
type_of (body.ClaimClaimableBalance op) = types.CLAIM_CLAIMABLE_BALANCE
type_of (body.BeginSponsoringFutureReserves op) = types.BEGIN_SPONSORING_FUTURE_RESERVES
type_of body.EndSponsoringFutureReserves = types.END_SPONSORING_FUTURE_RESERVES
type_of (body.RevokeSponsorship op) = types.REVOKE_SPONSORSHIP
type_of (body.Clawback op) = types.CLAWBACK
type_of (body.ClawbackClaimableBalance op) = types.CLAWBACK_CLAIMABLE_BALANCE
type_of (body.SetTrustLineFlags op) = types.SET_TRUST_LINE_FLAGS
type_of (body.LiquidityPoolDeposit op) = types.LIQUIDITY_POOL_DEPOSIT
type_of (body.LiquidityPoolWithdraw op) = types.LIQUIDITY_POOL_WITHDRAW

unfoldable pub operation_body : Xdr OperationBody
operation_body = union_of body_part body_arms

abbrev pub operation_fields : Fields (Option MuxedAccount × OperationBody) Operation
operation_fields = record {
  to = λ v. record { source_account = v.0; body = v.1 };
  from = λ o. (o.source_account, o.body);
  there = λ _. refl;
  back = λ _. refl;
}

unfoldable pub operation : Xdr Operation
operation = struct_of operation_fields (optional muxed_account ⨾ operation_body)
