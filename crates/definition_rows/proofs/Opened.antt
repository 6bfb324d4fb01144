-- Groups of formats: to open a group is to open each format in it, so that rows of a type compute.
use Rattle.definition_rows.proofs.Prelude as prelude
use prelude.{⊤, u32, u64, i32, i64, flag, opaque_at, fixed, count, var, mark, refused, constant, option, many_at, list}
use prelude.{times, extension, hash, account_id, claimable_balance_id, muxed_account, signer_key, signer, asset}
use prelude.{trust_line_asset, pool_params, change_trust_asset, price, liabilities, predicate_below}
use prelude.{account_extension_v3, account_extension_v2, account_extension_v1, account_head, account_tail}
use prelude.{account_entry}
use prelude.{trust_line_extension_v2, trust_line_extension_v1, trust_line_entry, offer_entry, data_entry, claimant}
use prelude.{claimable_balance_extension_v1, claimable_balance_entry, liquidity_pool_entry, ledger_entry_body}
use prelude.{ledger_entry_extension_v1, ledger_entry, ledger_key, bucket_entry, create_account_op, set_options_op}
use prelude.{account_merge_op, manage_data_op, bump_sequence_op, payment_op, path_payment_strict_receive_op}
use prelude.{path_payment_strict_send_op, manage_sell_offer_op, create_passive_sell_offer_op, manage_buy_offer_op}
use prelude.{change_trust_op, asset_code, allow_trust_op, set_trust_line_flags_op, clawback_op}
use prelude.{create_claimable_balance_op, claim_claimable_balance_op, clawback_claimable_balance_op}
use prelude.{begin_sponsoring_future_reserves_op, revoke_sponsorship_op, liquidity_pool_deposit_op}
use prelude.{liquidity_pool_withdraw_op, last_body_arms, third_body_arms, second_body_arms, operation_body, operation}
use prelude.{ledger_bounds, preconditions_v2, preconditions}
use prelude.{memo, time_bounds, decorated_signature, transaction_tail, transaction, transaction_v0}
use prelude.{transaction_v1_envelope}
use prelude.{transaction_v0_envelope, fee_bump_transaction, fee_bump_envelope, transaction_envelope, transaction_set}
use prelude.{claim_atom, simple_payment_result, path_payment_success, manage_offer_effect, manage_offer_success}
use prelude.{inflation_payout, create_account_result, payment_result, path_payment_strict_receive_result}
use prelude.{path_payment_strict_send_result, manage_offer_result, set_options_result, change_trust_result}
use prelude.{allow_trust_result, account_merge_result, inflation_result, manage_data_result, bump_sequence_result}
use prelude.{create_claimable_balance_result, claim_claimable_balance_result, begin_sponsoring_future_reserves_result}
use prelude.{end_sponsoring_future_reserves_result, revoke_sponsorship_result, clawback_result}
use prelude.{clawback_claimable_balance_result, set_trust_line_flags_result, liquidity_pool_deposit_result}
use prelude.{liquidity_pool_withdraw_result, last_run_arms, third_run_arms, second_run_arms, operation_result_tr}
use prelude.{operation_result, inner_transaction_outcome, inner_transaction_result, inner_transaction_result_pair}
use prelude.{transaction_outcome, transaction_result, transaction_result_pair, transaction_result_set}
use prelude.{ledger_close_value_signature, stellar_value, ledger_upgrade, ledger_header_extension_v1, limits, counts}
use prelude.{ledger_header, close_record, file, files, start_image, sha256, first_words, schedule, rounds, compress}
use prelude.{hash_after, digest_bytes, vouch}

-- the formats of RFC 4506, and those that are made of others
unfoldable pub core_formats : ⊤
unfolding u32 u64 i32 i64 flag opaque_at fixed count var mark refused constant option many_at list times extension
core_formats = tt

-- ledger entries, their parts, keys and items of buckets
unfoldable pub entries_formats : ⊤
unfolding core_formats hash account_id claimable_balance_id muxed_account signer_key signer asset trust_line_asset
    pool_params change_trust_asset price liabilities predicate_below account_extension_v3 account_extension_v2
    account_extension_v1
    account_head account_tail account_entry trust_line_extension_v2 trust_line_extension_v1 trust_line_entry
    offer_entry data_entry claimant claimable_balance_extension_v1 claimable_balance_entry liquidity_pool_entry
    ledger_entry_body ledger_entry_extension_v1 ledger_entry ledger_key bucket_entry
entries_formats = tt

-- operations, transactions and sets of them
unfoldable pub transactions_formats : ⊤
unfolding entries_formats create_account_op set_options_op account_merge_op manage_data_op bump_sequence_op
    payment_op path_payment_strict_receive_op path_payment_strict_send_op manage_sell_offer_op
    create_passive_sell_offer_op manage_buy_offer_op change_trust_op asset_code allow_trust_op
    set_trust_line_flags_op clawback_op create_claimable_balance_op claim_claimable_balance_op
    clawback_claimable_balance_op begin_sponsoring_future_reserves_op revoke_sponsorship_op
    liquidity_pool_deposit_op liquidity_pool_withdraw_op last_body_arms third_body_arms second_body_arms
    operation_body operation memo time_bounds ledger_bounds preconditions_v2 preconditions decorated_signature
    transaction_tail transaction transaction_v0
    transaction_v1_envelope transaction_v0_envelope fee_bump_transaction fee_bump_envelope transaction_envelope
    transaction_set
transactions_formats = tt

-- results of operations and transactions
unfoldable pub results_formats : ⊤
unfolding entries_formats claim_atom simple_payment_result path_payment_success manage_offer_effect
    manage_offer_success inflation_payout create_account_result payment_result path_payment_strict_receive_result
    path_payment_strict_send_result manage_offer_result set_options_result change_trust_result allow_trust_result
    account_merge_result inflation_result manage_data_result bump_sequence_result create_claimable_balance_result
    claim_claimable_balance_result begin_sponsoring_future_reserves_result end_sponsoring_future_reserves_result
    revoke_sponsorship_result clawback_result clawback_claimable_balance_result set_trust_line_flags_result
    liquidity_pool_deposit_result liquidity_pool_withdraw_result last_run_arms third_run_arms second_run_arms
    operation_result_tr operation_result inner_transaction_outcome inner_transaction_result
    inner_transaction_result_pair transaction_outcome transaction_result transaction_result_pair
    transaction_result_set
results_formats = tt

-- headers, upgrades, close records and start images
unfoldable pub headers_formats : ⊤
unfolding transactions_formats ledger_close_value_signature stellar_value ledger_upgrade ledger_header_extension_v1
    limits counts ledger_header vouch close_record file files start_image
headers_formats = tt

-- SHA-256
unfoldable pub sha_256 : ⊤
unfolding sha256 first_words schedule rounds compress hash_after digest_bytes
sha_256 = tt
