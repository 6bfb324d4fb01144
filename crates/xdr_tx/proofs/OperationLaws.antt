-- The laws of the formats of operations.
use Rattle.std.proofs.Common.{pos, refl, arith}
use Rattle.xdr_core.proofs.FormatLaws.{Laws, u32_laws, i64_laws, fixed_laws, var_laws, ◌&◌, struct_laws, entire_laws}
use Rattle.xdr_core.proofs.FormatLaws.{option_laws, list_laws, arm_laws, found, union_laws}
use Rattle.xdr_core.proofs.Unions.{IsFound}
use Rattle.xdr_entries.proofs.BasicLaws.{hash_laws, account_id_laws, claimable_balance_id_laws, muxed_account_laws}
use Rattle.xdr_entries.proofs.BasicLaws.{signer_key_laws, signer_laws, asset_laws, change_trust_asset_laws, price_laws}
use Rattle.xdr_entries.proofs.EntryLaws.{claimant_laws}
use Rattle.xdr_entries.proofs.KeyLaws.{ledger_key_laws}
use Rattle.op_types.specs.declared.trust_ops.AssetCode.{AssetCode}
use Rattle.op_types.specs.declared.trust_ops.AssetCode.TheVariants as asset_codes
use Rattle.op_types.specs.declared.sponsor_ops.RevokeSponsorshipOp.{RevokeSponsorshipOp}
use Rattle.op_types.specs.declared.sponsor_ops.RevokeSponsorshipOp.TheVariants as revoking
use Rattle.xdr_tx.specs.Operations.{create_account_op_fields, create_account_op, set_options_op_fields, set_options_op}
use Rattle.xdr_tx.specs.Operations.{account_merge_op_fields, account_merge_op, manage_data_op_fields, manage_data_op}
use Rattle.xdr_tx.specs.Operations.{bump_sequence_op_fields, bump_sequence_op, payment_op_fields, payment_op}
use Rattle.xdr_tx.specs.Operations.{path_payment_strict_receive_op_fields, path_payment_strict_receive_op}
use Rattle.xdr_tx.specs.Operations.{path_payment_strict_send_op_fields, path_payment_strict_send_op}
use Rattle.xdr_tx.specs.Operations.{manage_sell_offer_op_fields, manage_sell_offer_op}
use Rattle.xdr_tx.specs.Operations.{create_passive_sell_offer_op_fields, create_passive_sell_offer_op}
use Rattle.xdr_tx.specs.Operations.{manage_buy_offer_op_fields, manage_buy_offer_op, change_trust_op_fields}
use Rattle.xdr_tx.specs.Operations.{change_trust_op, code4, code12, asset_code_arms, asset_code_part, asset_code}
use Rattle.xdr_tx.specs.Operations.{allow_trust_op_fields, allow_trust_op, set_trust_line_flags_op_fields}
use Rattle.xdr_tx.specs.Operations.{set_trust_line_flags_op, clawback_op_fields, clawback_op}
use Rattle.xdr_tx.specs.Operations.{create_claimable_balance_op_fields, create_claimable_balance_op}
use Rattle.xdr_tx.specs.Operations.{claim_claimable_balance_op_fields, claim_claimable_balance_op}
use Rattle.xdr_tx.specs.Operations.{clawback_claimable_balance_op_fields, clawback_claimable_balance_op}
use Rattle.xdr_tx.specs.Operations.{begin_sponsoring_future_reserves_op_fields, begin_sponsoring_future_reserves_op}
use Rattle.xdr_tx.specs.Operations.{revoke_entry, revoke_signer, revoke_arms, revoke_part, revoke_sponsorship_op}
use Rattle.xdr_tx.specs.Operations.{liquidity_pool_deposit_op_fields, liquidity_pool_deposit_op}
use Rattle.xdr_tx.specs.Operations.{liquidity_pool_withdraw_op_fields, liquidity_pool_withdraw_op}

pub create_account_op_laws : Laws create_account_op
unfolding create_account_op
create_account_op_laws = struct_laws create_account_op_fields (account_id_laws & i64_laws)

pub set_options_op_laws : Laws set_options_op
unfolding set_options_op
set_options_op_laws = struct_laws set_options_op_fields
    (option_laws account_id_laws & option_laws u32_laws & option_laws u32_laws & option_laws u32_laws
    & option_laws u32_laws & option_laws u32_laws & option_laws u32_laws & option_laws (var_laws 32 (omega arith))
    & option_laws signer_laws)

pub account_merge_op_laws : Laws account_merge_op
unfolding account_merge_op
account_merge_op_laws = struct_laws account_merge_op_fields (muxed_account_laws)

pub manage_data_op_laws : Laws manage_data_op
unfolding manage_data_op
manage_data_op_laws = struct_laws manage_data_op_fields
    (var_laws 64 (omega arith) & option_laws (var_laws 64 (omega arith)))

pub bump_sequence_op_laws : Laws bump_sequence_op
unfolding bump_sequence_op
bump_sequence_op_laws = struct_laws bump_sequence_op_fields (i64_laws)

pub payment_op_laws : Laws payment_op
unfolding payment_op
payment_op_laws = struct_laws payment_op_fields (muxed_account_laws & asset_laws & i64_laws)

pub path_payment_strict_receive_op_laws : Laws path_payment_strict_receive_op
unfolding path_payment_strict_receive_op
path_payment_strict_receive_op_laws = struct_laws path_payment_strict_receive_op_fields
    (asset_laws & i64_laws & muxed_account_laws & asset_laws & i64_laws & list_laws 5 (omega arith) asset_laws)

pub path_payment_strict_send_op_laws : Laws path_payment_strict_send_op
unfolding path_payment_strict_send_op
path_payment_strict_send_op_laws = struct_laws path_payment_strict_send_op_fields
    (asset_laws & i64_laws & muxed_account_laws & asset_laws & i64_laws & list_laws 5 (omega arith) asset_laws)

pub manage_sell_offer_op_laws : Laws manage_sell_offer_op
unfolding manage_sell_offer_op
manage_sell_offer_op_laws = struct_laws manage_sell_offer_op_fields
    (asset_laws & asset_laws & i64_laws & price_laws & i64_laws)

pub create_passive_sell_offer_op_laws : Laws create_passive_sell_offer_op
unfolding create_passive_sell_offer_op
create_passive_sell_offer_op_laws = struct_laws create_passive_sell_offer_op_fields
    (asset_laws & asset_laws & i64_laws & price_laws)

pub manage_buy_offer_op_laws : Laws manage_buy_offer_op
unfolding manage_buy_offer_op
manage_buy_offer_op_laws = struct_laws manage_buy_offer_op_fields
    (asset_laws & asset_laws & i64_laws & price_laws & i64_laws)

pub change_trust_op_laws : Laws change_trust_op
unfolding change_trust_op
change_trust_op_laws = struct_laws change_trust_op_fields (change_trust_asset_laws & i64_laws)

asset_code_found : (v : AssetCode) → IsFound asset_code_part asset_code_arms v
asset_code_found (asset_codes.Alphanum4 code) = found code4 code (fixed_laws 4) tt refl refl (λ _ _ _. refl)
asset_code_found (asset_codes.Alphanum12 code) = found code12 code (fixed_laws 12) tt refl refl (λ _ _ _. refl)

pub asset_code_laws : Laws asset_code
unfolding asset_code
asset_code_laws = union_laws (
  arm_laws (fixed_laws 4) (λ x. refl),
  (arm_laws (fixed_laws 12) (λ x. refl), tt),
)
    asset_code_found

pub allow_trust_op_laws : Laws allow_trust_op
unfolding allow_trust_op
allow_trust_op_laws = struct_laws allow_trust_op_fields (account_id_laws & asset_code_laws & u32_laws)

pub set_trust_line_flags_op_laws : Laws set_trust_line_flags_op
unfolding set_trust_line_flags_op
set_trust_line_flags_op_laws = struct_laws set_trust_line_flags_op_fields
    (account_id_laws & asset_laws & u32_laws & u32_laws)

pub clawback_op_laws : Laws clawback_op
unfolding clawback_op
clawback_op_laws = struct_laws clawback_op_fields (asset_laws & muxed_account_laws & i64_laws)

pub create_claimable_balance_op_laws : Laws create_claimable_balance_op
unfolding create_claimable_balance_op
create_claimable_balance_op_laws = struct_laws create_claimable_balance_op_fields
    (asset_laws & i64_laws & list_laws 10 (omega arith) claimant_laws)

pub claim_claimable_balance_op_laws : Laws claim_claimable_balance_op
unfolding claim_claimable_balance_op
claim_claimable_balance_op_laws = struct_laws claim_claimable_balance_op_fields (claimable_balance_id_laws)

pub clawback_claimable_balance_op_laws : Laws clawback_claimable_balance_op
unfolding clawback_claimable_balance_op
clawback_claimable_balance_op_laws = struct_laws clawback_claimable_balance_op_fields (claimable_balance_id_laws)

pub begin_sponsoring_future_reserves_op_laws : Laws begin_sponsoring_future_reserves_op
unfolding begin_sponsoring_future_reserves_op
begin_sponsoring_future_reserves_op_laws = struct_laws begin_sponsoring_future_reserves_op_fields (account_id_laws)

revoke_sponsorship_op_found : (v : RevokeSponsorshipOp) → IsFound revoke_part revoke_arms v
revoke_sponsorship_op_found (revoking.LedgerEntry key) =
    found revoke_entry key (entire_laws ledger_key_laws) tt refl refl (λ _ _ _. refl)
revoke_sponsorship_op_found (revoking.Signer id key) =
    found revoke_signer (id, key) (account_id_laws & signer_key_laws) tt refl refl (λ _ _ _. refl)

pub revoke_sponsorship_op_laws : Laws revoke_sponsorship_op
unfolding revoke_sponsorship_op
revoke_sponsorship_op_laws = union_laws (
  arm_laws (entire_laws ledger_key_laws) (λ x. refl),
  (arm_laws (account_id_laws & signer_key_laws) (λ x. refl), tt),
)
    revoke_sponsorship_op_found

pub liquidity_pool_deposit_op_laws : Laws liquidity_pool_deposit_op
unfolding liquidity_pool_deposit_op
liquidity_pool_deposit_op_laws = struct_laws liquidity_pool_deposit_op_fields
    (hash_laws & i64_laws & i64_laws & price_laws & price_laws)

pub liquidity_pool_withdraw_op_laws : Laws liquidity_pool_withdraw_op
unfolding liquidity_pool_withdraw_op
liquidity_pool_withdraw_op_laws = struct_laws liquidity_pool_withdraw_op_fields
    (hash_laws & i64_laws & i64_laws & i64_laws)
