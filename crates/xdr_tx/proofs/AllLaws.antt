-- The laws of each format, and what follows of them, as one set.
use Rattle.xdr_core.proofs.Grammar.{prefix_free, faults_rightly}
use Rattle.xdr_core.proofs.FormatLaws.{lawful_of, faults_located}
use Rattle.xdr_tx.proofs.OperationLaws.{create_account_op_laws, set_options_op_laws, account_merge_op_laws}
use Rattle.xdr_tx.proofs.OperationLaws.{manage_data_op_laws, bump_sequence_op_laws, payment_op_laws}
use Rattle.xdr_tx.proofs.OperationLaws.{path_payment_strict_receive_op_laws, path_payment_strict_send_op_laws}
use Rattle.xdr_tx.proofs.OperationLaws.{manage_sell_offer_op_laws, create_passive_sell_offer_op_laws}
use Rattle.xdr_tx.proofs.OperationLaws.{manage_buy_offer_op_laws, change_trust_op_laws, asset_code_laws}
use Rattle.xdr_tx.proofs.OperationLaws.{allow_trust_op_laws, set_trust_line_flags_op_laws, clawback_op_laws}
use Rattle.xdr_tx.proofs.OperationLaws.{create_claimable_balance_op_laws, claim_claimable_balance_op_laws}
use Rattle.xdr_tx.proofs.OperationLaws.{clawback_claimable_balance_op_laws, begin_sponsoring_future_reserves_op_laws}
use Rattle.xdr_tx.proofs.OperationLaws.{revoke_sponsorship_op_laws, liquidity_pool_deposit_op_laws}
use Rattle.xdr_tx.proofs.OperationLaws.{liquidity_pool_withdraw_op_laws}
use Rattle.xdr_tx.proofs.BodyLaws.{operation_body_laws, operation_laws}
use Rattle.xdr_tx.proofs.TransactionLaws.{ledger_bounds_laws, preconditions_v2_laws, preconditions_laws}
use Rattle.xdr_tx.proofs.TransactionLaws.{memo_laws, time_bounds_laws, decorated_signature_laws, transaction_laws}
use Rattle.xdr_tx.proofs.TransactionLaws.{transaction_v0_laws, transaction_v1_envelope_laws}
use Rattle.xdr_tx.proofs.TransactionLaws.{transaction_v0_envelope_laws, fee_bump_transaction_laws}
use Rattle.xdr_tx.proofs.TransactionLaws.{fee_bump_envelope_laws, transaction_envelope_laws, transaction_set_laws}

pub ruleset all_laws = (
  prefix_free,
  faults_rightly,
  lawful_of,
  faults_located,
  create_account_op_laws,
  set_options_op_laws,
  account_merge_op_laws,
  manage_data_op_laws,
  bump_sequence_op_laws,
  payment_op_laws,
  path_payment_strict_receive_op_laws,
  path_payment_strict_send_op_laws,
  manage_sell_offer_op_laws,
  create_passive_sell_offer_op_laws,
  manage_buy_offer_op_laws,
  change_trust_op_laws,
  asset_code_laws,
  allow_trust_op_laws,
  set_trust_line_flags_op_laws,
  clawback_op_laws,
  create_claimable_balance_op_laws,
  claim_claimable_balance_op_laws,
  clawback_claimable_balance_op_laws,
  begin_sponsoring_future_reserves_op_laws,
  revoke_sponsorship_op_laws,
  liquidity_pool_deposit_op_laws,
  liquidity_pool_withdraw_op_laws,
  operation_body_laws,
  operation_laws,
  memo_laws,
  time_bounds_laws,
  ledger_bounds_laws,
  preconditions_v2_laws,
  preconditions_laws,
  decorated_signature_laws,
  transaction_laws,
  transaction_v0_laws,
  transaction_v1_envelope_laws,
  transaction_v0_envelope_laws,
  fee_bump_transaction_laws,
  fee_bump_envelope_laws,
  transaction_envelope_laws,
  transaction_set_laws,
)
