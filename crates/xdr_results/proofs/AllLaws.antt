-- The laws of each format, and what follows of them, as one set.
use Rattle.xdr_core.proofs.Grammar.{prefix_free, faults_rightly}
use Rattle.xdr_core.proofs.FormatLaws.{lawful_of, faults_located}
use Rattle.xdr_results.proofs.PayloadLaws.{claim_atom_laws, simple_payment_result_laws, path_payment_success_laws}
use Rattle.xdr_results.proofs.PayloadLaws.{manage_offer_effect_laws, manage_offer_success_laws, inflation_payout_laws}
use Rattle.xdr_results.proofs.AnswerLaws.{create_account_result_laws, payment_result_laws}
use Rattle.xdr_results.proofs.AnswerLaws.{path_payment_strict_receive_result_laws, path_payment_strict_send_result_laws}
use Rattle.xdr_results.proofs.AnswerLaws.{manage_offer_result_laws, set_options_result_laws, change_trust_result_laws}
use Rattle.xdr_results.proofs.AnswerLaws.{allow_trust_result_laws, account_merge_result_laws, inflation_result_laws}
use Rattle.xdr_results.proofs.AnswerLaws.{manage_data_result_laws, bump_sequence_result_laws}
use Rattle.xdr_results.proofs.AnswerLaws.{create_claimable_balance_result_laws, claim_claimable_balance_result_laws}
use Rattle.xdr_results.proofs.AnswerLaws.{begin_sponsoring_future_reserves_result_laws}
use Rattle.xdr_results.proofs.AnswerLaws.{end_sponsoring_future_reserves_result_laws, revoke_sponsorship_result_laws}
use Rattle.xdr_results.proofs.AnswerLaws.{clawback_result_laws, clawback_claimable_balance_result_laws}
use Rattle.xdr_results.proofs.AnswerLaws.{set_trust_line_flags_result_laws, liquidity_pool_deposit_result_laws}
use Rattle.xdr_results.proofs.AnswerLaws.{liquidity_pool_withdraw_result_laws}
use Rattle.xdr_results.proofs.OperationLaws.{operation_result_tr_laws, operation_result_laws}
use Rattle.xdr_results.proofs.TransactionLaws.{inner_transaction_outcome_laws, inner_transaction_result_laws}
use Rattle.xdr_results.proofs.TransactionLaws.{inner_transaction_result_pair_laws, transaction_outcome_laws}
use Rattle.xdr_results.proofs.TransactionLaws.{transaction_result_laws, transaction_result_pair_laws}
use Rattle.xdr_results.proofs.TransactionLaws.{transaction_result_set_laws}

pub ruleset all_laws = (
  prefix_free,
  faults_rightly,
  lawful_of,
  faults_located,
  claim_atom_laws,
  simple_payment_result_laws,
  path_payment_success_laws,
  manage_offer_effect_laws,
  manage_offer_success_laws,
  inflation_payout_laws,
  create_account_result_laws,
  payment_result_laws,
  path_payment_strict_receive_result_laws,
  path_payment_strict_send_result_laws,
  manage_offer_result_laws,
  set_options_result_laws,
  change_trust_result_laws,
  allow_trust_result_laws,
  account_merge_result_laws,
  inflation_result_laws,
  manage_data_result_laws,
  bump_sequence_result_laws,
  create_claimable_balance_result_laws,
  claim_claimable_balance_result_laws,
  begin_sponsoring_future_reserves_result_laws,
  end_sponsoring_future_reserves_result_laws,
  revoke_sponsorship_result_laws,
  clawback_result_laws,
  clawback_claimable_balance_result_laws,
  set_trust_line_flags_result_laws,
  liquidity_pool_deposit_result_laws,
  liquidity_pool_withdraw_result_laws,
  operation_result_tr_laws,
  operation_result_laws,
  inner_transaction_outcome_laws,
  inner_transaction_result_laws,
  inner_transaction_result_pair_laws,
  transaction_outcome_laws,
  transaction_result_laws,
  transaction_result_pair_laws,
  transaction_result_set_laws,
)
