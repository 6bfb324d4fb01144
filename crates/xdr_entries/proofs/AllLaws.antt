-- The laws of each format, and what follows of them, as one set.
use Rattle.xdr_entries.proofs.Prelude.{lawful_of, faults_located, written, option_laws}
use Rattle.xdr_core.proofs.Grammar.{prefix_free, faults_rightly}
use Rattle.xdr_entries.proofs.BasicLaws.{hash_laws, account_id_laws, claimable_balance_id_laws, muxed_account_laws}
use Rattle.xdr_entries.proofs.BasicLaws.{bytes64_laws}
use Rattle.xdr_entries.proofs.BasicLaws.{signer_key_laws, signer_laws, asset_laws, trust_line_asset_laws}
use Rattle.xdr_entries.proofs.BasicLaws.{pool_params_laws, change_trust_asset_laws, price_laws, liabilities_laws}
use Rattle.xdr_entries.proofs.PredicateLaws.{claim_predicate_laws}
use Rattle.xdr_entries.proofs.EntryLaws.{account_extension_v3_laws}
use Rattle.xdr_entries.proofs.EntryLaws.{account_extension_v2_laws, account_extension_v1_laws, account_entry_laws}
use Rattle.xdr_entries.proofs.EntryLaws.{trust_line_extension_v2_laws, trust_line_extension_v1_laws}
use Rattle.xdr_entries.proofs.EntryLaws.{trust_line_entry_laws, offer_entry_laws, data_entry_laws, claimant_laws}
use Rattle.xdr_entries.proofs.EntryLaws.{claimable_balance_extension_v1_laws, claimable_balance_entry_laws}
use Rattle.xdr_entries.proofs.EntryLaws.{liquidity_pool_entry_laws, ledger_entry_body_laws}
use Rattle.xdr_entries.proofs.EntryLaws.{ledger_entry_extension_v1_laws, ledger_entry_laws}
use Rattle.xdr_entries.proofs.KeyLaws.{ledger_key_laws, bucket_entry_laws}

pub ruleset all_laws = (
  prefix_free,
  faults_rightly,
  lawful_of,
  faults_located,
  hash_laws,
  account_id_laws,
  claimable_balance_id_laws,
  muxed_account_laws,
  bytes64_laws,
  signer_key_laws,
  signer_laws,
  asset_laws,
  trust_line_asset_laws,
  pool_params_laws,
  change_trust_asset_laws,
  price_laws,
  liabilities_laws,
  claim_predicate_laws,
  account_extension_v3_laws,
  account_extension_v2_laws,
  account_extension_v1_laws,
  account_entry_laws,
  trust_line_extension_v2_laws,
  trust_line_extension_v1_laws,
  trust_line_entry_laws,
  offer_entry_laws,
  data_entry_laws,
  claimant_laws,
  claimable_balance_extension_v1_laws,
  claimable_balance_entry_laws,
  liquidity_pool_entry_laws,
  ledger_entry_body_laws,
  ledger_entry_extension_v1_laws,
  ledger_entry_laws,
  ledger_key_laws,
  bucket_entry_laws,
)

-- what the writers of complete values and of items of lists, options and extensions rest on
pub ruleset written_values = (
  written,
  option_laws,
  account_id_laws,
  muxed_account_laws,
  signer_key_laws,
  signer_laws,
  asset_laws,
  account_extension_v1_laws,
  account_extension_v2_laws,
  account_extension_v3_laws,
  trust_line_extension_v1_laws,
  trust_line_extension_v2_laws,
  claimant_laws,
  claimable_balance_extension_v1_laws,
  ledger_entry_extension_v1_laws,
  ledger_entry_laws,
  ledger_key_laws,
  bucket_entry_laws,
)
