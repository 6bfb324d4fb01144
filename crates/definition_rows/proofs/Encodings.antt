-- Each type that has vectors: where a row says that a value has so many bytes, these are the value's encoding.
use Rattle.definition_rows.proofs.Prelude as prelude
use prelude.{◌≡◌, ℕ, true, List, IsBytes, Xdr, asset, price, signer, signer_key, trust_line_asset, claim_predicate}
use prelude.{claimant, ledger_entry, ledger_key, bucket_entry, operation, memo, transaction_envelope, transaction_set}
use prelude.{transaction_result_set, ledger_header, ledger_upgrade, stellar_value, close_record, start_image}
use Rattle.xdr_entries.proofs.BasicLaws.{asset_laws, price_laws, signer_laws, signer_key_laws, trust_line_asset_laws}
use Rattle.xdr_entries.proofs.PredicateLaws.{claim_predicate_laws}
use Rattle.xdr_entries.proofs.EntryLaws.{claimant_laws, ledger_entry_laws}
use Rattle.xdr_entries.proofs.KeyLaws.{ledger_key_laws, bucket_entry_laws}
use Rattle.xdr_tx.proofs.BodyLaws.{operation_laws}
use Rattle.xdr_tx.proofs.TransactionLaws.{memo_laws, transaction_envelope_laws, transaction_set_laws}
use Rattle.xdr_results.proofs.TransactionLaws.{transaction_result_set_laws}
use Rattle.xdr_header.proofs.HeaderLaws.{ledger_header_laws, ledger_upgrade_laws, stellar_value_laws}
use Rattle.xdr_header.proofs.RecordLaws.{close_record_laws}
use Rattle.xdr_header.proofs.ImageLaws.{start_image_laws}
use Rattle.definition_rows.proofs.Readings.{has_value, BeginsWithEncoding, encoded}

abbrev AreEncodings : {V : Type 0} → Xdr V → Type 0
AreEncodings format = (n : ℕ) (bytes : List ℕ) → IsBytes bytes → has_value format n bytes ≡ true
    → BeginsWithEncoding format n bytes

assets : AreEncodings asset
assets = encoded asset asset_laws.lawful

trust_line_assets : AreEncodings trust_line_asset
trust_line_assets = encoded trust_line_asset trust_line_asset_laws.lawful

prices : AreEncodings price
prices = encoded price price_laws.lawful

signer_keys : AreEncodings signer_key
signer_keys = encoded signer_key signer_key_laws.lawful

signers : AreEncodings signer
signers = encoded signer signer_laws.lawful

predicates : AreEncodings claim_predicate
predicates = encoded claim_predicate claim_predicate_laws.lawful

claimants : AreEncodings claimant
claimants = encoded claimant claimant_laws.lawful

ledger_entries : AreEncodings ledger_entry
ledger_entries = encoded ledger_entry ledger_entry_laws.lawful

ledger_keys : AreEncodings ledger_key
ledger_keys = encoded ledger_key ledger_key_laws.lawful

bucket_entries : AreEncodings bucket_entry
bucket_entries = encoded bucket_entry bucket_entry_laws.lawful

operations : AreEncodings operation
operations = encoded operation operation_laws.lawful

memos : AreEncodings memo
memos = encoded memo memo_laws.lawful

envelopes : AreEncodings transaction_envelope
envelopes = encoded transaction_envelope transaction_envelope_laws.lawful

transaction_sets : AreEncodings transaction_set
transaction_sets = encoded transaction_set transaction_set_laws.lawful

result_sets : AreEncodings transaction_result_set
result_sets = encoded transaction_result_set transaction_result_set_laws.lawful

ledger_upgrades : AreEncodings ledger_upgrade
ledger_upgrades = encoded ledger_upgrade ledger_upgrade_laws.lawful

stellar_values : AreEncodings stellar_value
stellar_values = encoded stellar_value stellar_value_laws.lawful

ledger_headers : AreEncodings ledger_header
ledger_headers = encoded ledger_header ledger_header_laws.lawful

close_records : AreEncodings close_record
close_records = encoded close_record close_record_laws.lawful

start_images : AreEncodings start_image
start_images = encoded start_image start_image_laws.lawful
