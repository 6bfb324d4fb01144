-- The laws of each format, and what follows of them, as one set.
use Rattle.xdr_header.proofs.Prelude.{lawful_of, faults_located}
use Rattle.xdr_core.proofs.Grammar.{prefix_free, faults_rightly}
use Rattle.xdr_header.proofs.HeaderLaws.{ledger_close_value_signature_laws, stellar_value_laws, ledger_upgrade_laws}
use Rattle.xdr_header.proofs.HeaderLaws.{ledger_header_extension_v1_laws, ledger_header_laws}
use Rattle.xdr_header.proofs.RecordLaws.{close_record_laws, vouch_laws}
use Rattle.xdr_header.proofs.ImageLaws.{start_image_laws}

pub ruleset all_laws = (
  prefix_free,
  faults_rightly,
  lawful_of,
  faults_located,
  ledger_close_value_signature_laws,
  stellar_value_laws,
  ledger_upgrade_laws,
  ledger_header_extension_v1_laws,
  ledger_header_laws,
  vouch_laws,
  close_record_laws,
  start_image_laws,
)
