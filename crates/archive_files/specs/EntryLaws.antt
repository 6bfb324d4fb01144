-- The laws of the entries' formats.
use Rattle.std.proofs.Common.{pos}
use Rattle.xdr_core.proofs.FormatLaws.{Laws, u32_laws, ◌&◌, struct_laws, entire_laws, closed_laws, tag_laws}
use Rattle.xdr_entries.proofs.BasicLaws.{hash_laws}
use Rattle.xdr_tx.proofs.TransactionLaws.{transaction_set_laws}
use Rattle.xdr_results.proofs.TransactionLaws.{transaction_result_set_laws}
use Rattle.xdr_header.proofs.HeaderLaws.{ledger_header_laws}
use Rattle.archive_files.specs.Entries.{header_fields, ledger_header_history_entry, set_fields}
use Rattle.archive_files.specs.Entries.{transaction_history_entry, results_fields, transaction_history_result_entry}

pub header_entry_laws : Laws ledger_header_history_entry
unfolding ledger_header_history_entry
header_entry_laws =
    struct_laws header_fields (hash_laws & closed_laws (entire_laws ledger_header_laws) (tag_laws (pos 0) tt))

pub set_entry_laws : Laws transaction_history_entry
unfolding transaction_history_entry
set_entry_laws =
    struct_laws set_fields (u32_laws & closed_laws (entire_laws transaction_set_laws) (tag_laws (pos 0) tt))

pub results_entry_laws : Laws transaction_history_result_entry
unfolding transaction_history_result_entry
results_entry_laws =
    struct_laws results_fields (u32_laws & closed_laws (entire_laws transaction_result_set_laws) (tag_laws (pos 0) tt))
