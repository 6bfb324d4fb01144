-- The formats of the entries of an archive's files (Stellar-ledger.x, over RFC 4506).
use Rattle.std.specs.Prelude.{ℕ, pos, refl}
use Rattle.xdr_core.specs.Leaves.{u32}
use Rattle.xdr_core.specs.Combinators.{◌⨾◌, Fields, struct_of, entire, closed}
use Rattle.xdr_core.specs.Xdr.{Xdr, tag}
use Rattle.ledger_types.specs.declared.ids.Hash.{Hash}
use Rattle.ledger_types.specs.declared.header.LedgerHeader.{LedgerHeader}
use Rattle.op_types.specs.declared.transaction.TransactionSet.{TransactionSet}
use Rattle.op_types.specs.declared.transaction_result.TransactionResultSet.{TransactionResultSet}
use Rattle.xdr_entries.specs.Basic.{hash}
use Rattle.xdr_tx.specs.Transactions.{transaction_set}
use Rattle.xdr_results.specs.Results.{transaction_result_set}
use Rattle.xdr_header.specs.Header.{ledger_header}
use Rattle.archive_files.specs.declared.entries.LedgerHeaderHistoryEntry.{LedgerHeaderHistoryEntry}
use Rattle.archive_files.specs.declared.entries.TransactionHistoryEntry.{TransactionHistoryEntry}
use Rattle.archive_files.specs.declared.entries.TransactionHistoryResultEntry.{TransactionHistoryResultEntry}

abbrev pub header_fields : Fields (Hash × LedgerHeader) LedgerHeaderHistoryEntry
header_fields = record {
  to = λ v. record { hash = v.0; header = v.1 };
  from = λ e. (e.hash, e.header);
  there = λ _. refl;
  back = λ _. refl;
}

-- a header's hash, the header, and the extension 0
unfoldable pub ledger_header_history_entry : Xdr LedgerHeaderHistoryEntry
ledger_header_history_entry = struct_of header_fields (hash ⨾ closed (entire ledger_header) (tag (pos 0)))

abbrev pub set_fields : Fields (ℕ × TransactionSet) TransactionHistoryEntry
set_fields = record {
  to = λ v. record { ledger_seq = v.0; tx_set = v.1 };
  from = λ e. (e.ledger_seq, e.tx_set);
  there = λ _. refl;
  back = λ _. refl;
}

-- a ledger's number, its transactions, and the extension 0
unfoldable pub transaction_history_entry : Xdr TransactionHistoryEntry
transaction_history_entry = struct_of set_fields (u32 ⨾ closed (entire transaction_set) (tag (pos 0)))

abbrev pub results_fields : Fields (ℕ × TransactionResultSet) TransactionHistoryResultEntry
results_fields = record {
  to = λ v. record { ledger_seq = v.0; tx_result_set = v.1 };
  from = λ e. (e.ledger_seq, e.tx_result_set);
  there = λ _. refl;
  back = λ _. refl;
}

-- a ledger's number, its results, and the extension 0
unfoldable pub transaction_history_result_entry : Xdr TransactionHistoryResultEntry
transaction_history_result_entry = struct_of results_fields (u32 ⨾ closed (entire transaction_result_set) (tag (pos 0)))
