-- What is kept of the entries of an archive's files, by the offset of the record's mark.
use Rattle.std.specs.Prelude.{ℕ}
use Rattle.value_hashes.specs.Hashes.{ledger_hash_of, results_hash_of}
use Rattle.fee_rules.specs.SetHash.{hash_of_set}
use Rattle.archive_files.specs.declared.entries.LedgerHeaderHistoryEntry.{LedgerHeaderHistoryEntry}
use Rattle.archive_files.specs.declared.entries.TransactionHistoryEntry.{TransactionHistoryEntry}
use Rattle.archive_files.specs.declared.entries.TransactionHistoryResultEntry.{TransactionHistoryResultEntry}
use Rattle.archive_files.specs.declared.facts.HeaderFact.{HeaderFact}
use Rattle.archive_files.specs.declared.facts.RecordFact.{RecordFact}

abbrev pub header_fact : ℕ → LedgerHeaderHistoryEntry → HeaderFact
header_fact at e = record {
  at = at;
  seq = e.header.ledger_seq;
  stated = e.hash;
  own = ledger_hash_of e.header;
  previous = e.header.previous_ledger_hash;
  set = e.header.scp_value.tx_set_hash;
  results = e.header.tx_set_result_hash;
}

abbrev pub set_fact : ℕ → TransactionHistoryEntry → RecordFact
set_fact at e = record { at = at; seq = e.ledger_seq; hash = hash_of_set e.tx_set }

abbrev pub results_fact : ℕ → TransactionHistoryResultEntry → RecordFact
results_fact at e = record { at = at; seq = e.ledger_seq; hash = results_hash_of e.tx_result_set }
