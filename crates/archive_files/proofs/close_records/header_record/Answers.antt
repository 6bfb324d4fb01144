use Rattle.std.proofs.Common.{rules}
use Rattle.archive_files.specs.Entries.{ledger_header_history_entry}
use Rattle.archive_files.proofs.close_records.header_record.Goals as goal

pub ledger_hash-requires : goal.ledger_hash-requires
unfolding ledger_header_history_entry
ledger_hash-requires c = search rules
