use Rattle.archive_files.proofs.Prelude.{AreFacts, header_at, header_fact, start_of, subst, sym}
use Rattle.archive_files.specs.Entries.{ledger_header_history_entry}
use Rattle.archive_files.proofs.Reading.{facts_more, record_shortens}
use Rattle.archive_files.proofs.records.read_headers.Goals as goal

pub loop-ahead-smaller : goal.loop-ahead-smaller
loop-ahead-smaller c =
    record_shortens ledger_header_history_entry header_fact c.loop-ahead.ahead c.read_record.new.cursor
    c.in_ok-fact.fact c.in_ok-fact.ensures

pub loop-ahead-preserved : goal.loop-ahead-preserved
loop-ahead-preserved c =
    subst (λ xs. AreFacts header_at xs (start_of c.args.file.now) c.read_record.new.cursor)
    (sym c.in_default.ensures.items)
    (facts_more header_at c.loop-ahead.facts.items c.in_ok-fact.fact (start_of c.args.file.now) c.loop-ahead.ahead
    c.read_record.new.cursor c.loop-ahead.invariant c.in_ok-fact.ensures)
