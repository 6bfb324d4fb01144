use Rattle.watch_run.proofs.Prelude.{ℕ, ◌≡◌, ClosingState, AccountId, IsReadOf, All, reader_lines_from, take}
use Rattle.ledger_types.specs.declared.key.LedgerKey.TheVariants as key
use Rattle.run_outcome.specs.close_rules.entry_slots.Accounts.{account_at}
use Rattle.watch_run.proofs.lines.reader_texts.Given as goal

-- the lines of the readers so far
abbrev pub invariant-loop-read : goal.invariant-loop-read
invariant-loop-read l = record {
  count : l.number ≡ l.read-index;
  lines : (s : ClosingState) (id : AccountId) → All (λ r. IsReadOf s (key.Account id) r.seq r.entry) l.reads
      → l.text.items ≡ reader_lines_from 1 l.read-index s.header.ledger_seq (account_at s.entries id);
}
