use Rattle.watch_run.proofs.Prelude.{ℕ, ◌≡◌, ◌+◌, ◌<◌, List, Option, length, sym, subst, arith, rules, ClosingState}
use Rattle.watch_run.proofs.Prelude.{AccountId, IsReadOf, LedgerEntry, Read, reader_lines_from}
use Rattle.ledger_types.specs.declared.key.LedgerKey.TheVariants as key
use Rattle.run_outcome.specs.close_rules.entry_slots.Accounts.{account_at}
use Rattle.watch_run.proofs.Published.{no_lines, one_line_more}
use Rattle.watch_run.proofs.lines.reader_texts.Goals as goal

pub loop-read-init : goal.loop-read-init
loop-read-init c = record {
  count = search rules;
  lines = λ s id all. no_lines _ s.header.ledger_seq (account_at s.entries id) (search rules);
}

pub loop-read-preserved : goal.loop-read-preserved
loop-read-preserved c =
    let it = c.loop-read in
    let r : Read LedgerEntry = c.read-item.result in
    record {
      count = search rules;
      lines = λ s id all.
          one_line_more s id it.text.items c.push_line.new.text.items it.read-index (it.number + 1) r.seq r.entry
          (it.invariant.lines s id all) (search rules) (search rules)
          (subst (λ (x : Read LedgerEntry). IsReadOf s (key.Account id) x.seq x.entry) (sym c.read-item.is)
          (all it.read-index r c.loop-read-test.true));
    }

pub returns : goal.returns
returns c = λ s id all.
    let it = c.loop-read in
    let entire : it.read-index ≡ length c.args.reads.now =
    omega (arith, c.loop-read-test.false, it.auto.read-index-end) in
    subst (λ (n : ℕ). it.text.items ≡ reader_lines_from 1 n s.header.ledger_seq (account_at s.entries id)) entire
    (it.invariant.lines s id all)
