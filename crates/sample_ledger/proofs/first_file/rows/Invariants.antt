use Rattle.sample_ledger.proofs.Prelude.{◌≡◌, ◌-◌, map, entries, changes_of, as_change, AreEncodable}
use Rattle.sample_ledger.proofs.first_file.rows.Given as goal

abbrev pub invariant-loop-done : goal.invariant-loop-done
invariant-loop-done l = record {
  rows : map as_change l.rows ≡ entries (changes_of l.accounts (9 - l.done) l.done);
  encodable : AreEncodable l.rows;
}
