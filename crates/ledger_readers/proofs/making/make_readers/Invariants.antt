use Rattle.std.specs.Prelude.{◌≡◌, ◌≤◌, All, length, vec_capacity}
use Rattle.ledger_readers.proofs.making.make_readers.Given as goal

abbrev pub invariant-loop : goal.invariant-loop
invariant-loop g l = record {
  room : l.readers ≤ vec_capacity l.made;
  count : length l.made.items ≡ l.counter;
  known : All (λ known. known ≡ l.prefix) l.made.items;
}
