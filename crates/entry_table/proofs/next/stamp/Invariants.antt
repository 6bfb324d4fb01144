use Rattle.entry_table.proofs.Prelude.{◌≡◌, ◌++◌, take, drop, map, stamped}
use Rattle.entry_table.proofs.next.stamp.Given as goal

-- the entries so far have the number, and the others are as they were
abbrev pub invariant-loop-entry : goal.invariant-loop-entry
invariant-loop-entry l = l.entry-items
    ≡ map (stamped l.seq) (take l.entry-index l.fn.entries) ++ drop l.entry-index l.fn.entries
