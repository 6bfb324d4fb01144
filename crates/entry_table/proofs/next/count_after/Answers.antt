use Rattle.entry_table.proofs.Prelude.{arith}
use Rattle.entry_table.proofs.Counts.{gone_at_most_all, count_after_batch}
use Rattle.entry_table.proofs.next.count_after.Goals as goal

pub overflow_sub-before : goal.overflow_sub-before
overflow_sub-before c =
    let less = gone_at_most_all c.requires.0 c.args.batch.now c.requires.1.batch in
    omega (arith, less, c.requires.2)

pub returns-in-Some : goal.returns-in-Some
returns-in-Some c m exact was =
    let less = gone_at_most_all m c.args.batch.now exact.batch in
    let after = count_after_batch m c.args.batch.now exact.batch in
    omega (arith, less, after, was, c.in-Some.ensures)
