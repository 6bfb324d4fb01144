use Rattle.archive_files.proofs.Ascending.{numbers_sorted}
use Rattle.archive_files.proofs.numbers.sorted_numbers.Goals as goal

pub returns : goal.returns
returns c =
    numbers_sorted c.in_ok-numbers.numbers.items c.sort_unstable.new.self.items c.args.headers.now
    c.in_ok-numbers.ensures c.sort_unstable.ensures.permutation c.sort_unstable.ensures.sorted
