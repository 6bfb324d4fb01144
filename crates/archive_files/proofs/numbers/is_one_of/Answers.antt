use Rattle.archive_files.proofs.Prelude.{Contains, IsTrue, subst, sym, ◌↔◌}
use Rattle.archive_files.proofs.Ascending.{search_decides}
use Rattle.archive_files.proofs.numbers.is_one_of.Goals as goal

pub returns : goal.returns
returns c =
    subst (λ b. IsTrue b ↔ Contains c.args.numbers.now c.args.number) (sym c.is_ok.ensures.value)
    (search_decides c.args.numbers.now c.args.number c.binary_search.result c.requires
    c.binary_search.ensures.position)
