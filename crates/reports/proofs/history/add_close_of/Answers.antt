use Rattle.reports.proofs.Prelude.{refl, subst}
use Rattle.archive_files.specs.Added.{IsWithinBounds}
use Rattle.reports.proofs.Histories.{same_closed, within_bounds}
use Rattle.reports.proofs.history.add_close_of.Goals as goal

pub add_records-requires : goal.add_records-requires
add_records-requires c =
    let s = c.args.before.now.state in
    let close = c.args.close.now in
    subst IsWithinBounds
    (same_closed s close c.requires.0 c.header.result.now close.set c.results.result.now c.requires.1 c.header.ensures
    refl c.results.ensures)
    (within_bounds c.taken_is_closable.ensures c.next_is_closing.ensures c.results_are_encoded.ensures s close
    c.requires.0 c.is_closing.ensures c.requires.1)
