use Rattle.reports.proofs.Prelude.{◌++◌}
use Rattle.archive_files.specs.Stating.{stated_file}
use Rattle.reports.proofs.Pieces.{written_on}
use Rattle.reports.proofs.history.write_pieces.Goals as goal

pub returns : goal.returns
returns g c =
    let h = c.args.history.now in
    written_on c.args.head.now (stated_file h.headers ++ (stated_file h.sets ++ stated_file h.results))
    (g.O.Sink.taken c.args.out.now) (g.O.Sink.taken c.write_all.new.sink)
    (g.O.Sink.taken c.write_stated_files.new.out) (g.O.Sink.faults c.args.out.now)
    (g.O.Sink.faults c.write_all.new.sink) (g.O.Sink.faults c.write_stated_files.new.out) c.write_stated_files.result
    c.in_ok-write_all.ensures.entire c.in_ok-write_all.ensures.cause.later c.write_stated_files.ensures
