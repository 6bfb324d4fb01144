use Rattle.record_stream.proofs.Layouts.{bytes_of}
use Rattle.reports.proofs.HistoryPrefix.{parts_of}
use Rattle.reports.proofs.verifying.after_history.Goals as goal

pub split_at-requires : goal.split_at-requires
split_at-requires c =
    let parts = parts_of c.args.text.now c.args.end (bytes_of c.args.text.now c.type_inv.text) c.requires in
    parts.low

pub returns-clause-fits : goal.returns-clause-fits
returns-clause-fits c = bytes_of c.args.text.now c.type_inv.text
