use Rattle.record_stream.proofs.Layouts.{bytes_of}
use Rattle.reports.proofs.verifying.bad_history.Goals as goal

pub returns-clause-fits : goal.returns-clause-fits
returns-clause-fits c = bytes_of c.args.text.now c.type_inv.text
