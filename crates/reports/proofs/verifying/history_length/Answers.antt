use Rattle.reports.proofs.HistoryPrefix.{length_is}
use Rattle.reports.proofs.verifying.history_length.Goals as goal

pub returns : goal.returns
returns c = length_is c.args.text.now c.stated_history_length.result c.stated_history_length.ensures
