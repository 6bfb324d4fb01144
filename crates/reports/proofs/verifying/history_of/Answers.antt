use Rattle.reports.proofs.HistoryPrefix.{text_is, text_has_no_fault}
use Rattle.reports.proofs.verifying.history_of.Goals as goal

pub returns-in-Ok : goal.returns-in-Ok
returns-in-Ok c = λ h is.
    text_is h c.in-Ok.history c.args.text.now c.new.result c.read_stated_history.new.cursor c.new.ensures
    c.in-Ok.ensures is

pub unreachable-requires : goal.unreachable-requires
unreachable-requires c =
    let reads = rw c.in-Err-Xdr.field-0-is at c.in-Err-Xdr.ensures in
    text_has_no_fault c.requires.0 c.args.text.now c.new.result c.in-Err-Xdr.field-0-0 c.new.ensures reads.0
    c.requires.1
