use Rattle.ledger_close.proofs.Files.{shown_of}
use Rattle.ledger_close.proofs.buckets.read_bucket.Goals as goal

pub returns-in-Err-clause-bad : goal.returns-in-Err-clause-bad
returns-in-Err-clause-bad c =
    shown_of c.read.result c.args.file c.into_vec.result.items c.in-Err.wrong c.fault_of.result
    c.no_fault_in_a_file.ensures c.into_vec.ensures c.read.ensures.fault c.in-Err.is c.fault_of.ensures
