use Rattle.sample_ledger.proofs.Prelude.{arith}
use Rattle.sample_ledger.proofs.Envelopes.{record_short}
use Rattle.sample_ledger.proofs.laws.records_are_written.Goals as goal

pub returns : goal.returns
returns c seed k header fits few =
    let entire = record_short seed k header fits few in
    record { encoded = record { within = entire.within; sized = entire.sized }; short = omega (arith, entire.short) }
