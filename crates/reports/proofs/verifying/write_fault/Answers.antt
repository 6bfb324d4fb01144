use Rattle.std.proofs.Common.{refl, inl, inr}
use Rattle.std.proofs.KnownBytes.{Appends-nil}
use Rattle.run_outcome.specs.VerifyRun.{unverified_line}
use Rattle.reports.proofs.verifying.write_fault.Goals as goal

pub returns-in-NoMemory : goal.returns-in-NoMemory
returns-in-NoMemory g c = inr (refl, Appends-nil (g.O.Sink.taken c.args.out.now))

pub returns-in_default : goal.returns-in_default
returns-in_default g c =
    inl (c.in_default.not-NoMemory, c.write_made.ensures (unverified_line c.args.fault) c.unverified_text.ensures)
