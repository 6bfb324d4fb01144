use Rattle.std.proofs.Common.{Ok, Err, inl, inr}
use Rattle.run_outcome.specs.VerifyRun.{verified_line}
use Rattle.reports.proofs.verifying.write_verdict.Goals as goal

pub returns-in-Ok : goal.returns-in-Ok
returns-in-Ok g c = inl (record {
  judged = Ok c.in-Ok.verified;
  is = c.in-Ok.ensures;
  not_memory = λ e. cc;
  wrote = c.write_made.ensures (verified_line c.in-Ok.verified) c.verified_text.ensures;
})

pub returns-in-Err : goal.returns-in-Err
returns-in-Err g c = elim c.write_fault.ensures [
  | inl wrote ↦ inl (record {
    judged = Err c.in-Err.fault;
    is = c.in-Err.ensures;
    not_memory = λ e. wrote.0 cc;
    wrote = wrote.1;
  })
  | inr refused ↦ inr refused
]
