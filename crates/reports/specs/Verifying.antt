-- What `verify` leaves but the line on standard error.
use Rattle.std.specs.Prelude.{◌≡◌, [], IfSome}
use Rattle.std.specs.Io.KnownBytes.{IsAtEnd}
use Rattle.run_outcome.specs.run_streams.Seen.{Seen, Failed, Received}
use Rattle.run_outcome.specs.declared.status.Status.{Status}
use Rattle.run_outcome.specs.declared.status.Status.TheVariants as status
use Rattle.run_outcome.specs.Run.{Answered}
use Rattle.run_outcome.specs.VerifyRun.{IsVerdict, IsVerdictPrefix, IsVerdictless, IsVerifyEnd}

pub record Verifies (input out : Seen) (end : Status) : Type 0 where
  pub answered : IfSome input.before (λ bytes. Answered (IsVerdict bytes) (IsVerdictPrefix bytes) out end)
  pub ended : end ≡ status.Done → IsAtEnd input.now
  pub unwritten : IsVerdictless end → Received out []
  pub read_fault : end ≡ status.ReadFault → Failed input
  pub write_fault : end ≡ status.WriteFault → Failed out
  pub is_end : IsVerifyEnd end
