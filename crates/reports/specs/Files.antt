-- The line of a record that is refused, and a text that is written in pieces.
use Rattle.std.specs.Prelude.{◌≡◌, ◌⊎◌, ◌≤◌, ℕ, List, Result, Ok, Err}
use Rattle.run_outcome.specs.run_streams.Seen.{Seen, Failed, Received, ReceivedPrefix}
use Rattle.run_outcome.specs.declared.status.Status.{Status}
use Rattle.run_outcome.specs.declared.status.Status.TheVariants as status
use Rattle.run_outcome.specs.Run.{IsReported}

-- the line was written, or writing it failed; or memory was refused for it, which is the end then
abbrev pub IsRefusalReported : (line : List ℕ) → (err : Seen) → (end : Status) → Type 0
IsRefusalReported line err end =
    ((end ≡ status.Refused) × Received err line) ⊎ ((end ≡ status.WriteFault) × Failed err)
    ⊎ IsReported status.NoMemory err end

-- a text was written, or a prefix of it where the sink failed
abbrev pub IsWritten : {E : Type 0} → (text : List ℕ) → (out : Seen) → Result (Unit {0}) E → Type 0
IsWritten text out (Ok x) = Received out text × (out.faults_before ≤ out.faults_now)
IsWritten text out (Err failed) = Failed out × ReceivedPrefix out text
