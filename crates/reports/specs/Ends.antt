-- The last text of a run, and what is written of its end on standard error.
use Rattle.std.specs.Prelude.{◌≡◌, ℕ, List, [], ◌⊎◌}
use Rattle.run_outcome.specs.run_streams.Seen.{Seen, Failed, Received, ReceivedPrefix}
use Rattle.run_outcome.specs.declared.status.Status.{Status}
use Rattle.run_outcome.specs.declared.status.Status.TheVariants as status
use Rattle.run_outcome.specs.Run.{IsReported}

-- a text was written entirely, or a prefix of it where the sink failed, or nothing where memory was refused
abbrev pub Wrote : (out : Seen) (text : List ℕ) (entire end : Status) → Type 0
Wrote out text entire end =
    ((end ≡ entire) × Received out text)
    ⊎ ((end ≡ status.WriteFault) × Failed out × ReceivedPrefix out text)
    ⊎ ((end ≡ status.NoMemory) × Received out [])

-- the line of an end was written, or memory was refused for it, which is the end then
abbrev pub IsReportedOrRefused : (before : Status) → (err : Seen) → (end : Status) → Type 0
IsReportedOrRefused before err end = IsReported before err end ⊎ IsReported status.NoMemory err end

-- the same, where the lines with numbers alone take memory
abbrev pub IsReportedSo : (before : Status) → (err : Seen) → (end : Status) → Type 0
IsReportedSo (status.BadStore file offset) err end = IsReportedOrRefused (status.BadStore file offset) err end
IsReportedSo (status.BadInput at) err end = IsReportedOrRefused (status.BadInput at) err end
IsReportedSo (status.BadImage rule) err end = IsReportedOrRefused (status.BadImage rule) err end
IsReportedSo before err end = IsReported before err end
