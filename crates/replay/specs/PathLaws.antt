-- What `path` answers on a volume that opens, where nothing failed and where something did, and on one that doesn't.
use Rattle.std.specs.Prelude.{◌≡◌, ℕ, List, Some, ◌⊎◌}
use Rattle.stored_outcome.specs.run_streams.Seen.{Seen, Failed, Received}
use Rattle.stored_outcome.specs.run_streams.SeenVolume.{SeenVolume, VolumeFailed}
use Rattle.stored_outcome.specs.close_rules.State.{ClosingState}
use Rattle.stored_outcome.specs.run_outcome.declared.status.Status.{Status}
use Rattle.stored_outcome.specs.run_outcome.declared.status.Status.TheVariants as status
use Rattle.stored_outcome.specs.run_outcome.Outcome.{Outcome}
use Rattle.stored_outcome.specs.run_outcome.PathRun.{IsPathAnswer}
use Rattle.image_store.specs.Opening.{HoldsNothing}
use Rattle.stored_outcome.specs.Opening.{OpensTo, IsBadStore}
use Rattle.stored_outcome.specs.Path.{DidPath}
use Rattle.reports.specs.Answering.{IsValidQuery, WroteFound}
use Rattle.replay.specs.CommandLaws.{IsShowFault}
use Rattle.replay.specs.StoredLaws.{NothingFailed}

-- a claim of each `path` over this volume, which opens to this state, that is given these bytes
abbrev pub Queries : SeenVolume → (ClosingState → (bytes : List ℕ) → (input out err : Seen) → Status → Type 0) → Type 0
Queries vol P = (s : ClosingState) (bytes : List ℕ) (input out err : Seen) (end : Status)
    → DidPath input out err vol end → vol.reports → OpensTo vol.before.reads s → input.before ≡ Some bytes
    → P s bytes input out err end

-- why an answer wasn't given
abbrev pub IsQueryFault : SeenVolume → (input out err : Seen) → Status → Type 0
IsQueryFault vol input out err end =
    ((end ≡ status.ReadFault) × Failed input)
    ⊎ ((end ≡ status.WriteFault) × (Failed out ⊎ Failed err))
    ⊎ ((end ≡ status.DiskFault) × VolumeFailed vol)
    ⊎ (end ≡ status.NoMemory)

-- the ledger's answer is given with its status and text, unless a device failed or memory was refused
abbrev pub IsQueryGiven : SeenVolume → ClosingState → (bytes : List ℕ) → (input out err : Seen) → Status → Type 0
IsQueryGiven vol s bytes input out err end = (o : Outcome) → IsPathAnswer s bytes o
    → ((end ≡ o.status) × Received out o.text) ⊎ IsQueryFault vol input out err end

-- where nothing failed, the end and the text are those of an answer, or memory was refused
abbrev pub IsQueryComplete : SeenVolume → ClosingState → (bytes : List ℕ) → (input out err : Seen) → Status → Type 0
IsQueryComplete vol s bytes input out err end = NothingFailed input out err vol
    → ((o : Outcome) × IsPathAnswer s bytes o × (end ≡ o.status) × Received out o.text) ⊎ (end ≡ status.NoMemory)

-- where nothing is wrong with the query and nothing failed, what the ledger finds is written, or memory was refused
abbrev pub IsQueryDone : SeenVolume → ClosingState → (bytes : List ℕ) → (input out err : Seen) → Status → Type 0
IsQueryDone vol s bytes input out err end = (asked : IsValidQuery bytes) → NothingFailed input out err vol
    → ((end ≡ status.Done) × WroteFound s asked.query out) ⊎ (end ≡ status.NoMemory)

-- where a volume has no store, or a bad one, that is answered
abbrev pub IsUnopenedAsked : SeenVolume → Type 0
IsUnopenedAsked vol = (input out err : Seen) (end : Status) → DidPath input out err vol end → vol.reports
    → (HoldsNothing vol.before.reads → (end ≡ status.Missing) ⊎ IsShowFault vol err end)
    × ((file offset : ℕ) → IsBadStore vol.before.reads file offset
    → (end ≡ status.BadStore file offset) ⊎ IsShowFault vol err end)
