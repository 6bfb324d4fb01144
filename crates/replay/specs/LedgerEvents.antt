-- What a ledger of the program does, as events of the machine.
use Rattle.std.specs.Prelude.{◌≡◌, ℕ, ◌+◌, ◌≤◌, ◌<◌, Bool, true, false, List, [], ◌∷◌, length, Option, Some, None, Ok}
use Rattle.stored_outcome.specs.bucket_core.Bucket.{Contents}
use Rattle.worker_merges.specs.bucket_merge.Job.{Job}
use Rattle.worker_merges.specs.bucket_merge.Merge.{IsMerge}
use Rattle.stored_outcome.specs.bucket_levels.Spills.{level_count}
use Rattle.stored_outcome.specs.bucket_levels.Pending.{pending_at, AreRenewed}
use Rattle.stored_outcome.specs.close_rules.State.{ClosingState}
use Rattle.stored_outcome.specs.close_rules.Close.{PreparedClose, IsClose}
use Rattle.worker_merges.specs.ledger_close.States.{LedgerAt}
use Rattle.worker_merges.specs.Adopting.{IsHandedIn}
use Rattle.replay.specs.Machine.{Machine, MadeMerge, Event, Install, HandIn, Happens, AllHappen, IsFirst}

abbrev pub is_there : Option Contents → Bool
is_there (Some outcome) = true
is_there None = false

-- The machine has the ledger's state, and an outcome of the merge into each level into which the ledger has one.
pub record Shows (m : Machine) (l : LedgerAt) : Type 0 where
  pub state : m.state ≡ l.state
  pub count : length l.pending ≡ level_count
  pub ready : (level : ℕ) → 1 ≤ level → level < level_count
      → (pending_at l.pending level).ready ≡ is_there (m.ready level)

-- an outcome, as a merge that was made
abbrev pub made_of : (out : Job) → (bucket : Contents) → IsMerge out.level out.curr out.snap bucket → MadeMerge
made_of out bucket is = record {
  level = out.level;
  inputs = record { start = out.seq; older = out.curr; newer = out.snap };
  bucket = bucket;
  is = is;
}

-- ---- the laws

-- What `adopt` says of each outcome is the event that it is handed in: it is ready then, or it is refused and all
-- stays.
abbrev pub HandInsAreEvents : Type 0
HandInsAreEvents = (s : ClosingState) (first old : Machine) (events : List Event) (l new : LedgerAt) (out : Job)
    (bucket : Contents) (is : IsMerge out.level out.curr out.snap bucket) → length s.levels ≡ level_count
    → IsFirst s first → AllHappen events first old → Shows old l → out.level < level_count → IsHandedIn out l new
    → (after : Machine) × Happens (HandIn (made_of out bucket is)) old after × Shows after new

-- What `Ledger::install` says of the record that is kept is the event that its ledger closes.
abbrev pub ClosesAreEvents : Type 0
ClosesAreEvents = (s : ClosingState) (first old : Machine) (events : List Event) (l new : LedgerAt) (bytes : List ℕ)
    (prepared : PreparedClose) → length s.levels ≡ level_count → IsFirst s first → AllHappen events first old
    → Shows old l → old.hand ≡ Some bytes → old.may ≡ (length old.log + 1) ∷ [] → IsClose l.state bytes (Ok prepared)
    → new.state ≡ prepared.state → AreRenewed prepared.state.header.ledger_seq l.pending new.pending
    → (after : Machine) × Happens Install old after × Shows after new
