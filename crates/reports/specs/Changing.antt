-- What the changes that `changes` writes of a close do to the ledger's entries.
use Rattle.std.specs.Prelude.{◌≤◌, ℕ, List, length}
use Rattle.change_stream.specs.declared.change.Change.{Change}
use Rattle.change_stream.specs.Changes.{Applies, reversed}
use Rattle.run_outcome.specs.close_rules.State.{ClosingState, IsClosingState}
use Rattle.run_outcome.specs.ChangesRun.{AreChangesIn}
use Rattle.run_outcome.specs.Closes.{RecordClose, IsCloseOf}
use Rattle.run_outcome.specs.Outcome.{max_record_len}

-- The changes of a close lead from the entries before it to those after it, and reversed they lead back, the numbers of
-- last changes too.
abbrev pub ChangesOfClosesLead : Type 0
ChangesOfClosesLead = (s : ClosingState) (bytes : List ℕ) (c : RecordClose) (changes : List Change) → IsClosingState s
    → length bytes ≤ max_record_len → IsCloseOf s bytes c → AreChangesIn c changes
    → Applies s.entries changes c.closed.state.entries × Applies c.closed.state.entries (reversed changes) s.entries
