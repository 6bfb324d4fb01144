-- What is said of a history is determined by it.
use Rattle.std.specs.Prelude.{◌≡◌, ◌≢◌, ℕ, Result, Err}
use Rattle.ledger_types.specs.declared.ids.Hash.{Hash}
use Rattle.archive_files.specs.declared.history.History.{History}
use Rattle.archive_files.specs.declared.history.Verified.{Verified}
use Rattle.archive_files.specs.declared.history.HistoryFault.{HistoryFault}
use Rattle.archive_files.specs.declared.history.HistoryFault.TheVariants.{NoMemory}
use Rattle.archive_files.specs.Chain.{IsVerified, IsFirstFault, IsJudged}

-- a chain has no first fault
abbrev pub ChainsHaveNoFault : Type 0
ChainsHaveNoFault = (h : History) (before : Hash) (first : ℕ) (v : Verified) (wrong : HistoryFault)
    → IsVerified h before first v → wrong ≢ NoMemory → IsFirstFault h before first wrong → ⊥

-- there is one verdict: one number of ledgers and one last hash, or one first fault
abbrev pub VerdictsAreOne : Type 0
VerdictsAreOne = (h : History) (before : Hash) (first : ℕ) (one other : Result Verified HistoryFault)
    → IsJudged h before first one → IsJudged h before first other
    → one ≢ Err NoMemory → other ≢ Err NoMemory → one ≡ other
