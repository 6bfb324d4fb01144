-- The records of a journal, closed again.
use Rattle.std.specs.Prelude.{◌≡◌, ℕ, List, ◌∷◌, ◌++◌, length, All, Result, Ok, Err}
use Rattle.stored_outcome.specs.close_rules.State.{ClosingState}
use Rattle.stored_outcome.specs.close_rules.Close.{PreparedClose, IsClose}
use Rattle.stored_outcome.specs.run_outcome.Outcome.{AreClosed}
use Rattle.stored_outcome.specs.Opening.{MayHold, IsRefusedIn}
use Rattle.image_store.specs.gate_journal.Records.{blocks}
use Rattle.replay.specs.declared.again.AgainFault.{AgainFault}
use Rattle.replay.specs.declared.again.AgainFault.TheVariants as again
use Rattle.replay.specs.declared.again.OneFault.{OneFault}
use Rattle.replay.specs.declared.again.OneFault.TheVariants as one

-- these records closed ledgers one after another
abbrev pub AreClosedTo : ClosingState → List (List ℕ) → ClosingState → Type 0
AreClosedTo s records now = (lines : List ℕ) × AreClosed s records lines now

-- the same, of records that an epoch of this format may hold
pub record AreClosedIn (format : ℕ) (s : ClosingState) (records : List (List ℕ)) (now : ClosingState) : Type 0 where
  pub held : All (MayHold format) records
  pub lines : List ℕ
  pub closed : AreClosed s records lines now

-- the record whose gate is at this offset is refused after those before it
pub record IsRefusedAt (format : ℕ) (s : ClosingState) (records : List (List ℕ)) (offset : ℕ) : Type 0 where
  pub prefix : List (List ℕ)
  pub bytes : List ℕ
  pub others : List (List ℕ)
  pub cut : records ≡ prefix ++ bytes ∷ others
  pub state : ClosingState
  pub closed : AreClosedIn format s prefix state
  pub refused : IsRefusedIn format state bytes
  pub at : offset ≡ length (blocks prefix)

abbrev pub ClosesAgain : (format : ℕ) (s : ClosingState) (records : List (List ℕ)) (now : ClosingState)
    → Result (Unit {0}) AgainFault → Type 0
ClosesAgain format s records now (Ok done) = AreClosedIn format s records now
ClosesAgain format s records now (Err (again.Refused offset)) = IsRefusedAt format s records offset
ClosesAgain format s records now (Err again.NoMemory) = Unit {0}

-- a record closed a ledger
pub record ClosesTo (format : ℕ) (s : ClosingState) (bytes : List ℕ) (now : ClosingState) : Type 0 where
  pub held : MayHold format bytes
  pub close : PreparedClose
  pub closes : IsClose s bytes (Ok close)
  pub next : now ≡ close.state

abbrev pub ClosesOne : (format : ℕ) (s : ClosingState) (bytes : List ℕ) (now : ClosingState)
    → Result (Unit {0}) OneFault → Type 0
ClosesOne format s bytes now (Ok done) = ClosesTo format s bytes now
ClosesOne format s bytes now (Err one.Refused) = IsRefusedIn format s bytes
ClosesOne format s bytes now (Err one.NoMemory) = Unit {0}
