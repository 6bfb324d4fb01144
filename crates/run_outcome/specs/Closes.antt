-- The closes of records after a state, one after another.
use Rattle.std.specs.Prelude.{◌≡◌, ℕ, List, [], ◌∷◌, Ok}
use Rattle.header_chain.specs.xdr_header.declared.record.CloseRecord.{CloseRecord}
use Rattle.close_rules.specs.State.{ClosingState}
use Rattle.close_rules.specs.Refusals.{record_in}
use Rattle.close_rules.specs.Close.{PreparedClose, IsClose}

-- the state before a close, its record, and what that yields
pub record RecordClose : Type 0 where
  pub before : ClosingState
  pub closing : CloseRecord
  pub closed : PreparedClose

-- it is the close of these bytes after a state
pub record IsCloseOf (s : ClosingState) (bytes : List ℕ) (c : RecordClose) : Type 0 where
  pub before : c.before ≡ s
  pub reads : record_in bytes ≡ Ok c.closing
  pub closes : IsClose s bytes (Ok c.closed)

-- Each of these records closes the ledger after the one before it; the state after the last.
abbrev pub AreClosesOf : ClosingState → List (List ℕ) → List RecordClose → ClosingState → Type 0
AreClosesOf s [] [] now = now ≡ s
AreClosesOf s [] (c ∷ closes) now = ⊥
AreClosesOf s (bytes ∷ records) [] now = ⊥
AreClosesOf s (bytes ∷ records) (c ∷ closes) now = IsCloseOf s bytes c × AreClosesOf c.closed.state records closes now
