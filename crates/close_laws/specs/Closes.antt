-- That a close has one answer, and leaves a state from which the next ledger closes.
use Rattle.std.specs.Prelude.{◌≡◌, ◌≤◌, ℕ, List, length, Result}
use Rattle.close_rules.specs.xdr_header.declared.record.CloseRecord.{CloseRecord}
use Rattle.close_rules.specs.declared.close_fault.CloseFault.{CloseFault}
use Rattle.bucket_levels.specs.Size.{file_total}
use Rattle.close_rules.specs.State.{ClosingState, IsClosingState, max_file_total}
use Rattle.close_rules.specs.Close.{PreparedClose, IsClosed, IsTaken, IsClose}
use Rattle.close_laws.specs.Legal.{IsClosable}

-- bytes that are taken, of which a record may have so many, are a record that closes a ledger
abbrev pub TakenIsClosable : Type 0
TakenIsClosable = (s : ClosingState) (bytes : List ℕ) (taken : IsTaken s bytes) → IsClosingState s
    → length bytes ≤ 16777216 → IsClosable s taken.closing

-- what bytes do to a state is one thing
abbrev pub ClosesAreOne : Type 0
ClosesAreOne = (s : ClosingState) (bytes : List ℕ) (a b : Result PreparedClose CloseFault) → IsClose s bytes a
    → IsClose s bytes b → a ≡ b

-- the next ledger closes from what a close leaves
abbrev pub NextIsClosing : Type 0
NextIsClosing = (s : ClosingState) (closing : CloseRecord) (closed : PreparedClose) → IsClosable s closing
    → IsClosed s closing closed → file_total closed.state.levels ≤ max_file_total → IsClosingState closed.state
