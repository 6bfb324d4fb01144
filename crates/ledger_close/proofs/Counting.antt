-- The steps of a close, from those of its levels.
use Rattle.ledger_close.proofs.Prelude.{◌≡◌, ℕ, ◌+◌, List, None, Ok, inl, inr, IsBytes, CloseRecord, EntryMap}
use Rattle.ledger_close.proofs.Prelude.{AreNextEntries, record_in, record_fault, applied_in, LedgerAt, AreStepsTo}
use Rattle.ledger_close.proofs.Prelude.{AreStepsWith, AreSteps}

pub steps_with : (l : LedgerAt) (closing : CloseRecord) (next : EntryMap) (old new : ℕ)
    → record_fault l.state closing ≡ None
    → AreNextEntries (l.state.header.ledger_seq + 1) l.state.entries (applied_in l.state closing).entries next
    → AreStepsTo l next old new → AreStepsWith l closing old new
steps_with l closing next old new unrefused are (inl e) = inl e
steps_with l closing next old new unrefused are (inr (fresh, is, few)) =
    inr (unrefused, next, fresh, record { entries = are; recorded = is }, few)

pub steps_of : (l : LedgerAt) (bytes : List ℕ) (closing : CloseRecord) (old new : ℕ) → IsBytes bytes
    → record_in bytes ≡ Ok closing → AreStepsWith l closing old new → AreSteps l bytes old new
steps_of l bytes closing old new text reads (inl e) = inl e
steps_of l bytes closing old new text reads (inr (unrefused, next, fresh, are, few)) =
    inr (record { closing = closing; text = text; reads = reads; unrefused = unrefused }, next, fresh, are, few)
