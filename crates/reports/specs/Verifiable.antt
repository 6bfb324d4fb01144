-- That `verify` accepts what `history` writes.
use Rattle.std.specs.Prelude.{◌≤◌, List, [], ◌∷◌, ℕ, All, length, Ok}
use Rattle.archive_files.specs.Added.{IsSized, no_closes}
use Rattle.archive_files.specs.Form.{stated_history}
use Rattle.run_outcome.specs.close_rules.State.{ClosingState, IsClosingState}
use Rattle.run_outcome.specs.value_hashes.Hashes.{ledger_hash_of}
use Rattle.run_outcome.specs.Closes.{RecordClose, AreClosesOf}
use Rattle.run_outcome.specs.HistoryRun.{AreSmallWith, closed_of, history_after}
use Rattle.run_outcome.specs.Outcome.{max_record_len}
use Rattle.run_outcome.specs.VerifyRun.{IsVerdict, verdict_outcome}

-- the numbers of closes are those of their types
abbrev pub AreSized : List RecordClose → Type 0
AreSized [] = Unit {0}
AreSized (c ∷ closes) = IsSized (closed_of c) × AreSized closes

-- The history of the closes of records after a state, whose numbers are those of their types, is verified, with the
-- number of closes and the hash of the last header.
abbrev pub HistoriesVerify : Type 0
HistoriesVerify = (s now : ClosingState) (records : List (List ℕ)) (closes : List RecordClose) → IsClosingState s
    → All (λ bytes. length bytes ≤ max_record_len) records → AreClosesOf s records closes now
    → AreSmallWith no_closes closes → AreSized closes → stated_history.sized (history_after s closes)
    → IsVerdict (stated_history.encoding (history_after s closes))
    (verdict_outcome (Ok (record { closes = length closes; last = ledger_hash_of now.header })))
