-- That an input has one outcome, and that an output that is cut short is a prefix of its text.
use Rattle.std.specs.Prelude.{◌≡◌, ℕ, ◌+◌, ◌≤◌, List, ◌++◌, length, All}
use Rattle.stored_outcome.specs.run_streams.Seen.{Seen, ReceivedPrefix}
use Rattle.xdr_core.specs.Position.{Position}
use Rattle.stored_outcome.specs.close_rules.State.{ClosingState}
use Rattle.stored_outcome.specs.run_outcome.declared.status.Status.{Status}
use Rattle.stored_outcome.specs.run_outcome.Outcome.{Outcome, after, max_record_len, frames, AreClosed, IsRun}
use Rattle.stored_outcome.specs.run_outcome.Outcome.{IsOutcome}
use Rattle.stored_outcome.specs.run_outcome.Outcome.{IsPrefix, IsRunPrefix, IsOutputPrefix}
use Rattle.stored_outcome.specs.run_outcome.Run.{AnsweredTo}

-- what the records after a state yield is one thing
abbrev pub RunsAreOne : Type 0
RunsAreOne = (s : ClosingState) (p : Position) (a b : Outcome) → IsRun s p a → IsRun s p b → a ≡ b

-- What records yield that all close ledgers, with others after them: the lines of the first, and what the others
-- yield from the state after those. So a run that stopped between two records goes on where it stopped.
abbrev pub RunsGoOn : Type 0
RunsGoOn = (s now : ClosingState) (records : List (List ℕ)) (lines : List ℕ) (at : ℕ) (rest : List ℕ) (o : Outcome)
    → All (λ bytes. length bytes ≤ max_record_len) records → AreClosed s records lines now
    → IsRun now (record { at = at + length (frames records); rest = rest }) o
    → IsRun s (record { at = at; rest = frames records ++ rest }) (after lines o)

abbrev pub OutcomesAreOne : Type 0
OutcomesAreOne =
    (passphrase input : List ℕ) (a b : Outcome) → IsOutcome passphrase input a → IsOutcome passphrase input b → a ≡ b

-- where an input has an outcome, each prefix of what it yields is one of the outcome's text
abbrev pub PrefixesAreOfOutcomes : Type 0
PrefixesAreOfOutcomes = (passphrase input prefix : List ℕ) (o : Outcome) → IsOutputPrefix passphrase input prefix
    → IsOutcome passphrase input o → IsPrefix prefix o.text

-- each prefix of what records after a state yield is one of the outcome's text
abbrev pub PrefixesAreOfRuns : Type 0
PrefixesAreOfRuns = (s : ClosingState) (p : Position) (prefix : List ℕ) (o : Outcome) → IsRunPrefix s p prefix
    → IsRun s p o
    → IsPrefix prefix o.text

-- at every end the output has received a prefix of the outcome's text
abbrev pub OutputsArePrefixes : Type 0
OutputsArePrefixes = (passphrase input : List ℕ) (out : Seen) (end : Status) (o : Outcome)
    → AnsweredTo passphrase input out end → IsOutcome passphrase input o → ReceivedPrefix out o.text
