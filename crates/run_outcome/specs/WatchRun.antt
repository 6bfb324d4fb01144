-- What `watch` answers to an input: a line of each reader, of the last ledger that closed.
use Rattle.std.specs.Prelude.{◌≡◌, ℕ, ◌+◌, zero, suc, List, [], ◌∷◌, ◌++◌, codes, IfSome, Option, Some, None, ◌⊎◌}
use Rattle.std.specs.Fmt.{decimal, signed_decimal}
use Rattle.std.specs.Io.KnownBytes.{IsAtEnd}
use Rattle.close_rules.specs.ledger_types.declared.account.AccountEntry.{AccountEntry}
use Rattle.close_rules.specs.ledger_types.declared.header.LedgerHeader.{LedgerHeader}
use Rattle.close_rules.specs.ledger_types.declared.ids.AccountId.{AccountId}
use Rattle.close_rules.specs.entry_slots.Accounts.{account_at}
use Rattle.close_rules.specs.declared.close_fault.CloseFault.{CloseFault}
use Rattle.close_rules.specs.State.{ClosingState}
use Rattle.run_streams.specs.Seen.{Seen, Failed, Received}
use Rattle.run_outcome.specs.declared.status.Status.{Status}
use Rattle.run_outcome.specs.declared.status.Status.TheVariants as status
use Rattle.run_outcome.specs.Statuses.{IsCatchUpEnd, ended_line}
use Rattle.run_outcome.specs.Lines.{refused_line, spaced}
use Rattle.run_outcome.specs.Run.{IsLineReported}
use Rattle.run_outcome.specs.Closes.{RecordClose}
use Rattle.run_outcome.specs.FileRun.{FileKind, FileOutcome, IsFileOutcome, IsFileAnswer}

-- ---- lines

-- the balance of an account, in stroops, or `none` where there is no account
unfoldable pub balance_text : Option AccountEntry → List ℕ
balance_text (Some account) = signed_decimal account.balance
balance_text None = codes "none"

-- `reader <number of the reader> <ledger> <balance>`
unfoldable pub reader_line : (number seq : ℕ) → Option AccountEntry → List ℕ
reader_line number seq account =
    ended_line (codes "reader" ++ spaced (decimal number) ++ spaced (decimal seq) ++ spaced (balance_text account))

-- the lines of so many readers, from the one with this number on
unfoldable pub reader_lines_from : (number count seq : ℕ) → Option AccountEntry → List ℕ
reader_lines_from number zero seq account = []
reader_lines_from number (suc count) seq account =
    reader_line number seq account ++ reader_lines_from (suc number) count seq account

-- what the readers of an account, numbered from 1, say of a ledger
abbrev pub reader_lines : (readers : ℕ) → AccountId → ClosingState → List ℕ
reader_lines readers id s = reader_lines_from 1 readers s.header.ledger_seq (account_at s.entries id)

-- ---- outcomes

-- the state after the last of these closes
abbrev pub last_state : ClosingState → List RecordClose → ClosingState
last_state s [] = s
last_state s (c ∷ closes) = last_state c.closed.state closes

-- the line of a record that is refused stands on standard output
abbrev pub refused_on_output : LedgerHeader → CloseFault → FileOutcome
refused_on_output header wrong = record { status = status.Refused; text = refused_line header wrong; line = [] }

-- no close is too large for it
abbrev pub reader_text : (readers : ℕ) → AccountId → FileKind
reader_text readers id = record {
  IsText = λ start closes text. text ≡ reader_lines readers id (last_state start closes);
  AreSmall = λ closes. Unit {0};
  IsTooLarge = λ closes c. ⊥;
  refused = refused_on_output;
}

-- the ends at which nothing is written on standard output
abbrev pub IsLineless : Status → Type 0
IsLineless status.Done = ⊥
IsLineless status.Refused = ⊥
IsLineless status.WriteFault = ⊥
IsLineless status.NoMemory = ⊥
IsLineless other = Unit {0}

-- A passphrase's run of `watch` with so many readers of an account, over these streams, with this end and its line on
-- standard error.
pub record DidWatch (passphrase : List ℕ) (readers : ℕ) (id : AccountId) (input out err : Seen) (end : Status) : Type 0
  where
    pub answered : IfSome input.before
        (λ bytes. IsFileAnswer (IsFileOutcome (reader_text readers id) passphrase bytes) out err end)
    pub ended : end ≡ status.Done → IsAtEnd input.now
    pub unwritten : IsLineless end → Received out []
    -- a fault of a stream is answered only where its count rose
    pub read_fault : end ≡ status.ReadFault → Failed input
    pub write_fault : end ≡ status.WriteFault → Failed out ⊎ Failed err
    pub is_end : IsCatchUpEnd end
    pub reported : IsLineReported err end
