-- What the words of `watch` yield, and what its runs answer: where nothing failed, where all records are accepted, and
-- the outcome of their input.
use Rattle.std.specs.Prelude.{◌≡◌, ◌⊎◌, ℕ, List, Some}
use Rattle.ledger_types.specs.declared.ids.AccountId.{AccountId}
use Rattle.command_words.specs.WatchWords.{Watch, ParsesWatch, ParsesNoWatch}
use Rattle.run_outcome.specs.run_streams.Seen.{Seen}
use Rattle.run_outcome.specs.declared.status.Status.{Status}
use Rattle.run_outcome.specs.declared.status.Status.TheVariants as status
use Rattle.run_outcome.specs.FileRun.{FileKind}
use Rattle.run_outcome.specs.WatchRun.{DidWatch, reader_text}
use Rattle.replay.specs.FileLaws.{FileOutcomesAreOne}
use Rattle.watch_run.specs.WatchProgram.{IsUnstarted, RanWatch}

-- ---- words

-- Words that ask for something leave what that leaves, but where memory was refused as they were read. So all that is
-- known of what is asked holds of its words.
abbrev pub IsByWatch : Type 0
IsByWatch = (words : List (List ℕ)) (asked : Watch) (input out err : Seen) (end : Status)
    → RanWatch words input out err end → ParsesWatch words asked
    → ((id : AccountId) × (id.0 ≡ asked.account) × DidWatch asked.passphrase asked.readers id input out err end)
    ⊎ IsUnstarted status.NoMemory input out err end

-- words that ask for nothing are answered so
abbrev pub IsUsageReported : Type 0
IsUsageReported = (words : List (List ℕ)) (input out err : Seen) (end : Status) → RanWatch words input out err end
    → ParsesNoWatch words → IsUnstarted status.Usage input out err end

-- ---- answers

-- an input has one outcome, whatever readers of which account are asked for
abbrev pub WatchOutcomesAreOne : Type 0
WatchOutcomesAreOne = (readers : ℕ) (id : AccountId) → FileOutcomesAreOne (reader_text readers id)

-- a claim of each run of `watch` on an input, by the kind of what it writes
abbrev pub Watches : (FileKind → (passphrase bytes : List ℕ) → (Seen → Seen → Seen → Status → Type 0)) → Type 0
Watches P = (passphrase : List ℕ) (readers : ℕ) (id : AccountId) (bytes : List ℕ) (input out err : Seen) (end : Status)
    → DidWatch passphrase readers id input out err end → input.before ≡ Some bytes
    → P (reader_text readers id) passphrase bytes input out err end
