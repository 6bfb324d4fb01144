-- What a run of the program `watch` leaves, by its words, over what was seen of its streams before and after.
use Rattle.std.specs.Prelude.{◌≡◌, ◌⊎◌, ℕ, List}
use Rattle.ledger_types.specs.declared.ids.AccountId.{AccountId}
use Rattle.command_words.specs.WatchWords.{Watch, ParsesWatch, ParsesNoWatch}
use Rattle.run_outcome.specs.run_streams.Seen.{Seen, IsUntouched}
use Rattle.run_outcome.specs.declared.status.Status.{Status}
use Rattle.run_outcome.specs.declared.status.Status.TheVariants as status
use Rattle.run_outcome.specs.Run.{IsReported}
use Rattle.run_outcome.specs.WatchRun.{DidWatch}

-- Nothing is read and nothing is written to the output. This end is written.
pub record IsUnstarted (cause : Status) (input out err : Seen) (end : Status) : Type 0 where
  pub reported : IsReported cause err end
  pub unread : IsUntouched input
  pub unwritten : IsUntouched out

-- The words were run, over these streams, with this end; or they ask for nothing; or memory was refused before the
-- input was read.
abbrev pub RanWatch : (words : List (List ℕ)) (input out err : Seen) (end : Status) → Type 0
RanWatch words input out err end =
    ((asked : Watch) × (id : AccountId) × ParsesWatch words asked × (id.0 ≡ asked.account)
    × DidWatch asked.passphrase asked.readers id input out err end)
    ⊎ (ParsesNoWatch words × IsUnstarted status.Usage input out err end)
    ⊎ ((asked : Watch) × ParsesWatch words asked × IsUnstarted status.NoMemory input out err end)
