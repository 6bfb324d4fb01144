-- What `clap` finds of what `watch` is asked.
use Rattle.std.specs.Prelude.{ℕ, List, codes}
use Rattle.clap.specs.Words.{Row}
use Rattle.command_words.specs.declared.watch_words.WatchWords.{WatchWords}
use Rattle.command_words.specs.Found.{FindsText, FindsNumber}
use Rattle.command_words.specs.WatchWords.{Watch}
use Rattle.command_words.specs.WatchOptions.{IsKeyText}

-- what is asked in memory, as what words ask for
abbrev pub watch_at : WatchWords → Watch
watch_at w = record { passphrase = w.passphrase.now; account = w.account; readers = w.readers }

-- the options have these rows
abbrev pub FindsWatch : Watch → List Row → Type 0
FindsWatch asked rows = FindsText (codes "network") asked.passphrase rows
    × ((digits : List ℕ) × FindsText (codes "account") digits rows × IsKeyText asked.account digits)
    × FindsNumber (codes "readers") asked.readers rows
