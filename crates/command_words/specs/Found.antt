-- What `clap` finds of a command.
use Rattle.std.specs.Prelude.{◌≡◌, ◌⊎◌, ◌<◌, ◌^◌, ℕ, Some, None, List, codes}
use Rattle.std.specs.Str.Parse.{IsNumeral, digits_value}
use Rattle.clap.specs.Words.{Row, Text, first_of, one_of, subcommand_rows_of}
use Rattle.clap.specs.declared.parser.ArgMatches.{ArgMatches}
use Rattle.command_words.specs.Words.{Command, Init, Run, CatchUp, Show, Sample, History, Changes, Verify, Path}
use Rattle.command_words.specs.Words.{name_of}

-- the option's value, as text and as a number
abbrev pub FindsText : (name value : Text) → List Row → Type 0
FindsText name value rows = first_of name rows ≡ Some value

abbrev pub FindsNumber : (name : Text) (number : ℕ) → List Row → Type 0
FindsNumber name number rows = (value : Text) × (one_of name rows ≡ Some value) × IsNumeral 10 value
    × (number ≡ digits_value 10 value) × (number < 2 ^ 32)

-- it has none where the number is 0
abbrev pub FindsNumberOrNone : (name : Text) (number : ℕ) → List Row → Type 0
FindsNumberOrNone name number rows = FindsNumber name number rows ⊎ ((one_of name rows ≡ None) × (number ≡ 0))

-- the options of the command have these rows
abbrev pub FindsOptions : Command → List Row → Type 0
FindsOptions (Init passphrase) rows = FindsText (codes "network") passphrase rows
FindsOptions (Run workers) rows = FindsNumberOrNone (codes "workers") workers rows
FindsOptions (CatchUp passphrase) rows = FindsText (codes "network") passphrase rows
FindsOptions Show rows = Unit {0}
FindsOptions (Sample seed ledgers) rows = FindsNumber (codes "seed") seed rows
    × FindsNumber (codes "ledgers") ledgers rows
FindsOptions (History passphrase) rows = FindsText (codes "network") passphrase rows
FindsOptions (Changes passphrase) rows = FindsText (codes "network") passphrase rows
FindsOptions Verify rows = Unit {0}
FindsOptions Path rows = Unit {0}

abbrev pub Finds : ArgMatches → Command → Type 0
Finds matches command = (rows : List Row) × (subcommand_rows_of matches ≡ Some (name_of command, rows))
    × FindsOptions command rows
