-- Which words are a command. The words are those after the program's name, as their bytes in UTF-8.
use Rattle.std.specs.Prelude.{◌≡◌, ◌≢◌, ◌⊎◌, ℕ, ◌<◌, ◌≤◌, ◌^◌, List, [], ◌∷◌, ◌++◌, length, map, codes}
use Rattle.std.specs.Global.{Global}
use Rattle.std.specs.String.{string_bytes}
use Rattle.std.specs.declared.string.String.{String}
use Rattle.std.specs.Str.Parse.{IsNumeral, digits_value}

-- the bytes of words
abbrev pub words_of : List (String Global) → List (List ℕ)
words_of words = map string_bytes words

-- a command, with the values of its options
pub data Command : Type 0 where
  Init : (passphrase : List ℕ) → Command
  Run : (workers : ℕ) → Command
  CatchUp : (passphrase : List ℕ) → Command
  Show : Command
  Sample : (seed ledgers : ℕ) → Command
  History : (passphrase : List ℕ) → Command
  Changes : (passphrase : List ℕ) → Command
  Verify : Command
  Path : Command

-- ---- options

abbrev pub option_word : (name : List ℕ) → List ℕ
option_word name = codes "--" ++ name

-- it doesn't begin with a hyphen
abbrev pub IsUnhyphened : List ℕ → Type 0
IsUnhyphened value = (rest : List ℕ) → value ≢ codes "-" ++ rest

-- an option with its value, as two words or as one with an equals sign
abbrev pub IsOption : (name value : List ℕ) → List (List ℕ) → Type 0
IsOption name value words = (value ≢ [])
    × (((words ≡ option_word name ∷ value ∷ []) × IsUnhyphened value)
    ⊎ (words ≡ (option_word name ++ codes "=" ++ value) ∷ []))

-- an option whose value is a number, of one to ten decimal digits
pub record IsNumberOption (name : List ℕ) (number : ℕ) (words : List (List ℕ)) : Type 0 where
  pub value : List ℕ
  pub option : IsOption name value words
  pub numeral : IsNumeral 10 value
  pub short : length value ≤ 10
  pub is : number ≡ digits_value 10 value

-- ---- commands

-- the options of `run`: none means no workers
abbrev pub AreRunOptions : (workers : ℕ) → List (List ℕ) → Type 0
AreRunOptions workers options = (workers ≤ 8)
    × (((options ≡ []) × (workers ≡ 0)) ⊎ IsNumberOption (codes "workers") workers options)

-- the options of `sample`, in either order
pub record AreSampleOptions (seed ledgers : ℕ) (options : List (List ℕ)) : Type 0 where
  pub seed_words : List (List ℕ)
  pub seed_option : IsNumberOption (codes "seed") seed seed_words
  pub seed_fits : seed < 2 ^ 32
  pub ledgers_words : List (List ℕ)
  pub ledgers_option : IsNumberOption (codes "ledgers") ledgers ledgers_words
  pub some : 1 ≤ ledgers
  pub few : ledgers ≤ 20000
  pub either : (options ≡ seed_words ++ ledgers_words) ⊎ (options ≡ ledgers_words ++ seed_words)

abbrev pub name_of : Command → List ℕ
name_of (Init passphrase) = codes "init"
name_of (Run workers) = codes "run"
name_of (CatchUp passphrase) = codes "catchup"
name_of Show = codes "show"
name_of (Sample seed ledgers) = codes "sample"
name_of (History passphrase) = codes "history"
name_of (Changes passphrase) = codes "changes"
name_of Verify = codes "verify"
name_of Path = codes "path"

abbrev pub AreOptionsOf : Command → List (List ℕ) → Type 0
AreOptionsOf (Init passphrase) options = IsOption (codes "network") passphrase options
AreOptionsOf (Run workers) options = AreRunOptions workers options
AreOptionsOf (CatchUp passphrase) options = IsOption (codes "network") passphrase options
AreOptionsOf Show options = options ≡ []
AreOptionsOf (Sample seed ledgers) options = AreSampleOptions seed ledgers options
AreOptionsOf (History passphrase) options = IsOption (codes "network") passphrase options
AreOptionsOf (Changes passphrase) options = IsOption (codes "network") passphrase options
AreOptionsOf Verify options = options ≡ []
AreOptionsOf Path options = options ≡ []

-- The words are the command's name and then its options, each at most once and in any order, and one that it needs
-- exactly once.
abbrev pub Parses : List (List ℕ) → Command → Type 0
Parses words command = (options : List (List ℕ)) × (words ≡ name_of command ∷ options) × AreOptionsOf command options

-- The words are no command.
abbrev pub ParsesNone : List (List ℕ) → Type 0
ParsesNone words = (command : Command) → Parses words command → ⊥

-- ---- the law

-- Words are at most one command.
abbrev pub CommandsAreOne : Type 0
CommandsAreOne = (words : List (List ℕ)) (one other : Command) → Parses words one → Parses words other → one ≡ other
