-- The three options of `watch`, as they stand in words.
use Rattle.std.specs.Prelude.{◌≡◌, ◌⊎◌, ℕ, ◌≤◌, List, ◌++◌, length, codes, Ok, nat_eq, slice_index, false}
use Rattle.std.specs.Str.Parse.{IsNumeral, digits_value}
use Rattle.hex.specs.Hex.{decode_of}
use Rattle.command_words.specs.Words.{IsOption}
use Rattle.command_words.specs.WatchWords.{AreInAnyOrder}

-- the words are an option and then others
abbrev pub BeginsWith : (name value : List ℕ) (rest words : List (List ℕ)) → Type 0
BeginsWith name value rest words = (option : List (List ℕ)) × IsOption name value option × (words ≡ option ++ rest)

-- texts that begin with these differ in their first byte
abbrev pub Differ : (one other : List ℕ) → Type 0
Differ one other = (a b : List ℕ) → nat_eq (slice_index (one ++ a) 0) (slice_index (other ++ b) 0) ≡ false

-- the words are two options, in either order
abbrev pub AreTwo : (one value other second : List ℕ) → List (List ℕ) → Type 0
AreTwo one value other second words =
    (a : List (List ℕ)) × (b : List (List ℕ)) × IsOption one value a × IsOption other second b
    × ((words ≡ a ++ b) ⊎ (words ≡ b ++ a))

-- the words are three options, in any order
abbrev pub AreThree : (n v n' v' n'' v'' : List ℕ) → List (List ℕ) → Type 0
AreThree n v n' v' n'' v'' words =
    (a : List (List ℕ)) × (b : List (List ℕ)) × (c : List (List ℕ)) × IsOption n v a × IsOption n' v' b
    × IsOption n'' v'' c × AreInAnyOrder a b c words

-- the values of the options of `watch`, as texts
abbrev pub AreWatchTexts : (network account readers : List ℕ) → List (List ℕ) → Type 0
AreWatchTexts network account readers =
    AreThree (codes "network") network (codes "account") account (codes "readers") readers

-- the text is the digits of a key
abbrev pub IsKeyText : (key text : List ℕ) → Type 0
IsKeyText key text = (decode_of text ≡ Ok key) × (length key ≡ 32)

-- the text is a number of readers
abbrev pub IsCountText : ℕ → List ℕ → Type 0
IsCountText number text = IsNumeral 10 text × (length text ≤ 10) × (number ≡ digits_value 10 text) × (1 ≤ number)
    × (number ≤ 4)
