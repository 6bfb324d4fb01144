-- Which words the program `watch` is run with. They are its options alone.
use Rattle.std.specs.Prelude.{◌≡◌, ◌⊎◌, ℕ, ◌≤◌, List, ◌++◌, length, codes, Ok}
use Rattle.hex.specs.Hex.{decode_of}
use Rattle.command_words.specs.Words.{IsOption, IsNumberOption}

-- what `watch` is asked: the network by its passphrase, an account by the bytes of its key, and how many readers
pub record Watch : Type 0 where
  pub passphrase : List ℕ
  pub account : List ℕ
  pub readers : ℕ

-- an option whose value is the 32 bytes of a key, as 64 hexadecimal digits of either case
pub record IsKeyOption (name key : List ℕ) (words : List (List ℕ)) : Type 0 where
  pub digits : List ℕ
  pub option : IsOption name digits words
  pub is : decode_of digits ≡ Ok key
  pub len : length key ≡ 32

-- three lists of words, one after another in any order
abbrev pub AreInAnyOrder : (a b c words : List (List ℕ)) → Type 0
AreInAnyOrder a b c words =
    (words ≡ a ++ b ++ c) ⊎ (words ≡ a ++ c ++ b) ⊎ (words ≡ b ++ a ++ c) ⊎ (words ≡ b ++ c ++ a)
    ⊎ (words ≡ c ++ a ++ b) ⊎ (words ≡ c ++ b ++ a)

-- the words ask for this
pub record ParsesWatch (words : List (List ℕ)) (asked : Watch) : Type 0 where
  pub network_words : List (List ℕ)
  pub network : IsOption (codes "network") asked.passphrase network_words
  pub account_words : List (List ℕ)
  pub account : IsKeyOption (codes "account") asked.account account_words
  pub readers_words : List (List ℕ)
  pub readers : IsNumberOption (codes "readers") asked.readers readers_words
  pub some : 1 ≤ asked.readers
  pub few : asked.readers ≤ 4
  pub any : AreInAnyOrder network_words account_words readers_words words

-- the words ask for nothing
abbrev pub ParsesNoWatch : List (List ℕ) → Type 0
ParsesNoWatch words = (asked : Watch) → ParsesWatch words asked → ⊥

-- ---- the law

-- Words ask for at most one thing.
abbrev pub WatchesAreOne : Type 0
WatchesAreOne = (words : List (List ℕ)) (one other : Watch) → ParsesWatch words one → ParsesWatch words other
    → one ≡ other
