-- The two forms of an option in words, and what `clap` needs of its value.
use Rattle.command_words.proofs.Prelude.{◌≡◌, ◌≢◌, ap, refl, inl, inr, Bool, true, false, List, [], ◌∷◌, ◌++◌, None}
use Rattle.command_words.proofs.Prelude.{codes, nat_eq, eqb-true, long_of, short_of, read_as, reading_of, accepts, Text}
use Rattle.command_words.proofs.Prelude.{ValueParser, IsOption, IsUnhyphened, option_word}
use Rattle.std.specs.Str.{bytes_eq}

pub data Form : Type 0 where
  own : Form
  joined : Form

abbrev pub words_in : Form → (name value : Text) → List Text
words_in own name value = option_word name ∷ value ∷ []
words_in joined name value = (option_word name ++ codes "=" ++ value) ∷ []

-- the word is no flag
pub record IsPlain (word : Text) : Type 0 where
  pub bare : bytes_eq word (codes "--") ≡ false
  pub long : long_of word ≡ None
  pub short : short_of word ≡ None

abbrev pub FitsForm : Form → Text → Type 0
FitsForm own value = IsPlain value
FitsForm joined value = Unit {0}

-- a parser of numbers takes the word, and hands it on as it is
pub record IsTaken (number : ValueParser) (word : Text) : Type 0 where
  pub accepted : accepts false number word ≡ true
  pub read : read_as (reading_of number) word ≡ word

plain_word : (word : Text) → word ≢ [] → IsUnhyphened word → IsPlain word
plain_word [] some unhyphened = absurd (some refl)
plain_word (x ∷ xs) some unhyphened = go (nat_eq x 45) refl
  where
    go : (b : Bool) → nat_eq x 45 ≡ b → IsPlain (x ∷ xs)
    go true e = absurd (unhyphened xs (ap (λ n. n ∷ xs) (eqb-true x 45 e)))
    go false e = record { bare = rw e refl; long = rw e refl; short = rw e refl }

pub form_of : (name value : Text) (words : List Text) → IsOption name value words
    → (form : Form) × (words ≡ words_in form name value) × FitsForm form value
form_of name value words (some, inl (is, unhyphened)) = (own, is, plain_word value some unhyphened)
form_of name value words (some, inr is) = (joined, is, tt)
