-- Words are an option of a name in one way.
use Rattle.std.proofs.Common.{◌≡◌, ◌∙◌, ℕ, arith, ap, refl, sym, inl, inr, List, [], ◌∷◌, ◌++◌, length, length-append}
use Rattle.std.proofs.Common.{append-nil, append_assoc, codes, slice_index, false, nat_eq, eq-eqb, true≢false}
use Rattle.command_words.specs.Words.{IsOption, IsNumberOption, option_word}
use Rattle.command_words.specs.WatchOptions.{Differ}

-- texts that differ at this byte, or at their third one
pub apart_at : {P : Type 0} (at : ℕ) (a b : List ℕ) → nat_eq (slice_index a at) (slice_index b at) ≡ false → a ≡ b → P
apart_at at a b differ e =
    let same = eq-eqb (slice_index a at) (slice_index b at) (ap (λ t. slice_index t at) e) in
    absurd (true≢false (sym same ∙ differ))

pub apart : {P : Type 0} (a b : List ℕ) → nat_eq (slice_index a 2) (slice_index b 2) ≡ false → a ≡ b → P
apart = apart_at 2

-- the word of an option isn't one that has a value after an equals sign
never_joined : (name value : List ℕ) → option_word name ≡ option_word name ++ codes "=" ++ value → ⊥
never_joined name value e = omega (arith, simp length-append at (ap length e))

joined_one : (prefix value other : List ℕ) → prefix ++ codes "=" ++ value ≡ prefix ++ codes "=" ++ other → value ≡ other
joined_one [] value other e = cc
joined_one (x ∷ prefix) value other e = joined_one prefix value other cc

-- ---- before other words

module _ (name value other : List ℕ) (prefix prefix' rest rest' : List (List ℕ)) where
  pub prefix_one : IsOption name value prefix → IsOption name other prefix' → prefix ++ rest ≡ prefix' ++ rest'
      → (value ≡ other) × (prefix ≡ prefix') × (rest ≡ rest')
  prefix_one (some, inl (is, plain)) (some', inl (is', plain')) e =
      let same : option_word name ∷ value ∷ rest ≡ option_word name ∷ other ∷ rest' = cc in (cc, cc, cc)
  prefix_one (some, inl (is, plain)) (some', inr is') e =
      let same : option_word name ∷ value ∷ rest ≡ (option_word name ++ codes "=" ++ other) ∷ rest' = cc in
      absurd (never_joined name other cc)
  prefix_one (some, inr is) (some', inl (is', plain')) e =
      let same : (option_word name ++ codes "=" ++ value) ∷ rest ≡ option_word name ∷ other ∷ rest' = cc in
      absurd (never_joined name value cc)
  prefix_one (some, inr is) (some', inr is') e =
      let same : (option_word name ++ codes "=" ++ value) ∷ rest ≡ (option_word name ++ codes "=" ++ other) ∷ rest' =
      cc in
      let values : value ≡ other = joined_one (option_word name) value other cc in
      (values, cc, cc)

pub option_one : (name value other : List ℕ) (words : List (List ℕ)) → IsOption name value words
    → IsOption name other words → value ≡ other
option_one name value other words is is' = (prefix_one name value other words words [] [] is is' refl).0

-- ---- options that are numbers

module _ (name : List ℕ) (n m : ℕ) (prefix prefix' rest rest' : List (List ℕ)) where
  pub numbers_one : IsNumberOption name n prefix → IsNumberOption name m prefix' → prefix ++ rest ≡ prefix' ++ rest'
      → (n ≡ m) × (rest ≡ rest')
  numbers_one is is' e =
      let one = prefix_one name is.value is'.value prefix prefix' rest rest' is.option is'.option e in
      let same = one.0 in
      let number = is.is in
      let number' = is'.is in
      (cc, one.2)

pub number_one : (name : List ℕ) (n m : ℕ) (words : List (List ℕ)) → IsNumberOption name n words
    → IsNumberOption name m words → n ≡ m
number_one name n m words is is' = (numbers_one name n m words words [] [] is is' refl).0

-- ---- the first word

-- it begins with the option's word
first_word : (name value : List ℕ) (words : List (List ℕ)) → IsOption name value words
    → (tail : List ℕ) × (others : List (List ℕ)) × (words ≡ (option_word name ++ tail) ∷ others)
first_word name value words (some, inl (is, plain)) =
    ([], value ∷ [], is ∙ ap (λ w. w ∷ value ∷ []) (sym (append-nil (option_word name))))
first_word name value words (some, inr is) =
    (codes "=" ++ value, [], is ∙ ap (λ w. w ∷ []) (append_assoc (option_word name) (codes "=") value))

pub never_none : (name : List ℕ) (n : ℕ) (words : List (List ℕ)) → IsNumberOption name n words → words ≡ [] → ⊥
never_none name n words is none =
    let first = first_word name is.value words is.option in
    let starts = first.2 in
    cc

heads_same : (a b : List ℕ) (more others : List (List ℕ)) → a ∷ more ≡ b ∷ others → a ≡ b
heads_same a b more others e = cc

-- words don't begin with options of two names that differ
pub never_apart : (n m : List ℕ) → Differ n m → (value other : List ℕ) (prefix prefix' rest rest' : List (List ℕ))
    → IsOption n value prefix → IsOption m other prefix' → prefix ++ rest ≡ prefix' ++ rest' → ⊥
never_apart n m differ value other prefix prefix' rest rest' is is' e =
    let one = first_word n value prefix is in
    let two = first_word m other prefix' is' in
    let same = ap (λ ws. ws ++ rest) (sym one.2) ∙ (e ∙ ap (λ ws. ws ++ rest') two.2) in
    apart (option_word n ++ one.0) (option_word m ++ two.0) (differ one.0 two.0) (heads_same _ _ _ _ same)

-- words that begin with a seed don't begin with a number of ledgers
pub never_both : (n m : ℕ) (prefix prefix' rest rest' : List (List ℕ)) → IsNumberOption (codes "seed") n prefix
    → IsNumberOption (codes "ledgers") m prefix' → prefix ++ rest ≡ prefix' ++ rest' → ⊥
never_both n m prefix prefix' rest rest' is is' e =
    never_apart (codes "seed") (codes "ledgers") (λ a b. refl) is.value is'.value prefix prefix' rest rest' is.option
    is'.option e
