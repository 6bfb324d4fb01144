-- What tests of words yield.
use Rattle.command_words.proofs.Prelude.{◌≡◌, ◌≤◌, ◌∙◌, ◌⊎◌, ℕ, arith, ap, refl, sym, subst, inl, inr, List, []}
use Rattle.command_words.proofs.Prelude.{◌∷◌, ◌++◌, length, nat_eq, ne_eqb, take, drop, Option, Some, None}
use Rattle.command_words.proofs.Prelude.{MatchOption, is_some, Bool, false, true≢false, IsTrue, Bor, take-map}
use Rattle.command_words.proofs.Prelude.{drop-map, take-append-drop, String, string_bytes}
use Rattle.command_words.proofs.Prelude.{IsOption, AreSampleOptions, words_of, AreSeedAndLedgers}
use Rattle.std.specs.Global.{Global}

pub never_true : {P : Type 0} → (P → ⊥) → (IsTrue false → P) × (P → IsTrue false)
never_true never = ((λ e. absurd (true≢false (sym e))), (λ p. absurd (never p)))

-- there are no words
pub none_iff : (words : List (String Global)) (b : Bool) → b ≡ nat_eq (length words) 0
    → (IsTrue b → words_of words ≡ []) × (words_of words ≡ [] → IsTrue b)
none_iff [] b is = ((λ t. refl), (λ e. is))
none_iff (word ∷ words) b is = (
  (λ t. absurd (true≢false (sym t ∙ is ∙ ne_eqb (length (word ∷ words)) 0 (λ e. omega arith)))),
  (λ e. absurd cc),
)

pub found_iff : (b : Bool) (o : Option (Bor (List ℕ))) (P : List ℕ → Type 0)
    → MatchOption o ((v : List ℕ) → P v → ⊥) (λ v. P v.now) → b ≡ is_some o
    → (IsTrue b → (v : List ℕ) × P v) × (((v : List ℕ) × P v) → IsTrue b)
found_iff b None P h e = ((λ t. absurd (true≢false (sym t ∙ e))), (λ it. absurd (h it.0 it.1)))
found_iff b (Some v) P h e = ((λ t. (v.now, h)), (λ it. e))

-- ---- the options of `sample`

-- the parts of words that are cut
pub parts_of : (words one other : List (String Global)) (at : ℕ) → one ≡ take at words → other ≡ drop at words
    → (words_of one ≡ take at (words_of words)) × (words_of other ≡ drop at (words_of words))
parts_of words one other at is is' =
    (ap words_of is ∙ sym (take-map string_bytes at words), ap words_of is' ∙ sym (drop-map string_bytes at words))

-- the words are cut after the first, or after the second
abbrev pub CutWhere : (List (List ℕ) → List (List ℕ) → Type 0) → List (List ℕ) → Type 0
CutWhere P words = ((1 ≤ length words) × P (take 1 words) (drop 1 words))
    ⊎ ((2 ≤ length words) × P (take 2 words) (drop 2 words))

-- an option is one word or two
pub cut_after : (P : List (List ℕ) → List (List ℕ) → Type 0) (name value : List ℕ) (prefix back words : List (List ℕ))
    → IsOption name value prefix → words ≡ prefix ++ back → P prefix back → CutWhere P words
cut_after P name value prefix back words (some, inl (is, plain)) e holds =
    let entire = sym (e ∙ ap (λ ws. ws ++ back) is) in
    inr (subst (λ ws. (2 ≤ length ws) × P (take 2 ws) (drop 2 ws)) entire
    (omega arith, subst (λ ws. P ws back) is holds))
cut_after P name value prefix back words (some, inr is) e holds =
    let entire = sym (e ∙ ap (λ ws. ws ++ back) is) in
    inl (subst (λ ws. (1 ≤ length ws) × P (take 1 ws) (drop 1 ws)) entire
    (omega arith, subst (λ ws. P ws back) is holds))

weaker : (P Q : List (List ℕ) → List (List ℕ) → Type 0) (words : List (List ℕ))
    → ((one other : List (List ℕ)) → P one other → Q one other) → CutWhere P words → CutWhere Q words
weaker P Q words from (inl h) = inl (h.0, from _ _ h.1)
weaker P Q words from (inr h) = inr (h.0, from _ _ h.1)

-- one part is a seed, and the other a number of ledgers
abbrev pub AreBoth : List (List ℕ) → List (List ℕ) → Type 0
AreBoth one other = AreSeedAndLedgers one other ⊎ AreSeedAndLedgers other one

pub cut_options : (seed ledgers : ℕ) (words : List (List ℕ)) → AreSampleOptions seed ledgers words
    → CutWhere AreBoth words
cut_options seed ledgers words are =
    let both : AreSeedAndLedgers are.seed_words are.ledgers_words =
    (seed, ledgers, are.seed_option, are.seed_fits, are.ledgers_option, are.some, are.few) in
    let seed_in = are.seed_option.option in
    let ledgers_in = are.ledgers_option.option in
    elim are.either [
      | inl e ↦ weaker AreSeedAndLedgers AreBoth words (λ one other are. inl are)
          (cut_after AreSeedAndLedgers _ _ are.seed_words are.ledgers_words words seed_in e both)
      | inr e ↦ weaker (λ one other. AreSeedAndLedgers other one) AreBoth words (λ one other are. inr are)
          (cut_after (λ one other. AreSeedAndLedgers other one) _ _ are.ledgers_words are.seed_words words ledgers_in e
          both)
    ]

pub options_cut : (at : ℕ) (words : List (List ℕ)) → AreBoth (take at words) (drop at words)
    → (seed : ℕ) × (ledgers : ℕ) × AreSampleOptions seed ledgers words
options_cut at words (inl (seed, ledgers, is, fits, are, some, few)) = (
  seed,
  ledgers,
  record {
    seed_words = take at words;
    seed_option = is;
    seed_fits = fits;
    ledgers_words = drop at words;
    ledgers_option = are;
    some = some;
    few = few;
    either = inl (sym (take-append-drop at words));
  },
)
options_cut at words (inr (seed, ledgers, is, fits, are, some, few)) = (
  seed,
  ledgers,
  record {
    seed_words = drop at words;
    seed_option = is;
    seed_fits = fits;
    ledgers_words = take at words;
    ledgers_option = are;
    some = some;
    few = few;
    either = inr (sym (take-append-drop at words));
  },
)
