-- Words are at most one command.
use Rattle.std.proofs.Common.{◌≡◌, ◌∙◌, ◌⊎◌, subst, ℕ, ap, ap₂, sym, inl, inr, List, ◌∷◌, ◌++◌, codes}
use Rattle.command_words.specs.Words.{CommandsAreOne, Init, Run, CatchUp, Show, Sample, History, Changes, Verify, Path}
use Rattle.command_words.specs.Words.{IsOption}
use Rattle.command_words.specs.Words.{IsNumberOption, AreRunOptions, AreSampleOptions, AreOptionsOf}
use Rattle.command_words.proofs.Options.{option_one, number_one, numbers_one, never_none, never_both}
use Rattle.command_words.proofs.Names.{of_init, of_run, of_catchup, of_show, of_sample, of_history, of_changes}
use Rattle.command_words.proofs.Names.{of_verify, of_path}

run_one : (n m : ℕ) (options : List (List ℕ)) → AreRunOptions n options → AreRunOptions m options → n ≡ m
run_one n m options (few, inl (none, zero)) (few', inl (none', zero')) = cc
run_one n m options (few, inl (none, zero)) (few', inr is) = absurd (never_none _ m options is none)
run_one n m options (few, inr is) (few', inl (none, zero)) = absurd (never_none _ n options is none)
run_one n m options (few, inr is) (few', inr is') = number_one _ n m options is is'

module _ (s l s' l' : ℕ) (options : List (List ℕ)) (a : AreSampleOptions s l options)
    (b : AreSampleOptions s' l' options) where
  either_one : (options ≡ a.seed_words ++ a.ledgers_words) ⊎ (options ≡ a.ledgers_words ++ a.seed_words)
      → (options ≡ b.seed_words ++ b.ledgers_words) ⊎ (options ≡ b.ledgers_words ++ b.seed_words) → (s ≡ s') × (l ≡ l')
  either_one (inl x) (inl y) =
      let prefix = numbers_one _ s s' a.seed_words b.seed_words a.ledgers_words b.ledgers_words a.seed_option
      b.seed_option (sym x ∙ y) in
      let moved = subst (IsNumberOption (codes "ledgers") l) prefix.1 a.ledgers_option in
      (prefix.0, number_one _ l l' b.ledgers_words moved b.ledgers_option)
  either_one (inr x) (inr y) =
      let prefix = numbers_one _ l l' a.ledgers_words b.ledgers_words a.seed_words b.seed_words a.ledgers_option
      b.ledgers_option (sym x ∙ y) in
      let moved = subst (IsNumberOption (codes "seed") s) prefix.1 a.seed_option in
      (number_one _ s s' b.seed_words moved b.seed_option, prefix.0)
  either_one (inl x) (inr y) = absurd (never_both s l' a.seed_words b.ledgers_words a.ledgers_words b.seed_words
      a.seed_option b.ledgers_option (sym x ∙ y))
  either_one (inr x) (inl y) = absurd (never_both s' l b.seed_words a.ledgers_words b.ledgers_words a.seed_words
      b.seed_option a.ledgers_option (sym y ∙ x))

  sample_one : (s ≡ s') × (l ≡ l')
  sample_one = either_one a.either b.either

-- the options are after one name
names_one : (words options options' : List (List ℕ)) (name name' : List ℕ) → words ≡ name ∷ options
    → words ≡ name' ∷ options' → (name ≡ name') × (options' ≡ options)
names_one words options options' name name' is is' = (cc, cc)

pub commands_are_one : CommandsAreOne
commands_are_one words (Init p) other (options, is, are) (options', is', are') =
    let same = names_one words options options' _ _ is is' in
    let of = of_init (λ c. AreOptionsOf c options') other same.0 are' in
    let moved = subst (IsOption (codes "network") of.0) same.1 of.2 in
    ap Init (option_one _ p of.0 options are moved) ∙ sym of.1
commands_are_one words (Run w) other (options, is, are) (options', is', are') =
    let same = names_one words options options' _ _ is is' in
    let of = of_run (λ c. AreOptionsOf c options') other same.0 are' in
    ap Run (run_one w of.0 options are (subst (AreRunOptions of.0) same.1 of.2)) ∙ sym of.1
commands_are_one words (CatchUp p) other (options, is, are) (options', is', are') =
    let same = names_one words options options' _ _ is is' in
    let of = of_catchup (λ c. AreOptionsOf c options') other same.0 are' in
    let moved = subst (IsOption (codes "network") of.0) same.1 of.2 in
    ap CatchUp (option_one _ p of.0 options are moved) ∙ sym of.1
commands_are_one words Show other (options, is, are) (options', is', are') =
    let same = names_one words options options' _ _ is is' in
    sym (of_show other same.0)
commands_are_one words (Sample s l) other (options, is, are) (options', is', are') =
    let same = names_one words options options' _ _ is is' in
    let of = of_sample (λ c. AreOptionsOf c options') other same.0 are' in
    let values = sample_one s l of.0 of.1 options are (subst (AreSampleOptions of.0 of.1) same.1 of.3) in
    ap₂ Sample values.0 values.1 ∙ sym of.2
commands_are_one words (History p) other (options, is, are) (options', is', are') =
    let same = names_one words options options' _ _ is is' in
    let of = of_history (λ c. AreOptionsOf c options') other same.0 are' in
    let moved = subst (IsOption (codes "network") of.0) same.1 of.2 in
    ap History (option_one _ p of.0 options are moved) ∙ sym of.1
commands_are_one words (Changes p) other (options, is, are) (options', is', are') =
    let same = names_one words options options' _ _ is is' in
    let of = of_changes (λ c. AreOptionsOf c options') other same.0 are' in
    let moved = subst (IsOption (codes "network") of.0) same.1 of.2 in
    ap Changes (option_one _ p of.0 options are moved) ∙ sym of.1
commands_are_one words Verify other (options, is, are) (options', is', are') =
    let same = names_one words options options' _ _ is is' in
    sym (of_verify other same.0)
commands_are_one words Path other (options, is, are) (options', is', are') =
    let same = names_one words options options' _ _ is is' in
    sym (of_path other same.0)
