use Rattle.command_words.proofs.Prelude.{◌≡◌, ◌≤◌, ℕ, List, arith, sym, subst, length, leb-true, le-leb, IsNumeral}
use Rattle.command_words.proofs.Prelude.{digits_value, IsOption, IsNumberOption, words_of}
use Rattle.command_words.proofs.Options.{option_one, number_one}
use Rattle.command_words.proofs.Judging.{never_true}
use Rattle.command_words.proofs.number.is_number_within.Goals as goal

-- what the words are, where their value is read as a number
option_of : (name value : List ℕ) (number : ℕ) (words : List (List ℕ)) → IsOption name value words
    → IsNumeral 10 value × (length value ≤ 10) × (number ≡ digits_value 10 value) → IsNumberOption name number words
option_of name value number words option read =
    record { value = value; option = option; numeral = read.0; short = read.1; is = read.2 }

pub returns-in_default : goal.returns-in_default
returns-in_default c = never_true (λ it. c.in_default.ensures it.1.value it.1.option)

pub returns-in-None : goal.returns-in-None
returns-in-None c = never_true (λ it.
    let same = sym (option_one _ _ _ _ c.in-Some.ensures it.1.option) in
    c.in-None.ensures (subst (IsNumeral 10) same it.1.numeral) (subst (λ text. length text ≤ 10) same it.1.short))

pub returns-then-least-number : goal.returns-then-least-number
returns-then-least-number c =
    let read = c.in-Some-number_of in
    let words = words_of c.args.words.now in
    let is = option_of c.args.name.now c.in-Some.value.now read.number words c.in-Some.ensures read.ensures in (
      (λ few. (read.number, is, c.if-least-number.true, leb-true _ _ few)),
      (λ it. le-leb _ _ (subst (λ n. n ≤ c.args.most) (sym (number_one _ _ _ _ is it.1)) it.3)),
    )

pub returns-else-least-number : goal.returns-else-least-number
returns-else-least-number c =
    let read = c.in-Some-number_of in
    let words = words_of c.args.words.now in
    let is = option_of c.args.name.now c.in-Some.value.now read.number words c.in-Some.ensures read.ensures in (
      (λ least. absurd (let is : c.args.least ≤ read.number = leb-true _ _ least in omega arith)),
      (λ it. le-leb _ _ (subst (λ n. c.args.least ≤ n) (sym (number_one _ _ _ _ is it.1)) it.2)),
    )
