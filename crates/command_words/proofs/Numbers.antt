-- What `parse` and the parser of `u32` make of texts of digits.
use Rattle.command_words.proofs.Prelude.{◌≡◌, ◌≢◌, ◌<◌, ◌≤◌, ◌^◌, ◌∙◌, ℕ, arith, refl, sym, subst, List, [], ◌∷◌}
use Rattle.command_words.proofs.Prelude.{length, slice_index, get_or, MatchOption, Option, Some, None, Result, Ok, Err}
use Rattle.command_words.proofs.Prelude.{nat_eq, codes, true, false, true≢false, pos, ◌≤ℤ◌, FitsSigned, unwrap_or}
use Rattle.command_words.proofs.Prelude.{AllDigits, IsNumeral, ParsesUnsigned, digits_value, signed_digits_value}
use Rattle.command_words.proofs.Prelude.{without_leading_sign, ne_eqb, without_minus, accepts, ReadsOne, any_u32}
use Rattle.std.specs.Int.{w64}
use Rattle.std.specs.List.{starts_with}
use Rattle.std.specs.Result.{OkIff, result_ok}
use Rattle.std.proofs.lemmas.Int.{ints}
use Rattle.std.proofs.lemmas.Str.Parse.{IsNumeralModel, numerals_by_value, digit_from_value, tells_digits}
use Rattle.std.proofs.lemmas.Str.Parse.{digits_value_short, parse_plain, parse_gives}
use Rattle.clap.proofs.ValueTestLemmas.{Accepts-accepts}

abbrev digits : IsNumeralModel (AllDigits 10) (digits_value 10)
digits = numerals_by_value (AllDigits 10) tells_digits

short_fits : (text : List ℕ) → AllDigits 10 text → length text ≤ 10 → digits_value 10 text < 2 ^ 64
short_fits text are short =
    let fits : digits_value 10 text < 10 ^ 10 = digits_value_short digits text 10 are short in
    omega arith

-- ---- what `parse` gives, as `ok()` hands it on

abbrev IsRead : List ℕ → Option ℕ → Type 0
IsRead text o = MatchOption o (IsNumeral 10 text → length text ≤ 10 → ⊥)
    (λ n. IsNumeral 10 text × (length text ≤ 10) × (n ≡ digits_value 10 text))

unsigned : (text : List ℕ) → starts_with nat_eq text (codes "+") ≡ false → get_or text 0 0 ≢ 43
unsigned [] none e = absurd (omega arith)
unsigned (b ∷ text) none e =
    let is : b ≡ 43 = e in
    let starts : starts_with nat_eq (b ∷ text) (codes "+") ≡ true = rw is refl in
    absurd (true≢false (sym starts ∙ none))

ok_read : {E : Type 0} (text : List ℕ) (r : Result ℕ E) → length text ≤ 10
    → OkIff r (AllDigits 10 text × (0 < length text) × (digits_value 10 text < 2 ^ 64)) (digits_value 10 text)
    → IsRead text (result_ok r)
ok_read text (Ok n) short h = ((h.0.1, h.0.0), short, h.1)
ok_read text (Err e) short h = λ numeral few. h (numeral.1, numeral.0, short_fits text numeral.1 few)

pub number_read : {E : Type 0} (text : List ℕ) (r : Result ℕ E) (o : Option ℕ) → ParsesUnsigned 64 10 text r
    → starts_with nat_eq text (codes "+") ≡ false → length text ≤ 10 → o ≡ result_ok r → IsRead text o
number_read text r o parses none short is =
    subst (IsRead text) (sym is) (ok_read text r short (parse_plain digits 64 text r parses (unsigned text none)))

-- ---- what the parser of `u32` takes

signless : (text : List ℕ) → IsNumeral 10 text
    → (nat_eq (slice_index text 0) 45 ≡ false) × (nat_eq (slice_index text 0) 43 ≡ false)
signless [] numeral = absurd (let some : 0 < 0 = numeral.0 in omega arith)
signless (d ∷ ds) numeral =
    let digit = digit_from_value d numeral.1.0 in
    (ne_eqb d 45 (λ e. omega arith), ne_eqb d 43 (λ e. omega arith))

without_sign : (text : List ℕ) → IsNumeral 10 text
    → (without_leading_sign text ≡ text) × (signed_digits_value 10 text ≡ pos (digits_value 10 text))
without_sign text numeral =
    let minus = (signless text numeral).0 in
    let plus = (signless text numeral).1 in
    (rw (minus, plus) refl, rw (minus, plus) refl)

pub u32_accepts : (text : List ℕ) → IsNumeral 10 text → digits_value 10 text < 2 ^ 32
    → accepts false any_u32 text ≡ true
u32_accepts text numeral fits =
    let signs = without_sign text numeral in
    Accepts-accepts false any_u32 text (
      subst (IsNumeral 10) (sym signs.0) numeral,
      subst (λ z. FitsSigned w64 z) (sym signs.1) (omega arith),
      subst (λ z. pos 0 ≤ℤ z) (sym signs.1) (omega (arith, ints)),
      subst (λ z. z ≤ℤ pos 4294967295) (sym signs.1) (omega (arith, ints)),
    )

pub u32_reads : (text : List ℕ) → IsNumeral 10 text → without_minus text ≡ text
u32_reads [] numeral = refl
u32_reads (d ∷ ds) numeral = let minus = (signless (d ∷ ds) numeral).0 in rw minus refl

-- ---- what a reading of `u32` gives

module _ {E : Type 0} (G : List ℕ → Result ℕ E → Type 0)
    (parses : (text : List ℕ) (r : Result ℕ E) → G text r → ParsesUnsigned 32 10 text r) (text : List ℕ) (n : ℕ)
    (numeral : IsNumeral 10 text) (is : n ≡ digits_value 10 text) (fits : n < 2 ^ 32) where
  only_gives : (r : Result ℕ E) → G text r → r ≡ Ok (digits_value 10 text)
  only_gives r gives =
      parse_gives digits 32 text r (parses text r gives) numeral.1 numeral.0 (subst (λ m. m < 2 ^ 32) is fits)

  pub number_found : (r : Option ℕ) → ReadsOne G text r → unwrap_or r 0 ≡ n
  number_found (Some v) read = let only = only_gives (Ok v) read in cc
  number_found None read = let only = only_gives (Err read.0) read.1 in cc
