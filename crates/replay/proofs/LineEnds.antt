-- Texts without the end of a line, and the lines of a text that end.
use Rattle.replay.proofs.Prelude.{◌≡◌, ℕ, ◌+◌, ◌/◌, ◌%◌, ◌≤◌, List, [], ◌∷◌, ◌++◌, refl, sym, ap, ◌∙◌, append_assoc}
use Rattle.replay.proofs.Prelude.{append-nil, ne_eqb, arith, suc, zero, nat_eq, nat_lt, if◌then◌else◌, slice_index, ℤ}
use Rattle.replay.proofs.Prelude.{pos, negsuc, decimal, signed_decimal, digits, digits_onto, digit_glyph}
use Rattle.replay.proofs.Prelude.{complete_lines}
use Rattle.std.specs.Prelude.{Bool, true, false}
use Rattle.hex.specs.Hex.{encode_with, encode_lower, lower_digits}

-- no line ends in a text
abbrev pub IsUnbroken : List ℕ → Type 0
IsUnbroken [] = Unit {0}
IsUnbroken (byte ∷ rest) = (nat_eq byte 10 ≡ false) × IsUnbroken rest

pub both_unbroken : (a b : List ℕ) → IsUnbroken a → IsUnbroken b → IsUnbroken (a ++ b)
both_unbroken [] b h i = i
both_unbroken (byte ∷ a) b h i = (h.0, both_unbroken a b h.1 i)

-- ---- texts of a program

abbrev pub no_ends : List ℕ → Bool
no_ends [] = true
no_ends (byte ∷ rest) = if nat_eq byte 10 then false else no_ends rest

-- a text that is written out
pub plain : (text : List ℕ) → no_ends text ≡ true → IsUnbroken text
plain [] e = tt
plain (byte ∷ rest) e =
    elim (nat_eq byte 10) as (λ b. nat_eq byte 10 ≡ b → (if b then false else no_ends rest) ≡ true
    → IsUnbroken (byte ∷ rest)) [
      | true ↦ λ is h. absurd cc
      | false ↦ λ is h. (is, plain rest h)
    ] refl e

-- ---- numbers and hashes

high : (n : ℕ) → 11 ≤ n → nat_eq n 10 ≡ false
high n some = ne_eqb n 10 (omega arith)

glyph : (d : ℕ) → nat_eq (digit_glyph false d) 10 ≡ false
glyph d = elim (nat_lt d 10) as (λ b. nat_eq (if b then 48 + d else (if false then 55 + d else 87 + d)) 10 ≡ false) [
  | true ↦ high (48 + d) (omega arith)
  | false ↦ high (87 + d) (omega arith)
]

onto_unbroken : (k n : ℕ) (acc : List ℕ) → IsUnbroken acc → IsUnbroken (digits_onto k 10 false n acc)
onto_unbroken zero n acc h = h
onto_unbroken (suc k) n acc h =
    elim (nat_eq (n / 10) 0) as (λ b. IsUnbroken (if b then digit_glyph false (n % 10) ∷ acc
    else digits_onto k 10 false (n / 10) (digit_glyph false (n % 10) ∷ acc))) [
      | true ↦ (glyph (n % 10), h)
      | false ↦ onto_unbroken k (n / 10) (digit_glyph false (n % 10) ∷ acc) (glyph (n % 10), h)
    ]

pub decimal_unbroken : (n : ℕ) → IsUnbroken (decimal n)
unfolding digits
decimal_unbroken n = onto_unbroken 64 n [] tt

pub signed_unbroken : (z : ℤ) → IsUnbroken (signed_decimal z)
signed_unbroken (pos n) = decimal_unbroken n
signed_unbroken (negsuc n) = (refl, decimal_unbroken (suc n))

one_of : (table : List ℕ) (d : ℕ) → IsUnbroken table → nat_eq (slice_index table d) 10 ≡ false
one_of [] d h = refl
one_of (byte ∷ table) zero h = h.0
one_of (byte ∷ table) (suc d) h = one_of table d h.1

lower : (d : ℕ) → nat_eq (slice_index lower_digits d) 10 ≡ false
lower d = one_of lower_digits d (plain lower_digits refl)

pub hex_unbroken : (bytes : List ℕ) → IsUnbroken (encode_lower bytes)
unfolding encode_with
hex_unbroken [] = tt
hex_unbroken (byte ∷ bytes) = (lower (byte / 16), (lower (byte % 16), hex_unbroken bytes))

-- ---- lines

pub lines_none : (begun text : List ℕ) → IsUnbroken text → complete_lines begun text ≡ []
unfolding complete_lines
lines_none begun [] h = refl
lines_none begun (byte ∷ rest) h =
    ap (λ (b : Bool). if b then begun ∷ complete_lines [] rest else complete_lines (begun ++ byte ∷ []) rest) h.0
    ∙ lines_none (begun ++ byte ∷ []) rest h.1

pub lines_one : (begun text rest : List ℕ) → IsUnbroken text
    → complete_lines begun (text ++ 10 ∷ rest) ≡ (begun ++ text) ∷ complete_lines [] rest
unfolding complete_lines
lines_one begun [] rest h = ap (λ (line : List ℕ). line ∷ complete_lines [] rest) (sym (append-nil begun))
lines_one begun (byte ∷ text) rest h =
    ap (λ (b : Bool). if b then begun ∷ complete_lines [] (text ++ 10 ∷ rest)
    else complete_lines (begun ++ byte ∷ []) (text ++ 10 ∷ rest)) h.0
    ∙ lines_one (begun ++ byte ∷ []) text rest h.1
    ∙ ap (λ (line : List ℕ). line ∷ complete_lines [] rest) (append_assoc begun (byte ∷ []) text)
