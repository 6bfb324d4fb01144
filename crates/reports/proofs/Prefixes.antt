-- Prefixes of texts.
use Rattle.reports.proofs.Prelude.{ℕ, ◌+◌, List, [], ◌++◌, length, refl, sym, ap, ◌∙◌, arith, ◌≡◌, ◌≤◌, ◌<◌, ◌-◌, inl}
use Rattle.reports.proofs.Prelude.{inr, ◌⊎◌, take, drop, leb_tells, length-append, take-append-le, length-take-le}
use Rattle.reports.proofs.Prelude.{take-append-add, take-length, IsPrefix, drop_at}

pub nothing_prefix : (text : List ℕ) → IsPrefix [] text
nothing_prefix text = (0, omega arith, refl)

pub complete_prefix : (text : List ℕ) → IsPrefix text text
complete_prefix text = (length text, omega arith, sym (take-length text))

pub prefix_later : (lines prefix text : List ℕ) → IsPrefix prefix text → IsPrefix (lines ++ prefix) (lines ++ text)
prefix_later lines prefix text (n, le, e) = (
  length lines + n,
  omega (arith, length-append lines text),
  ap (λ (t : List ℕ). lines ++ t) e ∙ sym (take-append-add lines text n),
)

pub prefix_more : (prefix lines text : List ℕ) → IsPrefix prefix lines → IsPrefix prefix (lines ++ text)
prefix_more prefix lines text (n, le, e) =
    (n, omega (arith, length-append lines text), e ∙ sym (take-append-le n lines text le))

pub prefix_short : (prefix text : List ℕ) → IsPrefix prefix text → length prefix ≤ length text
prefix_short prefix text (n, le, e) = omega (arith, le, ap length e, length-take-le n text le)

-- a prefix is all of the text, or shorter
pub complete_or_less : (prefix text : List ℕ) → IsPrefix prefix text → (prefix ≡ text) ⊎ (length prefix < length text)
complete_or_less prefix text (n, le, e) = elim (leb_tells (length text) n) [
  | inl all ↦ let long = all.1 in
      let same : n ≡ length text = omega (arith, long, le) in
      inl (e ∙ ap (λ (k : ℕ). take k text) same ∙ take-length text)
  | inr some ↦ let less = some.1 in inr (omega (arith, less, ap length e, length-take-le n text le))
]

drop_same : (n : ℕ) (a b : List ℕ) → a ≡ b → drop n a ≡ drop n b
drop_same n a b e = ap (drop n) e

prefix_from : (lines prefix text : List ℕ) (n m : ℕ) → n ≡ length lines + m → n ≤ length (lines ++ text)
    → lines ++ prefix ≡ take n (lines ++ text) → IsPrefix prefix text
prefix_from lines prefix text n m same le e =
    let entire : lines ++ prefix ≡ lines ++ take m text =
    e ∙ ap (λ (k : ℕ). take k (lines ++ text)) same ∙ take-append-add lines text m in
    let rest : prefix ≡ take m text =
    sym (drop_at lines prefix (length lines) refl)
    ∙ drop_same (length lines) (lines ++ prefix) (lines ++ take m text) entire
    ∙ drop_at lines (take m text) (length lines) refl in
    (m, omega (arith, le, same, length-append lines text), rest)

-- after the same lines
pub prefix_apart : (lines prefix text : List ℕ) → IsPrefix (lines ++ prefix) (lines ++ text) → IsPrefix prefix text
prefix_apart lines prefix text (n, le, e) =
    let size : length (lines ++ prefix) ≡ n = ap length e ∙ length-take-le n (lines ++ text) le in
    prefix_from lines prefix text n (n - length lines) (omega (arith, size, length-append lines prefix)) le e
