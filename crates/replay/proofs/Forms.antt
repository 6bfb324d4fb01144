-- Whether an epoch may hold a record, by the record's first word.
use Rattle.replay.proofs.Prelude.{◌≡◌, ℕ, List, Bool, true, false, Ok, Err, ◌⊎◌, inl, inr, refl, sym, ap, ◌∙◌}
use Rattle.replay.proofs.Prelude.{XdrFault, Position, Reading, start_of, MayHold}
use Rattle.std.specs.Prelude.{nat_eq}
use Rattle.std.proofs.lemmas.Bool.{eqb-true}
use Rattle.std.proofs.lemmas.Bool.Decides.{eqb_tells}
use Rattle.xdr_core.specs.Leaves.{u32}
use Rattle.xdr_header.specs.Records.{form_2}
use Rattle.stored_outcome.specs.Opening.{IsOfForm2}

abbrev read_word : ℕ → Reading XdrFault ℕ → ℕ
read_word none (Ok x) = x.0
read_word none (Err wrong) = none

same_word : (word other : ℕ) (p q : Position) (r : Reading XdrFault ℕ) → r ≡ Ok (word, p) → r ≡ Ok (other, q)
    → word ≡ other
same_word word other p q r a b = ap (read_word 0) (sym a ∙ b)

-- a first word says whether a record is of form 2
abbrev pub IsToldBy : (bytes : List ℕ) → (word : ℕ) → Type 0
IsToldBy bytes word = (nat_eq word form_2 ≡ true → IsOfForm2 bytes) × (IsOfForm2 bytes → nat_eq word form_2 ≡ true)

pub by_word : (bytes : List ℕ) (word : ℕ) (after : Position) → u32.read (start_of bytes) ≡ Ok (word, after)
    → IsToldBy bytes word
by_word bytes word after is = (
  λ test. (after, is ∙ ap (λ (w : ℕ). Ok (w, after)) (eqb-true word form_2 test)),
  λ form. elim (eqb_tells word form_2) [
    | inl both ↦ both.0
    | inr both ↦ absurd (both.1 (same_word word form_2 after form.0 (u32.read (start_of bytes)) is form.1))
  ],
)

-- ---- every record

abbrev IsOfForm2InFirst : (format : ℕ) → List ℕ → Type 0
IsOfForm2InFirst format bytes = (format ≡ 1) × IsOfForm2 bytes

in_first : (format : ℕ) (bytes : List ℕ) → format ≡ 1 → (r : Reading XdrFault ℕ) → u32.read (start_of bytes) ≡ r
    → MayHold format bytes ⊎ IsOfForm2InFirst format bytes
in_first format bytes first (Err wrong) is = inl (λ x form. no_word wrong form.0 (sym is ∙ form.1))
  where
    no_word : (wrong : XdrFault) (q : Position) → ◌≡◌ {A = Reading XdrFault ℕ} (Err wrong) (Ok (form_2, q)) → ⊥
    no_word wrong q same = absurd (cc)
in_first format bytes first (Ok (word, after)) is = elim (eqb_tells word form_2) [
  | inl both ↦ inr (first, (after, is ∙ ap (λ (w : ℕ). Ok (w, after)) both.1))
  | inr both ↦ inl (λ x form. both.1 (same_word word form_2 after form.0 (u32.read (start_of bytes)) is form.1))
]

pub may_hold_or : (format : ℕ) (bytes : List ℕ) → MayHold format bytes ⊎ IsOfForm2InFirst format bytes
may_hold_or format bytes = elim (eqb_tells format 1) [
  | inl both ↦ in_first format bytes both.1 (u32.read (start_of bytes)) refl
  | inr both ↦ inl (λ first form. both.1 first)
]

-- ---- tests

pub never_both : (test : Bool) → test ≡ false → test ≡ true → ⊥
never_both test is_false is_true = absurd (cc)
