-- Prefixes of one list.
use Rattle.std.proofs.Common.{◌≡◌, ℕ, ◌+◌, ◌-◌, ◌<◌, ◌≤◌, Bool, true, false, leb, List, [], ◌∷◌, ◌++◌, length, Some}
use Rattle.std.proofs.Common.{None, refl, ap, sym, ◌∙◌, arith, length-append, append_assoc}
use Rattle.std.specs.List.{last_or}
use Rattle.std.specs.Prelude.{Option, MatchBool}
use Rattle.std.proofs.lemmas.Bool.Decides.{nat_tests}
use Rattle.ledger_readers.specs.Views.{IsAnswerOf}
use mathlib.Core.List.{IsPrefix}

-- of two prefixes of one list the shorter is a prefix of the longer
pub prefix_shorter : {A : Type 0} (xs ys zs : List A) → IsPrefix xs zs → IsPrefix ys zs → length xs ≤ length ys
    → IsPrefix xs ys
prefix_shorter [] ys zs p q le = (ys, refl)
prefix_shorter (x ∷ xs) [] zs p q le = absurd (omega arith)
prefix_shorter (x ∷ xs) (y ∷ ys) [] p q le = absurd (cc (p.1))
prefix_shorter (x ∷ xs) (y ∷ ys) (z ∷ zs) p q le =
    let heads : x ≡ y = cc (p.1, q.1) in
    let rest = prefix_shorter xs ys zs (p.0, cc (p.1)) (q.0, cc (q.1)) (omega arith) in
    (rest.0, cc (heads, rest.1))

-- a prefix as long as the entire list is that list
pub prefix_entire : {A : Type 0} (xs ys : List A) → IsPrefix xs ys → length ys ≤ length xs → xs ≡ ys
prefix_entire [] [] p le = refl
prefix_entire [] (y ∷ ys) p le = absurd (omega arith)
prefix_entire (x ∷ xs) [] p le = absurd (cc (p.1))
prefix_entire (x ∷ xs) (y ∷ ys) p le =
    let rest = prefix_entire xs ys (p.0, cc (p.1)) (omega arith) in cc (p.1, rest)

pub prefix_length : {A : Type 0} (xs ys : List A) → IsPrefix xs ys → length xs ≤ length ys
prefix_length xs ys p = omega (arith, sym (ap length p.1) ∙ length-append xs p.0)

-- two lists that begin each other are one
pub prefix_both : {A : Type 0} (xs ys : List A) → IsPrefix xs ys → IsPrefix ys xs → xs ≡ ys
prefix_both xs ys p q = prefix_entire xs ys p (prefix_length ys xs q)

-- the last item of a list with x at its end is x
pub last_or_snoc : {A : Type 0} (o : Option A) (xs : List A) (x : A) → last_or o (xs ++ x ∷ []) ≡ Some x
last_or_snoc o [] x = refl
last_or_snoc o (y ∷ ys) x = last_or_snoc (Some y) ys x

-- of two prefixes of one list, as long as these numbers say, the one that isn't longer is a prefix of the other
pub which_is_prefix : {A : Type 0} (xs ys zs : List A) (m n : ℕ) → m ≡ length xs → n ≡ length ys → IsPrefix xs zs
    → IsPrefix ys zs → (b : Bool) → leb m n ≡ b → MatchBool b (IsPrefix xs ys) (IsPrefix ys xs)
which_is_prefix xs ys zs m n x y p q true is =
    let le : m ≤ n = grind (arith, nat_tests) in prefix_shorter xs ys zs p q (omega arith)
which_is_prefix xs ys zs m n x y p q false is =
    let lt : n < m = grind (arith, nat_tests) in prefix_shorter ys xs zs q p (omega arith)

one_more_by : {A : Type 0} (xs ys rest : List A) (x : A) → xs ++ rest ≡ ys → length ys ≡ length xs + 1
    → last_or None ys ≡ Some x → ys ≡ xs ++ x ∷ []
one_more_by xs ys [] x e len last = absurd (omega (arith, ap length e, length-append xs []))
one_more_by xs ys (y ∷ []) x e len last =
    let same : Some y ≡ Some x = sym (last_or_snoc None xs y) ∙ (ap (last_or None) e ∙ last) in
    let item : y ≡ x = cc same in
    sym e ∙ ap (λ z. xs ++ z ∷ []) item
one_more_by xs ys (y ∷ z ∷ zs) x e len last =
    absurd (omega (arith, ap length e, length-append xs (y ∷ z ∷ zs)))

-- a list that is one item longer than a prefix of it, and ends with x
pub one_more : {A : Type 0} (xs ys : List A) (x : A) → IsPrefix xs ys → length ys ≡ length xs + 1
    → last_or None ys ≡ Some x → ys ≡ xs ++ x ∷ []
one_more xs ys x p len last = one_more_by xs ys p.0 x p.1 len last

ends : {A : Type 0} (xs : List A) (x : A) → last_or None xs ≡ Some x → (init : List A) × (xs ≡ init ++ x ∷ [])
ends [] x e = absurd (cc e)
ends (y ∷ []) x e = ([], cc e)
ends (y ∷ z ∷ zs) x e = let r = ends (z ∷ zs) x e in (y ∷ r.0, ap (λ l. y ∷ l) r.1)

-- the answer of the last view
pub answer_of : {S K E : Type 0} (seq_of : S → ℕ) (finds : S → K → Option E → Type 0) (views : List S) (key : K)
    (view : S) (number seq : ℕ) (entry : Option E) → last_or None views ≡ Some view → number ≡ length views - 1
    → seq ≡ seq_of view → finds view key entry → IsAnswerOf seq_of finds views key number seq entry
answer_of seq_of finds views key view number seq entry last len is found =
    let e = ends views view last in
    record {
      before = e.0;
      view = view;
      last = e.1;
      number_is = omega (arith, ap length e.1, length-append e.0 (view ∷ []));
      seq_is = is;
      entry_is = found;
    }
