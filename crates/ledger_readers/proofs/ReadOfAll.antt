-- Reads of readers that were told of all.
use Rattle.std.proofs.Common.{◌≡◌, ℕ, List, [], ◌∷◌, ◌++◌, Option, refl, ap, subst, suc, length, take}
use Rattle.std.specs.List.{All, AllZip}
use Rattle.std.proofs.lemmas.List.Elements.{All-cons, All-head, All-nil, All-tail}
use Rattle.std.proofs.Math.Seq.{take-append_seam}
use mathlib.Core.List.{IsPrefix}
use Rattle.ledger_readers.specs.declared.lookup.Read.{Read}
use Rattle.ledger_readers.specs.Views.{IsAnswerOf}
use Rattle.ledger_readers.specs.Reads.{IsToldRead}
use Rattle.ledger_readers.proofs.Prefixes.{prefix_both}

pub zip_push : {A B : Type 0} (R : A → B → Type 0) (xs : List A) (ys : List B) (x : A) (y : B) → AllZip R xs ys → R x y
    → AllZip R (xs ++ x ∷ []) (ys ++ y ∷ [])
zip_push R [] [] x y h r = (r, tt)
zip_push R [] (b ∷ ys) x y h r = absurd h
zip_push R (a ∷ xs) [] x y h r = absurd h
zip_push R (a ∷ xs) (b ∷ ys) x y h r = (h.0, zip_push R xs ys x y h.1 r)

pub zip_length : {A B : Type 0} (R : A → B → Type 0) (xs : List A) (ys : List B) → AllZip R xs ys
    → length ys ≡ length xs
zip_length R [] [] h = refl
zip_length R [] (y ∷ ys) h = absurd h
zip_length R (x ∷ xs) [] h = absurd h
zip_length R (x ∷ xs) (y ∷ ys) h = ap suc (zip_length R xs ys h.1)

-- what holds of a slice that was written back holds of it alone
pub of_written : {X : Type 0} (P : X → Type 0) (count : ℕ) (new rest : List X) → length new ≡ count
    → All P (take count (new ++ rest)) → All P new
of_written P count new rest len all =
    subst (All P) (subst (λ n. take n (new ++ rest) ≡ new) len (take-append_seam new rest)) all

-- a reader that knows no more than all has read the last view of all
module _ {S K E : Type 0} (seq_of : S → ℕ) (finds : S → K → Option E → Type 0) (all : List S) (key : K) where
  abbrev answers : Read E → Type 0
  answers r = IsAnswerOf seq_of finds all key r.number r.seq r.entry

  read_of_all : (known : List S) (r : Read E) → IsToldRead seq_of finds all key known r → IsPrefix known all → answers r
  read_of_all known r h p =
      subst (λ views. IsAnswerOf seq_of finds views key r.number r.seq r.entry) (prefix_both known all p h.told)
      h.answer

  pub reads_of_all : (known : List (List S)) (reads : List (Read E))
      → AllZip (IsToldRead seq_of finds all key) known reads
      → All (λ views. IsPrefix views all) known
      → All (λ r. IsAnswerOf seq_of finds all key r.number r.seq r.entry) reads
  reads_of_all [] [] h each = All-nil answers
  reads_of_all [] (r ∷ reads) h each = absurd h
  reads_of_all (views ∷ known) [] h each = absurd h
  reads_of_all (views ∷ known) (r ∷ reads) h each =
      All-cons answers r reads
      (read_of_all views r h.0 (All-head (λ views. IsPrefix views all) views known each))
      (reads_of_all known reads h.1 (All-tail (λ views. IsPrefix views all) views known each))
