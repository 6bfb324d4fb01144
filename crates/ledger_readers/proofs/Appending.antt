-- The exchange that puts a view at the end keeps the rule.
use Rattle.std.proofs.Common.{◌≡◌, ℕ, ◌+◌, ◌<◌, ◌==◌, Bool, true, false, List, [], ◌∷◌, ◌++◌, length, refl, ap, sym}
use Rattle.std.proofs.Common.{subst, arith, inl, length-append, None}
use Rattle.std.proofs.lemmas.List.{append-nil}
use Rattle.std.proofs.lemmas.Bool.Decides.{nat_tests}
use mathlib.Core.List.{IsPrefix}
use prog.Atomic.{either}
use Rattle.logbook.specs.Pages.{Cell, cell, keeps, no_nib, step, Moves, Goes}
use Rattle.ledger_readers.specs.Rules.{IsCounted, Appends}
use Rattle.ledger_readers.proofs.Prefixes.{prefix_entire}

module _ {S : Type 0} where
  abbrev pub shown : List S → List S
  shown log = []

  abbrev pub moved : List S → List S → ℕ → Type 0
  moved xs ys n = Unit {0}

  pub appends_goes : (log v : List S) (e : S) (old new : ℕ) → length v ≡ old → new ≡ old + 1 → IsPrefix v log
      → (b : Bool) → (length log == old) ≡ b
      → Goes IsCounted shown moved 0 (v, (no_nib, None)) (λ n. either (n == old) new n)
      (Appends (step 0 old new e) (v, (no_nib, None))) ((length log, true) ∷ (0, true) ∷ []) log
  appends_goes log v e old new len next pre true is =
      let here : length log ≡ old = grind (arith, nat_tests) in
      let same : v ≡ log = prefix_entire v log pre (omega arith) in
      let n : either (length log == old) new (length log) ≡ length (log ++ e ∷ []) =
      rw is (omega (arith, length-append log (e ∷ []))) in (
        keeps,
        e ∷ [],
        None,
        tt,
        ap (λ (k : ℕ). (k, true) ∷ (0, true) ∷ []) n,
        inl (refl, refl),
        rw is (ap (λ w. w ++ e ∷ []) (sym same)),
      )
  appends_goes log v e old new len next pre false is =
      let all : log ++ [] ≡ log = append-nil log in
      let n : either (length log == old) new (length log) ≡ length (log ++ []) = rw is (ap length (sym all)) in (
        keeps,
        [],
        None,
        tt,
        ap (λ (k : ℕ). (k, true) ∷ (0, true) ∷ []) n,
        inl (refl, refl),
        rw is (ap length all),
      )

  -- whatever the book is, the exchange puts the view after all that was seen, or finds that the list is longer
  pub appends_moves : (v : List S) (e : S) (old new : ℕ) → length v ≡ old → new ≡ old + 1
      → Moves IsCounted shown moved 0 (v, (no_nib, None)) (λ n. either (n == old) new n)
      (Appends (step 0 old new e) (v, (no_nib, None)))
  appends_moves v e old new len next cs log kept pre away =
      let P : List Cell → Type 0 = λ c. (0 < length c) × ((cell c 0).1 ≡ true)
      × Goes IsCounted shown moved 0 (v, (no_nib, None)) (λ n. either (n == old) new n)
      (Appends (step 0 old new e) (v, (no_nib, None))) c log in
      subst P (sym kept) (omega arith, refl, appends_goes log v e old new len next pre (length log == old) refl)
