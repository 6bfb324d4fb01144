-- Stray records among those that are read.
use Rattle.archive_files.proofs.Prelude.{AreInPlace, AreKept, AreNumbersOf, AreRising, AreScreenedTo, Bool, HasStray}
use Rattle.archive_files.proofs.Prelude.{HeaderFact, IsAbove, List, None, Option, RecordFact, Some, [], ap, false, inl}
use Rattle.archive_files.proofs.Prelude.{inr, refl, subst, sym, true, ℕ, ◌++◌, ◌∙◌, ◌∷◌, ◌≡◌}
use Rattle.std.specs.Option.{is_some}
use Rattle.archive_files.specs.Chain.{IsInPlace}
use Rattle.archive_files.specs.Screening.{IsNumberInPlace, last_number}

-- a number in place, by the headers' numbers in ascending order
pub in_place : (sorted : List ℕ) (heads : List HeaderFact) (before : Option ℕ) (r : RecordFact)
    → AreNumbersOf sorted heads → IsNumberInPlace sorted before r.seq → IsInPlace heads before r
in_place sorted heads before r are h = record { above = h.0; of = (are.same r.seq).0 h.1 }

pub place_of : (sorted : List ℕ) (heads : List HeaderFact) (before : Option ℕ) (r : RecordFact)
    → AreNumbersOf sorted heads → IsInPlace heads before r → IsNumberInPlace sorted before r.seq
place_of sorted heads before r are h = (h.above, (are.same r.seq).1 h.of)

-- ---- records that rise

pub rising_of : (heads : List HeaderFact) (before : Option ℕ) (rs : List RecordFact) → AreInPlace heads before rs
    → AreRising before rs
rising_of heads before [] h = tt
rising_of heads before (r ∷ rs) h = (h.0.above, rising_of heads (Some r.seq) rs h.1)

rising_more : (before : Option ℕ) (rs : List RecordFact) (r : RecordFact) → AreRising before rs
    → IsAbove (last_number before rs) r.seq → AreRising before (rs ++ r ∷ [])
rising_more before [] r are is = (is, tt)
rising_more before (s ∷ rs) r are is = (are.0, rising_more (Some s.seq) rs r are.1 is)

last_more : (before : Option ℕ) (rs : List RecordFact) (r : RecordFact) → last_number before (rs ++ r ∷ []) ≡ Some r.seq
last_more before [] r = refl
last_more before (s ∷ rs) r = last_more (Some s.seq) rs r

pub kept_more : (kept : List RecordFact) (last : Option ℕ) (r : RecordFact) (now : List RecordFact)
    → now ≡ kept ++ r ∷ [] → AreKept kept last → IsAbove last r.seq → AreKept now (Some r.seq)
kept_more kept last r now is h above =
    subst (λ l. AreKept l (Some r.seq)) (sym is) (record {
      rising = rising_more None kept r h.rising (subst (λ b. IsAbove b r.seq) h.last_one above);
      last_one = sym (last_more None kept r);
    })

-- ---- stray records

place_more : (heads : List HeaderFact) (before : Option ℕ) (rs : List RecordFact) (r : RecordFact)
    → AreInPlace heads before rs → IsInPlace heads (last_number before rs) r → AreInPlace heads before (rs ++ r ∷ [])
place_more heads before [] r are is = (is, tt)
place_more heads before (s ∷ rs) r are is = (are.0, place_more heads (Some s.seq) rs r are.1 is)

first_stray : (heads : List HeaderFact) (before : Option ℕ) (rs : List RecordFact) (r : RecordFact)
    → AreInPlace heads before rs → (IsInPlace heads (last_number before rs) r → ⊥)
    → HasStray heads before (rs ++ r ∷ []) r.at
first_stray heads before [] r are not = inl (not, refl)
first_stray heads before (s ∷ rs) r are not = inr (are.0, first_stray heads (Some s.seq) rs r are.1 not)

stray_more : (heads : List HeaderFact) (before : Option ℕ) (rs : List RecordFact) (r : RecordFact) (at : ℕ)
    → HasStray heads before rs at → HasStray heads before (rs ++ r ∷ []) at
stray_more heads before [] r at h = absurd h
stray_more heads before (s ∷ rs) r at (inl h) = inl h
stray_more heads before (s ∷ rs) r at (inr h) = inr (h.0, stray_more heads (Some s.seq) rs r at h.1)

-- the last of those kept is the last of all
last_of_all : (all kept : List RecordFact) (last : Option ℕ) → AreKept kept last → kept ≡ all
    → last ≡ last_number None all
last_of_all all kept last k is = k.last_one ∙ ap (last_number None) is

pub screened_place : (heads : List HeaderFact) (all kept : List RecordFact) (last : Option ℕ) (r : RecordFact)
    (now : List RecordFact) → now ≡ kept ++ r ∷ [] → AreKept kept last → AreScreenedTo heads all kept None
    → IsInPlace heads last r → AreScreenedTo heads (all ++ r ∷ []) now None
screened_place heads all kept last r now is k h there = (
  is ∙ ap (λ l. l ++ r ∷ []) h.0,
  place_more heads None all r h.1 (subst (λ b. IsInPlace heads b r) (last_of_all all kept last k h.0) there),
)

pub screened_stray : (heads : List HeaderFact) (all kept : List RecordFact) (last : Option ℕ) (r : RecordFact)
    → AreKept kept last → AreScreenedTo heads all kept None → (IsInPlace heads last r → ⊥)
    → HasStray heads None (all ++ r ∷ []) r.at
screened_stray heads all kept last r k h not =
    first_stray heads None all r h.1
    (λ there. not (subst (λ b. IsInPlace heads b r) (sym (last_of_all all kept last k h.0)) there))

-- after a stray record nothing changes
pub screened_still : (heads : List HeaderFact) (all kept : List RecordFact) (stray : Option ℕ) (r : RecordFact)
    (test : Bool) → test ≡ is_some stray → test ≡ true → AreScreenedTo heads all kept stray
    → AreScreenedTo heads (all ++ r ∷ []) kept stray
screened_still heads all kept None r test is holds h = absurd (cc)
screened_still heads all kept (Some at) r test is holds h = stray_more heads None all r at h

pub none_yet : (stray : Option ℕ) (test : Bool) → test ≡ is_some stray → test ≡ false → stray ≡ None
none_yet None test is fails = refl
none_yet (Some at) test is fails = absurd (cc)
