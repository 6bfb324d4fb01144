-- The rule of the book that has the list of views, and what its steps say.
use Rattle.std.specs.Prelude.{ℕ, ◌≡◌, ◌==◌, true, List, [], ◌∷◌, ◌++◌, length, MatchBool}
use Rattle.logbook.specs.Pages.{Cell, Step, View, Book, Named}

-- The first word is the length of the list. A book has two words, of which this one leaves the second at 0.
abbrev pub IsCounted : {S : Type 0} → List Cell → List S → Type 0
IsCounted cells log = cells ≡ (length log, true) ∷ (0, true) ∷ []

abbrev pub count_of : Book → Named
count_of b = record { tracked = true; key = 0; book = b }

-- the view was put after all that had been seen; or the list was longer, and was seen
abbrev pub Appends : {S : Type 0} → Step S → View S ℕ → ℕ → View S ℕ → Type 0
Appends s v found w = MatchBool (found == s.old) (w.0 ≡ v.0 ++ s.ask ∷ []) (length w.0 ≡ found)
