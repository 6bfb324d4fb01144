-- What files say of one key, the newest first: where one list may replace another.
use Rattle.bucket_levels.proofs.Prelude.{◌≡◌, List, ◌∷◌, Option, Some, None, refl, ◌∙◌, Change, Init, Live, Dead}
use Rattle.bucket_levels.proofs.Prelude.{prepended, entry_by, MayFollow, AreMarkedWell}

-- what holds of a list that replaces another, which is marked well
pub record Represents (old new : List Change) : Type 0 where
  pub well : AreMarkedWell new
  pub entry : entry_by new ≡ entry_by old
  pub carries : (c : Change) → MayFollow c old → MayFollow c new

-- a list may replace another
pub record Replaces (old new : List Change) : Type 0 where
  pub by : AreMarkedWell old → Represents old new

pub itself : (xs : List Change) → Replaces xs xs
itself xs = record { by = λ w. record { well = w; entry = refl; carries = λ c m. m } }

pub in_turn : (xs ys zs : List Change) → Replaces xs ys → Replaces ys zs → Replaces xs zs
in_turn xs ys zs a b = record {
  by = λ w.
      let first = a.by w in
      let second = b.by first.well in
      record {
        well = second.well;
        entry = second.entry ∙ first.entry;
        carries = λ c m. second.carries c (first.carries c m);
      };
}

-- what a change may follow is determined by the newest one
pub on_same_newest : (c d : Change) (xs ys : List Change) → MayFollow c (d ∷ xs) → MayFollow c (d ∷ ys)
on_same_newest (Init e) (Init f) xs ys m = m
on_same_newest (Init e) (Live f) xs ys m = m
on_same_newest (Init e) Dead xs ys m = tt
on_same_newest (Live e) (Init f) xs ys m = tt
on_same_newest (Live e) (Live f) xs ys m = tt
on_same_newest (Live e) Dead xs ys m = m
on_same_newest Dead (Init f) xs ys m = tt
on_same_newest Dead (Live f) xs ys m = tt
on_same_newest Dead Dead xs ys m = m

after_change : (c : Change) (xs ys : List Change) → Replaces xs ys → Replaces (c ∷ xs) (c ∷ ys)
unfolding AreMarkedWell
after_change c xs ys a = record {
  by = λ w.
      let rest = a.by w.1 in
      record {
        well = (rest.carries c w.0, rest.well);
        entry = refl;
        carries = λ d m. on_same_newest d c xs ys m;
      };
}

-- under the same newer change, where there is one
pub after : (o : Option Change) (xs ys : List Change) → Replaces xs ys → Replaces (prepended o xs) (prepended o ys)
after None xs ys a = a
after (Some c) xs ys a = after_change c xs ys a
