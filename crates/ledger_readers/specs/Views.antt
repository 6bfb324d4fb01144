-- Lists of views, and what a read answers.
use Rattle.std.specs.Prelude.{ℕ, ◌≡◌, List, [], ◌∷◌, ◌++◌, length, Option, Some, None}
use Rattle.std.specs.List.{last_or}

-- the last of these views, where there is such a list, and else the view x
abbrev pub last_or_else : {S : Type 0} → Option (List S) → S → Option S
last_or_else None x = Some x
last_or_else (Some views) x = last_or None views

-- the answer (number, seq, entry) at a key is that of the last of these views, which stands at that number of the list
pub record IsAnswerOf {S K E : Type 0} (seq_of : S → ℕ) (finds : S → K → Option E → Type 0) (views : List S) (key : K)
    (number seq : ℕ) (entry : Option E) : Type 0 where
  pub before : List S
  pub view : S
  pub last : views ≡ before ++ view ∷ []
  pub number_is : number ≡ length before
  pub seq_is : seq ≡ seq_of view
  pub entry_is : finds view key entry
