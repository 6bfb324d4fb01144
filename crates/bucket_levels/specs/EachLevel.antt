-- What holds of each level.
use Rattle.std.specs.Prelude.{◌≡◌, ℕ, ◌<◌, List, length, get_or}

-- a list that has, for each level from the first one on, what P says of it
pub record EachLevel {X : Type 0} (none : X) (P : ℕ → X → Type 0) (n : ℕ) (items : List X) : Type 0 where
  pub count : length items ≡ n
  pub levels : (level : ℕ) → level < n → P level (get_or items level none)
