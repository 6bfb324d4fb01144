-- The middle of a text.
use Rattle.std.specs.Prelude.{ℕ, ◌-◌, List, length, take, drop}

-- the bytes after the first ones and before the last four
abbrev pub middle : ℕ → List ℕ → List ℕ
middle start text = drop start (take (length text - 4) text)
