-- Trees, and the rows that they are.
use Rattle.std.specs.Prelude.{◌≡◌, ℕ, ◌++◌, List, [], ◌∷◌, length, Option, Some, None}
use Rattle.shared_tree.specs.declared.tree.Fork.{Fork}
use Rattle.shared_tree.specs.declared.tree.Top.{Top}
use Rattle.shared_tree.specs.declared.tree.Top.TheVariants.{Empty, Full}

module _ {K V : Type 0} where
  abbrev pub row_in : Top K V → List (K × V)
  row_in Empty = []
  row_in (Full fork) = fork.value.before ++ fork.value.kept ∷ fork.value.after

  -- the row of what is on top
  abbrev pub parts_of : Option (Fork K V) → List (K × V)
  parts_of None = []
  parts_of (Some fork) = fork.before ++ fork.kept ∷ fork.after

  abbrev pub len_in : Top K V → ℕ
  len_in Empty = 0
  len_in (Full fork) = fork.value.len

  -- a tree has the count of its entries
  abbrev pub IsCounted : Top K V → Type 0
  IsCounted top = len_in top ≡ length (row_in top)
