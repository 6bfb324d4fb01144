-- One step of a merge: the least key in hand is taken in.
use Rattle.std.specs.Prelude.{◌≡◌, ◌<◌, ◌+◌, ◌++◌, ℕ, List, [], ◌∷◌, length}
use Rattle.std.specs.declared.cmp.Ordering.{Ordering}
use Rattle.std.specs.declared.cmp.Ordering.TheVariants.{Less, Equal, Greater}
use Rattle.bucket_core.specs.ledger_types.KeyOrder.{key_cmp}
use Rattle.bucket_merge.specs.declared.side.Side.{Side}
use Rattle.bucket_merge.specs.Walk.{Pair, walk}
use Rattle.bucket_merge.specs.Pending.{Has, records_of}

-- how the first keys of two lists compare; a key comes before none
abbrev pub first_key : List Pair → List Pair → Ordering
first_key [] [] = Equal
first_key (x ∷ xs) [] = Less
first_key [] (y ∷ ys) = Greater
first_key (x ∷ xs) (y ∷ ys) = key_cmp x.0 y.0

-- what was written goes on as before, and less is before the merge
pub record Nearer (level : ℕ) (old new : List Pair) (before after : List ℕ) (older newer : Side) : Type 0 where
  pub left_old : List Pair
  pub left_new : List Pair
  pub has_old : Has older left_old
  pub has_new : Has newer left_new
  pub same : after ++ records_of (walk level left_old left_new) ≡ before ++ records_of (walk level old new)
  pub less : length left_old + length left_new < length old + length new
