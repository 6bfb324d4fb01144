-- The cheapest path.
use Rattle.std.specs.Prelude.{◌≡◌, ◌≤◌, ℕ, ℤ, ◌≤ℤ◌, List, ◌∷◌, map, length, Contains, Bool, false, Option, Some, None}
use Rattle.std.specs.List.{AllByRecursion, IsDistinct, position_or_len}
use Rattle.std.specs.Ordering.{nat_cmp, is_lt}
use Rattle.std.specs.Cmp.Lexicographic.{slice_cmp}
use Rattle.ledger_types.specs.declared.asset.Asset.{Asset}
use Rattle.op_payment.specs.Paths.{is_same_asset}
use Rattle.path_finder.specs.declared.query.Found.{Found}

-- at most two distinct candidates
pub record IsPath (candidates path : List Asset) : Type 0 where
  pub short : length path ≤ 2
  pub once : IsDistinct is_same_asset path
  pub among : AllByRecursion (Contains candidates) path

-- ---- the order of paths that cost the same

-- the position of an asset among the candidates
abbrev pub position_in : (candidates : List Asset) → Asset → ℕ
position_in candidates asset = position_or_len (is_same_asset asset) candidates

-- how many assets a path has, and then the position of each
abbrev pub sort_key : (candidates path : List Asset) → List ℕ
sort_key candidates path = length path ∷ map (position_in candidates) path

-- the first number in which two keys differ decides
abbrev pub is_less : List ℕ → List ℕ → Bool
is_less a b = is_lt (slice_cmp nat_cmp a b)

-- ---- the cheapest

module _ (cost_of : List Asset → Option ℤ) (candidates : List Asset) (Among : List Asset → Type 0) where
  -- It costs what it says, and none of these costs less; of those that cost the same none is shorter, and none of its
  -- length has earlier candidates.
  pub record IsCheapest (found : Found) : Type 0 where
    pub among : Among found.path
    pub costs : cost_of found.path ≡ Some found.cost
    pub least : (other : List Asset) (its_cost : ℤ) → Among other → cost_of other ≡ Some its_cost
        → found.cost ≤ℤ its_cost
    pub first : (other : List Asset) → Among other → cost_of other ≡ Some found.cost
        → is_less (sort_key candidates other) (sort_key candidates found.path) ≡ false

  -- the cheapest one, or that none has a cost
  abbrev pub IsCheapestOrNone : Option Found → Type 0
  IsCheapestOrNone (Some found) = IsCheapest found
  IsCheapestOrNone None = (other : List Asset) → Among other → cost_of other ≡ None

-- among all paths
abbrev pub IsCheapestPath : (List Asset → Option ℤ) → (candidates : List Asset) → Option Found → Type 0
IsCheapestPath cost_of candidates found = IsCheapestOrNone cost_of candidates (IsPath candidates) found

-- at most one path is the cheapest
abbrev pub CheapestPathsAreOne : Type 0
CheapestPathsAreOne = (cost_of : List Asset → Option ℤ) (candidates : List Asset) (one other : Option Found)
    → IsCheapestPath cost_of candidates one → IsCheapestPath cost_of candidates other → one ≡ other
