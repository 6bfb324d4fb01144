-- How far the search has come.
use Rattle.std.specs.Prelude.{◌≡◌, ℕ, ℤ, int_lt, List, Bool, true, Option, Some, None, if◌then◌else◌}
use Rattle.ledger_types.specs.declared.asset.Asset.{Asset}
use Rattle.path_finder.specs.declared.query.Found.{Found}
use Rattle.path_finder.specs.Cheapest.{IsPath, is_less, sort_key, IsCheapestOrNone}

abbrev pub is_cheaper : ℤ → Option Found → Bool
is_cheaper cost None = true
is_cheaper cost (Some found) = int_lt cost found.cost

-- one more path is considered
abbrev pub better : Option Found → List Asset → Option ℤ → Option Found
better best path None = best
better best path (Some cost) = if is_cheaper cost best then Some (record { path = path; cost = cost }) else best

-- a path whose key is below this one
abbrev pub IsPathBefore : List Asset → (limit : List ℕ) → List Asset → Type 0
IsPathBefore candidates limit path = IsPath candidates path × (is_less (sort_key candidates path) limit ≡ true)

-- the cheapest of those
abbrev pub IsBestBefore : (List Asset → Option ℤ) → List Asset → (limit : List ℕ) → Option Found → Type 0
IsBestBefore cost_of candidates limit best = IsCheapestOrNone cost_of candidates (IsPathBefore candidates limit) best
