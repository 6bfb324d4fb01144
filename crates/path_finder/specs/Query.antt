-- When a query is answered, and by which assets the payment may go.
use Rattle.std.specs.Prelude.{◌≡◌, ◌<◌, ◌≤◌, ℕ, pos, int_le, not, List, [], ◌∷◌, map, position, length, filter}
use Rattle.std.specs.Prelude.{Bool, Option, Some, None, Result, Ok, Err}
use Rattle.ledger_types.specs.declared.asset.Asset.{Asset}
use Rattle.valid_values.specs.Assets.{is_valid_asset}
use Rattle.op_payment.specs.Paths.{is_same_asset}
use Rattle.path_finder.specs.declared.query.PathQuery.{PathQuery}
use Rattle.path_finder.specs.declared.query.PathFault.{PathFault}
use Rattle.path_finder.specs.declared.query.PathFault.TheVariants.{BadQuery, TooMany, NoMemory}

-- ---- the candidates

-- each asset once, at its first position
abbrev pub distinct : List Asset → List Asset
distinct [] = []
distinct (asset ∷ assets) = asset ∷ filter (λ other. not (is_same_asset asset other)) (distinct assets)

-- the assets by which a payment may go
abbrev pub candidates_of : PathQuery → List Asset
candidates_of query = distinct query.candidates

abbrev pub max_candidates : ℕ
max_candidates = 12

-- ---- faults

-- whether each part is invalid, in the order in which they are judged: send, dest, the amount, and each candidate
abbrev pub invalid_parts : PathQuery → List Bool
invalid_parts query =
    not (is_valid_asset query.send) ∷ not (is_valid_asset query.dest) ∷ int_le query.amount (pos 0)
    ∷ map (λ asset. not (is_valid_asset asset)) query.candidates

-- the first part that is
abbrev pub bad_index : PathQuery → Option ℕ
bad_index query = position (λ is_invalid. is_invalid) (invalid_parts query)

-- the first candidate that is
abbrev pub bad_candidate : List Asset → Option ℕ
bad_candidate candidates = position (λ asset. not (is_valid_asset asset)) candidates

-- Why a query isn't answered, or that nothing is wrong with it. It is judged before memory is asked for.
abbrev pub IsJudged : {X : Type 0} → Result X PathFault → PathQuery → Type 0
IsJudged (Err (BadQuery index)) query = bad_index query ≡ Some index
IsJudged (Err (TooMany given)) query =
    (bad_index query ≡ None) × (given ≡ length (candidates_of query)) × (max_candidates < given)
IsJudged (Err NoMemory) query = bad_index query ≡ None
IsJudged (Ok answer) query = (bad_index query ≡ None) × (length (candidates_of query) ≤ max_candidates)

-- a fact that holds but where memory was refused
abbrev pub UnlessNoMemory : {X : Type 0} → Result X PathFault → Type 0 → Type 0
UnlessNoMemory (Err NoMemory) fact = Unit {0}
UnlessNoMemory result fact = fact
