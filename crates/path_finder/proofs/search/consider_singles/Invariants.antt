use Rattle.path_finder.proofs.Prelude.{◌≡◌, [], ◌∷◌, cost_of, IsBestBefore}
use Rattle.path_finder.proofs.search.consider_singles.Given as goal

abbrev pub invariant-loop-asset : goal.invariant-loop-asset
invariant-loop-asset g l = record {
  best : IsBestBefore (cost_of l.ctx l.query l.fn.entries.current) l.candidates (1 ∷ l.asset-index ∷ []) l.best;
  map : l.entries ≡ l.fn.entries;
}
