use Rattle.path_finder.proofs.Prelude.{◌≡◌, [], ◌∷◌, cost_of, IsBestBefore}
use Rattle.path_finder.proofs.search.consider_pairs.Given as goal

abbrev pub invariant-loop-first : goal.invariant-loop-first
invariant-loop-first g l = record {
  best : IsBestBefore (cost_of l.ctx l.query l.fn.entries.current) l.candidates (2 ∷ l.first-index ∷ []) l.best;
  map : l.entries ≡ l.fn.entries;
}
