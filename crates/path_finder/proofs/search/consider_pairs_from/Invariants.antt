use Rattle.path_finder.proofs.Prelude.{◌≡◌, [], ◌∷◌, cost_of, position_in, IsBestBefore}
use Rattle.path_finder.proofs.search.consider_pairs_from.Given as goal

abbrev pub invariant-loop-second : goal.invariant-loop-second
invariant-loop-second g l = record {
  best : IsBestBefore (cost_of l.ctx l.query l.fn.entries.current) l.candidates
      (2 ∷ position_in l.candidates l.first ∷ l.second-index ∷ []) l.best;
  map : l.entries ≡ l.fn.entries;
}
