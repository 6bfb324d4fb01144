use Rattle.indexmap.specs.IndexSet.{insert_all}
use Rattle.path_finder.proofs.Prelude.{◌≡◌, [], map, drop, is_same_asset}
use Rattle.path_finder.proofs.candidates.distinct.Given as goal

abbrev pub invariant-loop-asset : goal.invariant-loop-asset
invariant-loop-asset l =
    insert_all is_same_asset (map (λ candidate. candidate.0) l.kept.keys) (drop l.asset-index l.assets)
    ≡ insert_all is_same_asset [] l.assets
