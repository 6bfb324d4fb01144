use Rattle.bucket_levels.proofs.Prelude.{List, ap, map, ◌∙◌, LevelPair, LevelsAt, pair_of, list_hash}
use Rattle.bucket_levels.proofs.levels.Levels.hash.Goals as goal

pub returns : goal.returns
returns c =
    c.hash_of_levels.ensures ∙ ap (λ (items : List LevelPair). list_hash (map pair_of items)) c.as_slice.ensures.value
    ∙ ap (λ (l : LevelsAt). list_hash l.pairs) c.self.view_is
