use Rattle.bucket_levels.proofs.Prelude.{ap, arith, ◌∙◌, LevelsAt, pair_at}
use Rattle.bucket_levels.proofs.Planning.{pair_is_at}
use Rattle.bucket_levels.proofs.levels.Levels.pair.Goals as goal

pub returns : goal.returns
returns c =
    pair_is_at c.self.inside.pairs.items c.args.level c.index.result.now
    (omega (arith, c.self.invariant.0)) c.index.ensures
    ∙ ap (λ (l : LevelsAt). pair_at l.pairs c.args.level) c.self.view_is
