use Rattle.path_finder.proofs.Prelude.{◌≡◌, refl, ap, subst, ◌∙◌, [], ◌∷◌, length, get_or, arith, Native, cost_of}
use Rattle.path_finder.proofs.Prelude.{IsBestBefore}
use Rattle.path_finder.proofs.Steps.{singles_first, single_considered, singles_last}
use Rattle.path_finder.proofs.search.consider_singles.Goals as goal

pub loop-asset-init : goal.loop-asset-init
loop-asset-init g c = record { best = singles_first _ c.args.candidates.now _ c.requires.best; map = refl }

pub loop-asset-preserved : goal.loop-asset-preserved
loop-asset-preserved g c =
    let cost_in = cost_of c.args.ctx.now c.args.query.now in
    let i = c.loop-asset.asset-index in
    let path = get_or c.args.candidates.now i Native ∷ [] in
    record {
      best =
          single_considered (cost_in c.args.entries.now.current) c.args.candidates.now c.requires.once i Native
          (omega (arith, c.loop-asset-test.true)) c.loop-asset.best c.consider.new.best
          (cost_in c.loop-asset.entries.current path) c.in_ok-consider.ensures.best
          (ap (λ u. cost_in u.current path) c.loop-asset.invariant.map) c.loop-asset.invariant.best;
      map = c.in_ok-consider.ensures.map ∙ c.loop-asset.invariant.map;
    }

pub returns-clause-best : goal.returns-clause-best
returns-clause-best g c =
    let all : c.loop-asset.asset-index ≡ length c.args.candidates.now =
    omega (arith, c.loop-asset-test.false, c.loop-asset.auto.asset-index-end) in
    singles_last _ c.args.candidates.now _
    (subst (λ i. IsBestBefore (cost_of c.args.ctx.now c.args.query.now c.args.entries.now.current)
    c.args.candidates.now (1 ∷ i ∷ []) c.loop-asset.best)
    all c.loop-asset.invariant.best)
