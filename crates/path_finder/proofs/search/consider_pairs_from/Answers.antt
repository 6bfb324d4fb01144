use Rattle.path_finder.proofs.Prelude.{◌≡◌, refl, sym, ap, subst, ◌∙◌, ◌<◌, [], ◌∷◌, length, get_or, arith, Native}
use Rattle.path_finder.proofs.Prelude.{cost_of, position_in, IsBestBefore}
use Rattle.path_finder.proofs.Steps.{pairs_first, pair_considered, pair_skipped, pairs_last}
use Rattle.path_finder.proofs.search.consider_pairs_from.Goals as goal
use Rattle.path_finder.proofs.search.consider_pairs_from.Goals.{then-not-is_same+in_ok-consider, else-not-is_same}

pub loop-second-init : goal.loop-second-init
loop-second-init g c = record { best = pairs_first _ c.args.candidates.now _ _ c.requires.best; map = refl }

pub loop-second-preserved : goal.loop-second-preserved
loop-second-preserved g c =
    let cost_in = cost_of c.args.ctx.now c.args.query.now in
    let i = c.loop-second.second-index in
    let path = c.args.first.now ∷ get_or c.args.candidates.now i Native ∷ [] in
    let below : i < length c.args.candidates.now = omega (arith, c.loop-second-test.true) in
    elim c.if-not-is_same.branch [
      | then-not-is_same+in_ok-consider w ↦ record {
        best =
            pair_considered (cost_in c.args.entries.now.current) c.args.candidates.now c.requires.once i Native
            below c.args.first.now c.requires.among c.is_same.result c.is_same.ensures.tied w.if-not-is_same.true
            c.loop-second.best c.if-not-is_same.best
            (cost_in c.loop-second.entries.current path) (w.best-is ∙ w.in_ok-consider.ensures.best)
            (ap (λ u. cost_in u.current path) c.loop-second.invariant.map) c.loop-second.invariant.best;
        map = w.entries-is ∙ w.in_ok-consider.ensures.map ∙ c.loop-second.invariant.map;
      }
      | else-not-is_same w ↦ record {
        best =
            pair_skipped (cost_in c.args.entries.now.current) c.args.candidates.now c.requires.once i Native
            below c.args.first.now c.requires.among c.is_same.result c.is_same.ensures.tied w.if-not-is_same.false
            c.if-not-is_same.best
            (subst (λ b. IsBestBefore (cost_in c.args.entries.now.current) c.args.candidates.now
            (2 ∷ position_in c.args.candidates.now c.args.first.now ∷ i ∷ []) b)
            (sym w.best-is) c.loop-second.invariant.best);
        map = w.entries-is ∙ c.loop-second.invariant.map;
      }
    ]

pub returns-clause-best : goal.returns-clause-best
returns-clause-best g c =
    let all : c.loop-second.second-index ≡ length c.args.candidates.now =
    omega (arith, c.loop-second-test.false, c.loop-second.auto.second-index-end) in
    pairs_last _ c.args.candidates.now _ _
    (subst (λ i. IsBestBefore (cost_of c.args.ctx.now c.args.query.now c.args.entries.now.current)
    c.args.candidates.now (2 ∷ position_in c.args.candidates.now c.args.first.now ∷ i ∷ []) c.loop-second.best)
    all c.loop-second.invariant.best)
