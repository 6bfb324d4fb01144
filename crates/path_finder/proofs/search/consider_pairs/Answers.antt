use Rattle.path_finder.proofs.Prelude.{◌≡◌, refl, sym, subst, ◌∙◌, ◌+◌, [], ◌∷◌, length, get_or, arith, Native}
use Rattle.path_finder.proofs.Prelude.{cost_of, position_in, IsBestBefore}
use Rattle.path_finder.proofs.Steps.{all_first, is_at, all_last}
use Rattle.path_finder.proofs.search.consider_pairs.Goals as goal

pub loop-first-init : goal.loop-first-init
loop-first-init g c = record { best = all_first _ c.args.candidates.now _ c.requires.best; map = refl }

pub consider_pairs_from-requires-clause-best : goal.consider_pairs_from-requires-clause-best
consider_pairs_from-requires-clause-best g c =
    let cost_in = cost_of c.args.ctx.now c.args.query.now in
    let candidates = c.args.candidates.now in
    let i = c.loop-first.first-index in
    let at = is_at (cost_in c.args.entries.now.current) candidates c.requires.once i Native
    (omega (arith, c.loop-first-test.true)) in
    subst (λ n. IsBestBefore (cost_in c.loop-first.entries.current) candidates (2 ∷ n ∷ [])
    c.loop-first.best) (sym at)
    (subst (λ u. IsBestBefore (cost_in u.current) candidates (2 ∷ i ∷ []) c.loop-first.best)
    (sym c.loop-first.invariant.map) c.loop-first.invariant.best)

pub loop-first-preserved : goal.loop-first-preserved
loop-first-preserved g c =
    let cost_in = cost_of c.args.ctx.now c.args.query.now in
    let candidates = c.args.candidates.now in
    let i = c.loop-first.first-index in
    let at = is_at (cost_in c.args.entries.now.current) candidates c.requires.once i Native
    (omega (arith, c.loop-first-test.true)) in
    record {
      best =
          subst (λ n. IsBestBefore (cost_in c.args.entries.now.current) candidates (2 ∷ (n + 1) ∷ [])
          c.consider_pairs_from.new.best) at
          (subst (λ u. IsBestBefore (cost_in u.current) candidates
          (2 ∷ (position_in candidates (get_or candidates i Native) + 1) ∷ []) c.consider_pairs_from.new.best)
          c.loop-first.invariant.map c.in_ok-consider_pairs_from.ensures.best);
      map = c.in_ok-consider_pairs_from.ensures.map ∙ c.loop-first.invariant.map;
    }

pub returns-clause-best : goal.returns-clause-best
returns-clause-best g c =
    let all : c.loop-first.first-index ≡ length c.args.candidates.now =
    omega (arith, c.loop-first-test.false, c.loop-first.auto.first-index-end) in
    all_last _ c.args.candidates.now _
    (subst (λ i. IsBestBefore (cost_of c.args.ctx.now c.args.query.now c.args.entries.now.current)
    c.args.candidates.now (2 ∷ i ∷ []) c.loop-first.best)
    all c.loop-first.invariant.best)
