use Rattle.path_finder.proofs.Prelude.{sym, ap, ◌∙◌, [], cost_of, better}
use Rattle.path_finder.proofs.Steps.{none_considered}
use Rattle.path_finder.proofs.search.consider_all.Goals as goal

pub consider_singles-requires-clause-best : goal.consider_singles-requires-clause-best
consider_singles-requires-clause-best g c =
    let cost_in = cost_of c.args.ctx.now c.args.query.now in
    none_considered (cost_in c.consider.new.entries.current) c.args.candidates.now c.consider.new.best
    (cost_in c.args.entries.now.current [])
    (c.in_ok-consider.ensures.best
    ∙ ap (λ b. better b [] (cost_in c.args.entries.now.current [])) c.requires.none)
    (ap (λ u. cost_in u.current []) (sym c.in_ok-consider.ensures.map))
