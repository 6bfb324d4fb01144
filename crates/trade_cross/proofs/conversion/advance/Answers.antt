use Rattle.trade_cross.proofs.Prelude.{◌≡◌, sym, ◌∙◌, rules, arith}
use Rattle.trade_cross.proofs.Progressed.{ends, limited}
use Rattle.trade_cross.proofs.conversion.advance.Goals as goal

pub returns-in-Ends-clause-advanced : goal.returns-in-Ends-clause-advanced
returns-in-Ends-clause-advanced g c =
    ends c.args.ctx.now.base_reserve c.args.trade.now c.args.progress.now c.args.entries.now.current c.in-Ends.end
    (sym c.in_ok-end.ensures ∙ c.in-Ends.is)

pub returns-in-Meets-clause-advanced : goal.returns-in-Meets-clause-advanced
returns-in-Meets-clause-advanced g c =
    let none : c.args.progress.now.crossings ≡ 0 = search (rules, arith) in
    limited c.args.ctx.now.base_reserve c.args.trade.now c.args.progress.now c.args.entries.now.current _
    (sym c.in_ok-end.ensures ∙ c.in-Meets.is) none
