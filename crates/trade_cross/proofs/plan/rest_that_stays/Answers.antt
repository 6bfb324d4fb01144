use Rattle.trade_cross.proofs.Prelude.{rules}
use Rattle.trade_cross.proofs.plan.rest_that_stays.Goals as goal

pub returns : goal.returns
returns c =
    let adjusted = c.adjust.ensures.value in
    let lesser = c.lesser.ensures.value in
    let less = c.less.ensures.value in
    let gives = c.still-gives.ensures.value in
    let takes = c.still-takes.ensures.value in
    search (rules, adjusted, lesser, less, gives, takes)
