use Rattle.trade_cross.proofs.Prelude.{sym, ◌∙◌, sheep_reserve, wheat_reserve, pool_of_pair}
use Rattle.trade_cross.proofs.PoolsLegal.{pool_legal, pool_loaded}
use Rattle.trade_cross.proofs.PoolSwaps.{none_reported, some_shown, no_pair, of_pair}
use Rattle.trade_cross.proofs.pool_swap.serving_of.Goals as goal

pub returns-then-not-has_pair : goal.returns-then-not-has_pair
returns-then-not-has_pair g c =
    no_pair c.args.ctx.now c.args.trade.now c.args.entries.now.current c.requires.enabled c.args.slot.pool
    (pool_loaded c.args.entries.now.current (pool_of_pair c.args.trade.now) c.args.slot c.requires.loaded)
    (sym c.has_pair.ensures ∙ c.if-not-has_pair.true)

pub pool_swap_by-requires-clause-reserve_a : goal.pool_swap_by-requires-clause-reserve_a
pool_swap_by-requires-clause-reserve_a g c =
    let k = c.requires.crossable in
    let id = pool_of_pair c.args.trade.now in
    (pool_legal k.view k.id_pool k.owed k.sum c.args.entries.now.current id c.args.slot.pool k.legal
    (pool_loaded c.args.entries.now.current id c.args.slot c.requires.loaded)).range.reserve_a

pub pool_swap_by-requires-clause-reserve_b : goal.pool_swap_by-requires-clause-reserve_b
pool_swap_by-requires-clause-reserve_b g c =
    let k = c.requires.crossable in
    let id = pool_of_pair c.args.trade.now in
    (pool_legal k.view k.id_pool k.owed k.sum c.args.entries.now.current id c.args.slot.pool k.legal
    (pool_loaded c.args.entries.now.current id c.args.slot c.requires.loaded)).range.reserve_b

pub returns-in-None : goal.returns-in-None
returns-in-None g c =
    of_pair c.args.ctx.now c.args.trade.now c.args.entries.now.current c.requires.enabled c.args.slot.pool
    (pool_loaded c.args.entries.now.current (pool_of_pair c.args.trade.now) c.args.slot c.requires.loaded)
    (sym c.has_pair.ensures ∙ c.if-not-has_pair.false)
    ∙ none_reported (sheep_reserve c.args.trade.now c.args.slot.pool)
    (wheat_reserve c.args.trade.now c.args.slot.pool) _
    c.in-None.ensures

pub returns-in-Some : goal.returns-in-Some
returns-in-Some g c =
    let shown = some_shown (sheep_reserve c.args.trade.now c.args.slot.pool)
    (wheat_reserve c.args.trade.now c.args.slot.pool) c.in-Some.swap _ c.in-Some.ensures in
    record {
      slot = c.requires.loaded;
      keyed = c.requires.keyed;
      swap = of_pair c.args.ctx.now c.args.trade.now c.args.entries.now.current c.requires.enabled c.args.slot.pool
          (pool_loaded c.args.entries.now.current (pool_of_pair c.args.trade.now) c.args.slot c.requires.loaded)
          (sym c.has_pair.ensures ∙ c.if-not-has_pair.false) ∙ shown.0;
      fits = shown.1;
    }
