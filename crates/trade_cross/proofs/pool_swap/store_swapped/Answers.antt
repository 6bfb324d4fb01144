use Rattle.trade_cross.proofs.Prelude.{sym, ap, ◌∙◌, put, with_current, entry_of_pool, LiquidityPoolEntry, pool_of_pair}
use Rattle.trade_cross.proofs.Prelude.{with_swap, amounts_of}
use Rattle.trade_cross.proofs.PoolsLegal.{pool_stored}
use Rattle.trade_cross.proofs.pool_swap.store_swapped.Goals as goal

pub returns : goal.returns
returns g c =
    let m = c.args.entries.now.current in
    let slot = c.args.serving.slot in
    c.in_ok-store_pool.ensures
    ∙ ap (with_current c.args.entries.now)
    (ap (λ (p : LiquidityPoolEntry). put m (entry_of_pool (record slot { pool = p }))) c.with_swap-slot.ensures
    ∙ sym (pool_stored m (with_swap c.args.trade.now (amounts_of c.args.serving.swap)) slot
    (pool_of_pair c.args.trade.now) c.requires.loaded))
