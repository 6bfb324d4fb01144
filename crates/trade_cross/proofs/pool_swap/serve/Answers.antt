use Rattle.trade_cross.proofs.Prelude.{sym, ap, subst, Undo, IsCrossable, amounts_of}
use Rattle.trade_cross.proofs.Hopped.{still_crossable}
use Rattle.trade_cross.proofs.PoolSwaps.{swapping}
use Rattle.trade_cross.proofs.pool_swap.serve.Goals as goal

pub returns-clause-crossable : goal.returns-clause-crossable
returns-clause-crossable g c =
    subst IsCrossable (sym (ap (λ (u : Undo). u.current) c.in_ok-store_swapped.ensures))
    (still_crossable c.args.trade.now (amounts_of c.args.serving.swap) c.args.entries.now.current
    c.requires.crossable
    (swapping c.args.trade.now c.args.entries.now.current (amounts_of c.args.serving.swap) c.args.ctx.now
    c.requires.serving.swap))
