use Rattle.trade_cross.proofs.Prelude.{◌≡◌, with_current, IsCrossable, converted, IsWithin, in_all}
use Rattle.trade_cross.proofs.conversion.convert.Given as goal

abbrev pub invariant-loop-progress : goal.invariant-loop-progress
invariant-loop-progress g l =
    (converted l.ctx.base_reserve l.trade l.fn.entries.current
    ≡ in_all l.ctx.base_reserve l.trade l.progress l.entries.current)
    × (l.entries ≡ with_current l.fn.entries l.entries.current) × IsCrossable l.entries.current
    × IsWithin l.trade l.progress

abbrev pub decreases-loop-progress : goal.decreases-loop-progress
decreases-loop-progress g l = l.progress.crossings
