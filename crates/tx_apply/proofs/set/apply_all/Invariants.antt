use Rattle.tx_apply.proofs.Prelude.{◌≤◌, ◌-◌, ◌*◌, length, CanDraw, setting_of}
use Rattle.tx_apply.proofs.Applying.{SoFar}
use Rattle.tx_apply.proofs.set.apply_all.Given as goal

abbrev pub invariant-loop-i : goal.invariant-loop-i
invariant-loop-i g l =
    SoFar (setting_of l.setting) l.setting.header.now.id_pool l.envelopes l.order l.fees l.fn.results
    l.results l.fn.entries l.entries l.id_pool l.i × (l.i ≤ length l.order)
    × CanDraw (100 * (length l.order - l.i)) l.id_pool

abbrev pub decreases-loop-i : goal.decreases-loop-i
decreases-loop-i g l = length l.order - l.i
