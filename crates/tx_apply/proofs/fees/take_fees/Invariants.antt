use Rattle.tx_apply.proofs.Prelude.{◌≤◌, ◌-◌, length, unsigned_abs}
use Rattle.tx_apply.proofs.TakenFees.{SoFar}
use Rattle.tx_apply.proofs.fees.take_fees.Given as goal

abbrev pub invariant-loop-i : goal.invariant-loop-i
invariant-loop-i g l =
    SoFar (unsigned_abs l.base_fee) l.header l.envelopes l.order l.fn.fees l.fees l.fn.entries l.entries
    l.fee_pool l.i × (l.i ≤ length l.order)

abbrev pub decreases-loop-i : goal.decreases-loop-i
decreases-loop-i g l = length l.order - l.i
