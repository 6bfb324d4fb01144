use Rattle.op_flags.proofs.Prelude.{drop, low_answer}
use Rattle.op_flags.proofs.Steps.{AreUnderway}
use Rattle.op_flags.proofs.revoked_shares.revoke_all.Given as goal

abbrev pub invariant-loop-pool_id : goal.invariant-loop-pool_id
invariant-loop-pool_id g l = AreUnderway l.ctx (low_answer l.by) l.trustor l.pools (drop l.pool_id-index l.pools)
    l.initial.entries l.entries
