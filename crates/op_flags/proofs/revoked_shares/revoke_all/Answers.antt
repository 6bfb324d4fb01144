use Rattle.op_flags.proofs.Prelude.{low_answer}
use Rattle.op_flags.proofs.Steps.{started, further_by, refused_as, all_done}
use Rattle.op_flags.proofs.revoked_shares.revoke_all.Goals as goal

pub loop-pool_id-init : goal.loop-pool_id-init
loop-pool_id-init g c =
    started c.args.ctx.now (low_answer c.args.by) c.args.trustor.now c.args.pools.now c.args.entries.now
    c.requires.legal

pub revoke_share-requires-clause-legal : goal.revoke_share-requires-clause-legal
revoke_share-requires-clause-legal g c = c.loop-pool_id.invariant.legal

pub loop-pool_id-preserved : goal.loop-pool_id-preserved
loop-pool_id-preserved g c =
    further_by c.args.ctx.now (low_answer c.args.by) c.args.trustor.now c.args.pools.now c.loop-pool_id.pool_id-index _
    c.args.entries.now c.loop-pool_id.entries c.revoke_share.new.entries c.in_ok-refusal.field-0 c.in_default.is
    c.loop-pool_id-test.true c.loop-pool_id.invariant c.in_ok-refusal.ensures.revoked c.in_ok-refusal.ensures.legal

pub returns-in-Some : goal.returns-in-Some
returns-in-Some g c =
    refused_as c.args.ctx.now (low_answer c.args.by) c.args.trustor.now c.args.pools.now c.loop-pool_id.pool_id-index _
    c.args.entries.now c.loop-pool_id.entries c.revoke_share.new.entries c.in_ok-refusal.field-0 c.in-Some.refusal
    c.in-Some.is c.loop-pool_id-test.true c.loop-pool_id.invariant c.in_ok-refusal.ensures.revoked

pub returns : goal.returns
returns g c =
    all_done c.args.ctx.now (low_answer c.args.by) c.args.trustor.now c.args.pools.now c.loop-pool_id.pool_id-index
    c.args.entries.now c.loop-pool_id.entries c.loop-pool_id-test.false c.loop-pool_id.invariant
