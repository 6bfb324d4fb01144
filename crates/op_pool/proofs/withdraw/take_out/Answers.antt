use Rattle.op_pool.proofs.Prelude.{◌≡◌, None, rules, PoolShare, first_fault, part_tests, line_loaded, pool_loaded}
use Rattle.op_pool.proofs.Prelude.{at_most_trans}
use Rattle.op_pool.proofs.Withdrawals.{fits_as}
use Rattle.op_pool.proofs.withdraw.take_out.Goals as goal

pub part_for-part-requires-clause-range : goal.part_for-part-requires-clause-range
part_for-part-requires-clause-range g c =
    let id = c.args.op.now.pool_id in
    c.requires.sound.ranges id c.args.pool.pool
    (pool_loaded c.args.entries.now.current id c.args.pool c.requires.pool)

pub part_for-part-requires-clause-within : goal.part_for-part-requires-clause-within
part_for-part-requires-clause-within g c =
    let id = c.args.ctx.now.op_source in
    let pool = c.args.op.now.pool_id in
    let m = c.args.entries.now.current in
    at_most_trans c.args.op.now.amount c.args.share.line.balance c.args.pool.pool.total_pool_shares c.requires.within
    (c.requires.sound.shares id pool c.args.share.line c.args.pool.pool
    (line_loaded m id (PoolShare pool) c.args.share c.requires.share)
    (pool_loaded m pool c.args.pool c.requires.pool))

pub store_withdrawal-requires-clause-fits : goal.store_withdrawal-requires-clause-fits
store_withdrawal-requires-clause-fits g c =
    let ctx = c.args.ctx.now in
    let op = c.args.op.now in
    let m = c.args.entries.now.current in
    let part = c.part_for-part.result in
    let tested : first_fault (part_tests ctx op c.args.pool.pool.params part m) ≡ None = search rules in
    fits_as ctx op c.args.share c.args.pool part m c.requires.in_range c.requires.sound c.requires.share
    c.requires.pool c.requires.amount c.requires.within c.part_for-part.ensures.part c.part_for-part.ensures.within_a
    c.part_for-part.ensures.within_b tested
