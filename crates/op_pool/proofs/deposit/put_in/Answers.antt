use Rattle.op_pool.proofs.Prelude.{◌≡◌, None, rules, PoolShare, first_fault, amount_tests, line_loaded, pool_loaded}
use Rattle.op_pool.proofs.Deposits.{fits_as}
use Rattle.op_pool.proofs.deposit.put_in.Goals as goal

pub deposit_by-requires-clause-range : goal.deposit_by-requires-clause-range
deposit_by-requires-clause-range g c =
    let id = c.args.op.now.pool_id in
    c.requires.sound.ranges id c.args.pool.pool
    (pool_loaded c.args.entries.now.current id c.args.pool c.requires.pool)

pub deposit_by-requires-clause-filled : goal.deposit_by-requires-clause-filled
deposit_by-requires-clause-filled g c =
    let id = c.args.op.now.pool_id in
    c.requires.sound.filled id c.args.pool.pool
    (pool_loaded c.args.entries.now.current id c.args.pool c.requires.pool)

pub amount_refusal-requires-clause-share : goal.amount_refusal-requires-clause-share
amount_refusal-requires-clause-share g c =
    let id = c.args.ctx.now.op_source in
    let held = PoolShare c.args.op.now.pool_id in
    c.requires.in_range.lines id held c.args.share.line
    (line_loaded c.args.entries.now.current id held c.args.share c.requires.share)

pub store_deposit-requires-clause-fits : goal.store_deposit-requires-clause-fits
store_deposit-requires-clause-fits g c =
    let ctx = c.args.ctx.now in
    let op = c.args.op.now in
    let m = c.args.entries.now.current in
    let tested : first_fault (amount_tests ctx op c.args.share.line c.args.pool.pool c.in-Some.d m) ≡ None =
    search rules in
    fits_as ctx op c.args.share c.args.pool c.in-Some.d m c.requires.in_range c.requires.sound c.requires.share
    c.requires.pool c.in-Some.ensures.1 tested
