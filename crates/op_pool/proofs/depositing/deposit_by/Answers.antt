use Rattle.op_pool.proofs.Prelude.{rules, AnswersDeposit}
use Rattle.op_pool.proofs.Deposits.{filled_of, deposit_is}
use Rattle.op_pool.proofs.depositing.deposit_by.Goals as goal

pub deposit-requires-clause-filled : goal.deposit-requires-clause-filled
deposit-requires-clause-filled c = let filled = filled_of c.args.pool.now c.requires.filled in search (rules, filled)

pub returns : goal.returns
returns c =
    let pool = c.args.pool.now in
    let op = c.args.op.now in
    let answers : AnswersDeposit pool.reserve_a pool.reserve_b pool.total_pool_shares op.max_amount_a op.max_amount_b
    c.deposit.result = search rules in
    deposit_is op pool c.deposit.result answers
