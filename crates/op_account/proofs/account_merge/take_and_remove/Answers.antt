use Rattle.op_account.proofs.account_merge.take_and_remove.Goals as goal

pub credit_lumens-requires-clause-range : goal.credit_lumens-requires-clause-range
credit_lumens-requires-clause-range g c = c.requires.in_range.in_range c.account_id.result
