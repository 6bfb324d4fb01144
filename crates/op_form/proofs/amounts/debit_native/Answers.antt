use Rattle.op_form.proofs.amounts.debit_native.Goals as goal

pub debit_lumens-requires-clause-range : goal.debit_lumens-requires-clause-range
debit_lumens-requires-clause-range g c = c.requires.in_range.accounts.in_range c.args.id.now
