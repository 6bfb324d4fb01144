use Rattle.ledger_close.proofs.ledger.Ledger.prepare.Goals as goal

pub returns-in-Ok-clause-batch : goal.returns-in-Ok-clause-batch
returns-in-Ok-clause-batch g c = c.in-Ok.ensures.detail.2.batch
