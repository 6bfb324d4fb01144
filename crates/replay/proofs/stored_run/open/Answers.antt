use Rattle.replay.proofs.Prelude.{rules}
use Rattle.replay.proofs.stored_run.open.Goals as goal

pub returns-in-Ok-restore-clause-opens : goal.returns-in-Ok-restore-clause-opens
returns-in-Ok-restore-clause-opens g c te = (record { ready = search rules; count = search rules }, search rules)
