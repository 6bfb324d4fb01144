use Rattle.replay.proofs.Machining as machine
use Rattle.replay.proofs.laws.logs_grow.Goals as goal

pub returns : goal.returns
returns c = machine.logs_grow
