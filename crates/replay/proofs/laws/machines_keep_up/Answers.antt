use Rattle.replay.proofs.Machining as machine
use Rattle.replay.proofs.laws.machines_keep_up.Goals as goal

pub returns : goal.returns
returns c = machine.machines_keep_up
