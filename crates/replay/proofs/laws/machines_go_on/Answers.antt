use Rattle.replay.proofs.Possible as possible
use Rattle.replay.proofs.laws.machines_go_on.Goals as goal

pub returns : goal.returns
returns c = possible.machines_go_on
