use Rattle.replay.proofs.Possible as possible
use Rattle.replay.proofs.laws.machines_begin.Goals as goal

pub returns : goal.returns
returns c = possible.machines_begin
