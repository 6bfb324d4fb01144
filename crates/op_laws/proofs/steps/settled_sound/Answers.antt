use Rattle.op_laws.proofs.steps.settled_sound.Goals as goal
use Rattle.op_laws.proofs.Settled.{settled_sound}

pub returns : goal.returns
returns c = settled_sound
