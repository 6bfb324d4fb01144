use Rattle.trade_cross.proofs.laws.hop_keeps.Goals as goal
use Rattle.trade_cross.proofs.HopsKeep.{hop_keeps}

pub returns : goal.returns
returns c = hop_keeps
