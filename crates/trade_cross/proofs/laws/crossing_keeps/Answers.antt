use Rattle.trade_cross.proofs.laws.crossing_keeps.Goals as goal
use Rattle.trade_cross.proofs.CrossedLegal.{crossing_keeps}

pub returns : goal.returns
returns c = crossing_keeps
