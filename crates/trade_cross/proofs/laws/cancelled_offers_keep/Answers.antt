use Rattle.trade_cross.proofs.Cancelled.{cancelled_keeps}
use Rattle.trade_cross.proofs.laws.cancelled_offers_keep.Goals as goal

pub returns : goal.returns
returns c = cancelled_keeps
