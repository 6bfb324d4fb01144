use Rattle.op_offers.proofs.laws.selling_keeps.Goals as goal
use Rattle.op_offers.proofs.Sold.{selling_keeps}

pub returns : goal.returns
returns c = selling_keeps
