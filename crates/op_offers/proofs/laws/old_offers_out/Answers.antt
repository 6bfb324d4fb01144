use Rattle.op_offers.proofs.laws.old_offers_out.Goals as goal
use Rattle.op_offers.proofs.OutOfBook.{old_offers_out}

pub returns : goal.returns
returns c = old_offers_out
