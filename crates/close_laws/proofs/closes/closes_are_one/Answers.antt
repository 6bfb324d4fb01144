use Rattle.close_laws.proofs.OneClose.{closes_are_one}
use Rattle.close_laws.proofs.closes.closes_are_one.Goals as goal

pub returns : goal.returns
returns c = closes_are_one
