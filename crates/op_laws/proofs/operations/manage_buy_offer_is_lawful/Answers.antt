use Rattle.op_laws.proofs.operations.manage_buy_offer_is_lawful.Goals as goal
use Rattle.op_laws.proofs.ManageOffers.{manage_buy_offer_is_lawful}

pub returns : goal.returns
returns c = manage_buy_offer_is_lawful
