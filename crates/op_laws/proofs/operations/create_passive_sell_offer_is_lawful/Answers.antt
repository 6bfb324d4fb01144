use Rattle.op_laws.proofs.operations.create_passive_sell_offer_is_lawful.Goals as goal
use Rattle.op_laws.proofs.ManageOffers.{create_passive_sell_offer_is_lawful}

pub returns : goal.returns
returns c = create_passive_sell_offer_is_lawful
