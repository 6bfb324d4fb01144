use Rattle.legal_rules.proofs.offers.new_offers_keep.Goals as goal
use Rattle.legal_rules.proofs.OffersKept.{new_offers_keep}

pub returns : goal.returns
returns c = new_offers_keep
