use Rattle.legal_rules.proofs.offers.changed_offers_keep.Goals as goal
use Rattle.legal_rules.proofs.Releasing.{changed_offers_keep}

pub returns : goal.returns
returns c = changed_offers_keep
