use Rattle.legal_rules.proofs.offers.liabilities_acquired.Goals as goal
use Rattle.legal_rules.proofs.OffersKept.{acquiring_legal}

pub returns : goal.returns
returns c = acquiring_legal
