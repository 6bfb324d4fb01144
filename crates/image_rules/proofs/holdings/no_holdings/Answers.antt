use Rattle.image_rules.proofs.Kept.{known_none}
use Rattle.image_rules.proofs.holdings.no_holdings.Goals as goal

pub returns : goal.returns
returns c m = known_none m _ c.new.result c.new.ensures.empty
