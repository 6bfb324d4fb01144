use Rattle.legal_rules.proofs.entries.removing_data_keeps.Goals as goal
use Rattle.legal_rules.proofs.Kept.{removing_data_keeps}

pub returns : goal.returns
returns c = removing_data_keeps
