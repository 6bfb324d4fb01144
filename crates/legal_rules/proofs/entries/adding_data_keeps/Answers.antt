use Rattle.legal_rules.proofs.entries.adding_data_keeps.Goals as goal
use Rattle.legal_rules.proofs.Kept.{adding_data_keeps}

pub returns : goal.returns
returns c = adding_data_keeps
