use Rattle.legal_rules.proofs.changes.line_changed.Goals as goal
use Rattle.legal_rules.proofs.Changed.{line_changed}

pub returns : goal.returns
returns c = line_changed
