use Rattle.legal_rules.proofs.signers.removing_signers_keep.Goals as goal
use Rattle.legal_rules.proofs.SignersKept.{removing_signers_keep}

pub returns : goal.returns
returns c = removing_signers_keep
