use Rattle.legal_rules.proofs.signers.adding_signers_keep.Goals as goal
use Rattle.legal_rules.proofs.SignersKept.{adding_signers_keep}

pub returns : goal.returns
returns c = adding_signers_keep
