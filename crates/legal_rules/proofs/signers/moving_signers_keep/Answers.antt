use Rattle.legal_rules.proofs.signers.moving_signers_keep.Goals as goal
use Rattle.legal_rules.proofs.SignersKept.{moving_signers_keep}

pub returns : goal.returns
returns c = moving_signers_keep
