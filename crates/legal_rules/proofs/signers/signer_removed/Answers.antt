use Rattle.legal_rules.proofs.signers.signer_removed.Goals as goal
use Rattle.legal_rules.proofs.SignersKept.{signer_removed}

pub returns : goal.returns
returns c = signer_removed
