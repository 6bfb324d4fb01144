use Rattle.legal_rules.proofs.signers.signer_added.Goals as goal
use Rattle.legal_rules.proofs.SignersKept.{signer_added}

pub returns : goal.returns
returns c = signer_added
