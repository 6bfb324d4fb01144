use Rattle.legal_rules.proofs.signers.signer_moved.Goals as goal
use Rattle.legal_rules.proofs.SignersKept.{signer_moved}

pub returns : goal.returns
returns c = signer_moved
