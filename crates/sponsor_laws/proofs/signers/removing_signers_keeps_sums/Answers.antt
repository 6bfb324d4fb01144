use Rattle.sponsor_laws.proofs.signers.removing_signers_keeps_sums.Goals as goal
use Rattle.sponsor_laws.proofs.RemovingSigners.{removing_signer_keeps}

pub returns : goal.returns
returns c = removing_signer_keeps
