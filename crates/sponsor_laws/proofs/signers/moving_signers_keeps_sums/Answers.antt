use Rattle.sponsor_laws.proofs.signers.moving_signers_keeps_sums.Goals as goal
use Rattle.sponsor_laws.proofs.MovingSigners.{moving_signer_keeps}

pub returns : goal.returns
returns c = moving_signer_keeps
