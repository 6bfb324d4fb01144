use Rattle.sponsor_laws.proofs.signers.adding_signers_keeps_sums.Goals as goal
use Rattle.sponsor_laws.proofs.AddingSigners.{adding_signer_keeps}

pub returns : goal.returns
returns c = adding_signer_keeps
