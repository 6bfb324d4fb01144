use Rattle.sponsor_rules.proofs.AccountMaps.{leaves_both}
use Rattle.sponsor_rules.proofs.signers.add_signer.Goals as goal

pub returns-clause-core : goal.returns-clause-core
returns-clause-core g c = leaves_both _ _ _ c.in_ok-slot.ensures.core c.in_ok-put_signer.ensures.core
