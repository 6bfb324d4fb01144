use Rattle.sponsor_rules.proofs.AccountMaps.{leaves_both}
use Rattle.sponsor_rules.proofs.signers.move_signer_between.Goals as goal

pub returns-clause-core : goal.returns-clause-core
returns-clause-core g c =
    leaves_both _ _ _ c.in_ok-slot.ensures.core c.in_ok-record_signer_sponsor.ensures.core
