use Rattle.sponsor_rules.proofs.Prelude.{on_ok_weaker}
use Rattle.sponsor_rules.proofs.AccountMaps.{leaves_both}
use Rattle.sponsor_rules.proofs.signers.remove_signer.Goals as goal

pub returns-clause-core : goal.returns-clause-core
returns-clause-core g c = on_ok_weaker c.take_signer.result
    (leaves_both _ _ _ c.in_ok-lower_sponsoring.ensures.core) c.take_signer.ensures.core
