use Rattle.sponsor_rules.proofs.Prelude.{on_ok_weaker}
use Rattle.sponsor_rules.proofs.AccountMaps.{leaves_both}
use Rattle.sponsor_rules.proofs.removing.discount_subentry.Goals as goal

pub returns-clause-core : goal.returns-clause-core
returns-clause-core g c = on_ok_weaker c.discount_for_owner.result
    (leaves_both _ _ _ c.in_ok-lower_sponsoring.ensures.core) c.discount_for_owner.ensures.core
