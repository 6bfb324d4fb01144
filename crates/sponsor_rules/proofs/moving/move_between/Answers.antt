use Rattle.sponsor_rules.proofs.AccountMaps.{leaves_both}
use Rattle.sponsor_rules.proofs.moving.move_between.Goals as goal

pub returns-clause-core : goal.returns-clause-core
returns-clause-core g c =
    leaves_both _ _ _
    (leaves_both _ _ _ c.in_ok-slot.ensures.core c.in_ok-change_owner_payer.ensures.core)
    c.in_ok-record_sponsor.ensures.core
