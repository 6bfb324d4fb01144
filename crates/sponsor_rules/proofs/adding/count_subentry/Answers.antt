use Rattle.sponsor_rules.proofs.AccountMaps.{leaves_both}
use Rattle.sponsor_rules.proofs.adding.count_subentry.Goals as goal

pub returns-clause-core : goal.returns-clause-core
returns-clause-core g c =
    leaves_both _ _ _ c.in_ok-slot.ensures.core c.in_ok-count_for_owner.ensures.core
