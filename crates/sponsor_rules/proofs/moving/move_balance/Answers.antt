use Rattle.sponsor_rules.proofs.AccountMaps.{leaves_both}
use Rattle.sponsor_rules.proofs.moving.move_balance.Goals as goal

pub returns-clause-core : goal.returns-clause-core
returns-clause-core g c =
    leaves_both _ _ _ c.in_ok-exchange_sponsors.ensures.core c.in_ok-record_sponsor.ensures.core
