use Rattle.sponsor_rules.proofs.AccountMaps.{leaves_then_others}
use Rattle.sponsor_rules.proofs.adding.add_sponsored_account.Goals as goal

pub returns-clause-core : goal.returns-clause-core
returns-clause-core g c =
    leaves_then_others _ _ _ _ _ c.in_ok-slot.ensures.named c.in_ok-raise_sponsoring.ensures.core
    c.in_ok-put_account.ensures.core
