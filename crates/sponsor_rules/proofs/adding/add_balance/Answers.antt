use Rattle.sponsor_rules.proofs.AccountMaps.{leaves_then_others}
use Rattle.sponsor_rules.proofs.adding.add_balance.Goals as goal

pub returns-clause-core : goal.returns-clause-core
returns-clause-core g c =
    leaves_then_others _ _ _ _ _ c.sponsored_entry.ensures.named c.in_ok-raise_sponsoring.ensures.core
    c.in_ok-put_entry.ensures.core
