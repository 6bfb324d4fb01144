use Rattle.sponsor_rules.proofs.AccountMaps.{loaded_after, leaves_both}
use Rattle.sponsor_rules.proofs.paying.exchange_sponsors.Goals as goal

pub still_loaded-requires : goal.still_loaded-requires
still_loaded-requires g c = loaded_after _ _ _ _ _ c.in_ok-payer.ensures c.in_ok-lower_sponsoring.ensures.others

pub returns-clause-core : goal.returns-clause-core
returns-clause-core g c =
    leaves_both _ _ _ c.in_ok-lower_sponsoring.ensures.core c.in_ok-raise_sponsoring.ensures.core
