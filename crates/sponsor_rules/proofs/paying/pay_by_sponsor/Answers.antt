use Rattle.sponsor_rules.proofs.AccountMaps.{loaded_after}
use Rattle.sponsor_rules.proofs.paying.pay_by_sponsor.Goals as goal

pub still_loaded-requires : goal.still_loaded-requires
still_loaded-requires g c = loaded_after _ _ _ _ _ c.requires.loaded c.in_ok-raise_sponsoring.ensures.others
