use Rattle.sponsor_rules.proofs.AccountMaps.{loaded_after}
use Rattle.sponsor_rules.proofs.paying.release_to_owner.Goals as goal

pub still_loaded-requires : goal.still_loaded-requires
still_loaded-requires g c = loaded_after _ _ _ _ _ c.in_ok-slot.ensures c.in_ok-lower_sponsoring.ensures.others
