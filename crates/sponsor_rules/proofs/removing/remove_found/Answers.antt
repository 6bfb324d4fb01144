use Rattle.sponsor_rules.proofs.Prelude.{ap, refl, on_ok_weaker}
use Rattle.sponsor_rules.proofs.AccountMaps.{leaves_then_others, offer_still}
use Rattle.sponsor_rules.proofs.removing.remove_found.Goals as goal

pub erase_offer-requires : goal.erase_offer-requires
erase_offer-requires g c =
    offer_still c.args.entries.now.current c.remove_charge.new.entries.current c.args.key.now c.args.entry.now
    c.in-Offer.offer c.charge_of.result c.sponsor_in.result
    (ap (λ u. u.current) c.in_ok-remove_charge.ensures.released) c.requires.found c.requires.keyed c.in-Offer.is

pub returns-in-Offer-clause-core : goal.returns-in-Offer-clause-core
returns-in-Offer-clause-core g c =
    on_ok_weaker c.erase_offer.result
    (leaves_then_others _ _ _ _ _ refl c.in_ok-remove_charge.ensures.core) c.erase_offer.ensures.core

pub returns-in_default-clause-core : goal.returns-in_default-clause-core
returns-in_default-clause-core g c =
    on_ok_weaker c.erase_entry.result
    (leaves_then_others _ _ _ _ _ refl c.in_ok-remove_charge.ensures.core) c.erase_entry.ensures.core
