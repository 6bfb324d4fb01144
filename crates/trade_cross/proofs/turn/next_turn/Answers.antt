use Rattle.trade_cross.proofs.OffersSound.{offers_sound}
use Rattle.trade_cross.proofs.turn.next_turn.Goals as goal

pub best_offer-requires : goal.best_offer-requires
best_offer-requires g c =
    let k = c.requires.crossable in offers_sound k.view k.id_pool k.owed k.sum c.args.entries.now.current k.legal
