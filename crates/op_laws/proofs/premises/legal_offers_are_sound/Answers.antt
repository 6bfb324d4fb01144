use Rattle.op_laws.specs.legal_rules.Legal.{view}
use Rattle.op_laws.specs.legal_rules.Owing.{nothing_owed}
use Rattle.op_flags.proofs.trade_cross_proofs.OffersSound.{offers_sound}
use Rattle.op_laws.proofs.premises.legal_offers_are_sound.Goals as goal

pub returns : goal.returns
returns c = λ id_pool m legal. offers_sound (view m) id_pool nothing_owed _ m legal
