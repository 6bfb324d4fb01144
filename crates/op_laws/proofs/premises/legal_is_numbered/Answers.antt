use Rattle.op_laws.specs.legal_rules.Legal.{view}
use Rattle.op_laws.specs.legal_rules.Owing.{nothing_owed}
use Rattle.op_flags.proofs.OwnOffers.{offers_numbered}
use Rattle.op_laws.proofs.premises.legal_is_numbered.Goals as goal

pub returns : goal.returns
returns c = λ id_pool m legal. offers_numbered (view m) id_pool nothing_owed _ m legal
