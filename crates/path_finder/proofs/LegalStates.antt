-- The entries of a legal state can be crossed: nothing is owed.
use Rattle.ledger_types.specs.declared.asset.Asset.TheVariants.{Native}
use Rattle.trade_cross.proofs.Crossables.{crossable_of}
use Rattle.trade_cross.proofs.legal_rules_proofs.Legality.{owing_nothing_of, view_of}
use Rattle.path_finder.specs.Legal.{LegalStatesAreCrossable}

pub legal_states_are_crossable : LegalStatesAreCrossable
legal_states_are_crossable h m legal =
    crossable_of (view_of Native m) h.id_pool _ m (owing_nothing_of Native h m legal)
