-- Where paths can be tried: on the entries of a legal state.
use Rattle.ledger_types.specs.declared.header.LedgerHeader.{LedgerHeader}
use Rattle.entry_map.specs.EntryMap.{EntryMap}
use Rattle.trade_cross.specs.legal_rules.Legal.{IsLegal}
use Rattle.trade_cross.specs.Crossable.{IsCrossable}

abbrev pub LegalStatesAreCrossable : Type 0
LegalStatesAreCrossable = (h : LedgerHeader) (m : EntryMap) → IsLegal h m → IsCrossable m
