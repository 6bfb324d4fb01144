-- That the header after a close can be written.
use Rattle.close_rules.specs.ledger_types.declared.ids.Hash.{Hash}
use Rattle.close_rules.specs.xdr_header.declared.record.CloseRecord.{CloseRecord}
use Rattle.close_rules.specs.xdr_entries.Basic.{hash}
use Rattle.close_rules.specs.xdr_header.Header.{ledger_header}
use Rattle.close_rules.specs.header_chain.SkipList.{finished}
use Rattle.close_rules.specs.State.{ClosingState, IsEncoded}
use Rattle.close_rules.specs.Close.{upgraded_header}
use Rattle.close_laws.specs.Legal.{IsClosable}

-- the header can be written, whatever hash the levels have
abbrev pub NextHeaderIsEncoded : Type 0
NextHeaderIsEncoded = (s : ClosingState) (closing : CloseRecord) (list_hash : Hash) → IsClosable s closing
    → IsEncoded hash list_hash → IsEncoded ledger_header (finished (upgraded_header s closing) list_hash)
