-- That a close leaves a legal state.
use Rattle.std.specs.Prelude.{◌≡◌, ◌+◌, ◌≤◌, None, length}
use Rattle.close_rules.specs.ledger_types.declared.ids.Hash.{Hash}
use Rattle.close_rules.specs.xdr_header.declared.record.CloseRecord.{CloseRecord}
use Rattle.close_rules.specs.xdr_header.Records.{close_record}
use Rattle.bucket_levels.specs.entry_map.EntryMap.{EntryMap}
use Rattle.close_rules.specs.entry_changes.Next.{AreNextEntries}
use Rattle.close_rules.specs.legal_rules.Legal.{IsLegal}
use Rattle.close_rules.specs.entry_changes.Encodable.{AreEncodable, HaveEntireIds}
use Rattle.close_rules.specs.header_chain.SkipList.{finished}
use Rattle.close_rules.specs.State.{ClosingState, IsClosingState, IsEncoded}
use Rattle.close_rules.specs.Refusals.{record_fault}
use Rattle.close_rules.specs.Close.{applied_in, upgraded_header}

-- what closes a ledger over a state: a record that has an encoding and isn't refused for what it is, of no more
-- transactions than a record may have bytes
pub record IsClosable (s : ClosingState) (closing : CloseRecord) : Type 0 where
  pub state : IsClosingState s
  pub encoded : IsEncoded close_record closing
  pub unrefused : record_fault s closing ≡ None
  pub few : length closing.tx_set.txs ≤ 16777216

-- the entries after the close of such a record
abbrev pub AreClosed : ClosingState → CloseRecord → EntryMap → Type 0
AreClosed s closing after =
    AreNextEntries (s.header.ledger_seq + 1) s.entries (applied_in s closing).entries after

-- a legal state is left, whatever hash the levels have
abbrev pub NextIsLegal : Type 0
NextIsLegal = (s : ClosingState) (closing : CloseRecord) (after : EntryMap) (list_hash : Hash) → IsClosable s closing
    → AreClosed s closing after → IsLegal (finished (upgraded_header s closing) list_hash) after

-- every entry can be in a bucket's file
abbrev pub EntriesStayEncodable : Type 0
EntriesStayEncodable = (s : ClosingState) (closing : CloseRecord) (after : EntryMap) → IsClosable s closing
    → AreClosed s closing after → AreEncodable after

-- what summing all entries up asks of their keys: of those of a state from which a ledger closes
abbrev pub StatesHaveEntireIds : Type 0
StatesHaveEntireIds = (s : ClosingState) → IsClosingState s → HaveEntireIds s.entries

-- and of those that the set of a record leaves
abbrev pub SetsLeaveEntireIds : Type 0
SetsLeaveEntireIds =
    (s : ClosingState) (closing : CloseRecord) → IsClosable s closing → HaveEntireIds (applied_in s closing).entries
