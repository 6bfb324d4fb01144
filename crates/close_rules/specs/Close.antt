-- What a close does to the state after a ledger (LedgerManagerImpl::closeLedger in stellar-core).
use Rattle.std.specs.Prelude.{◌≡◌, ℕ, ◌+◌, ◌<◌, ◌≤◌, List, map, Some, None, Result, Ok, Err}
use Rattle.ledger_types.specs.declared.header.LedgerHeader.{LedgerHeader}
use Rattle.tx_apply.specs.op_types.declared.transaction_result.TransactionResultPair.{TransactionResultPair}
use Rattle.tx_apply.specs.op_types.declared.transaction_result.TransactionResultSet.{TransactionResultSet}
use Rattle.xdr_core.specs.Format.{IsBytes}
use Rattle.header_chain.specs.xdr_header.declared.record.CloseRecord.{CloseRecord}
use Rattle.tx_apply.specs.value_hashes.Hashes.{ledger_hash_of, results_hash_of}
use Rattle.entry_changes.specs.Next.{AreNextEntries}
use Rattle.bucket_levels.specs.bucket_core.Bucket.{Contents, version_of}
use Rattle.bucket_levels.specs.Pairs.{Pair}
use Rattle.bucket_levels.specs.Fresh.{IsFresh}
use Rattle.bucket_levels.specs.Step.{IsStep}
use Rattle.bucket_levels.specs.Hash.{list_hash}
use Rattle.header_chain.specs.Upgrades.{upgrade_in, all_upgraded}
use Rattle.header_chain.specs.SkipList.{finished}
use Rattle.header_chain.specs.xdr_header.Records.{vouches_in}
use Rattle.tx_apply.specs.Set.{Setting, DoneSet, set_done, fee_pool_after}
use Rattle.close_rules.specs.declared.close_fault.CloseFault.{CloseFault}
use Rattle.close_rules.specs.declared.close_fault.CloseFault.TheVariants as fault
use Rattle.bucket_levels.specs.Size.{file_total}
use Rattle.close_rules.specs.State.{ClosingState, max_file_total}
use Rattle.close_rules.specs.Refusals.{record_in, record_fault}

-- the results of a set, in the order in which its transactions were applied, and the state after the close
pub record PreparedClose : Type 0 where
  pub results : List TransactionResultPair
  pub state : ClosingState

-- ---- the set

abbrev pub setting_in : ClosingState → CloseRecord → Setting
setting_in s closing = record {
  network = s.network;
  header = s.header;
  close_time = closing.scp_value.close_time;
  vouches = vouches_in closing.vouches;
}

-- what the set of a record does to the entries of a state
abbrev pub applied_in : ClosingState → CloseRecord → DoneSet
applied_in s closing = set_done (setting_in s closing) closing.tx_set s.entries

abbrev pub result_set : List TransactionResultPair → TransactionResultSet
result_set results = record { results = results }

-- ---- the header

-- the fields that the record and its set give
abbrev pub filled_header : ClosingState → CloseRecord → LedgerHeader
filled_header s closing = record s.header {
  previous_ledger_hash = ledger_hash_of s.header;
  scp_value = closing.scp_value;
  ledger_seq = s.header.ledger_seq + 1;
  tx_set_result_hash = results_hash_of (result_set (applied_in s closing).results);
  fee_pool = fee_pool_after (setting_in s closing) closing.tx_set s.entries;
  id_pool = (applied_in s closing).id_pool;
}

-- then the upgrades
abbrev pub upgraded_header : ClosingState → CloseRecord → LedgerHeader
upgraded_header s closing = all_upgraded (filled_header s closing) (map upgrade_in closing.scp_value.upgrades)

-- ---- the close

-- the bucket of what changed states the version of the new header
pub record IsFreshOf (version : ℕ) (s : ClosingState) (next : ClosingState) (fresh : Contents) : Type 0 where
  pub meta : version_of fresh ≡ Some version
  pub changes : IsFresh s.entries next.entries fresh

-- a close of a record over levels that step in this way
pub record IsClosedOver (Step : (seq : ℕ) → (fresh : Contents) → (old new : List Pair) → Type 0) (s : ClosingState)
    (closing : CloseRecord) (closed : PreparedClose) : Type 0 where
  pub results : closed.results ≡ (applied_in s closing).results
  pub network : closed.state.network ≡ s.network
  pub entries : AreNextEntries (s.header.ledger_seq + 1) s.entries (applied_in s closing).entries closed.state.entries
  -- the bucket of what changed goes into the levels
  pub fresh : Contents
  pub recorded : IsFreshOf (upgraded_header s closing).ledger_version s closed.state fresh
  pub levels : Step (s.header.ledger_seq + 1) fresh s.levels closed.state.levels
  -- and last the header takes the hash of the levels
  pub header : closed.state.header ≡ finished (upgraded_header s closing) (list_hash closed.state.levels)

abbrev pub IsClosed : ClosingState → CloseRecord → PreparedClose → Type 0
IsClosed s closing closed = IsClosedOver IsStep s closing closed

-- ---- what bytes do to a state

-- the bytes are a record that isn't refused for what it is
pub record IsTaken (s : ClosingState) (bytes : List ℕ) : Type 0 where
  pub closing : CloseRecord
  pub text : IsBytes bytes
  pub reads : record_in bytes ≡ Ok closing
  pub unrefused : record_fault s closing ≡ None

-- the record closes the ledger, or would, with files of so many bytes
pub record ClosesWith (s : ClosingState) (bytes : List ℕ) (closed : PreparedClose) (total : ℕ) : Type 0 where
  pub taken : IsTaken s bytes
  pub closes : IsClosed s taken.closing closed
  pub files : total ≡ file_total closed.state.levels

-- a record that is refused for what it is
abbrev pub IsRefused : ClosingState → List ℕ → CloseFault → Type 0
IsRefused s bytes wrong =
    (closing : CloseRecord) × (record_in bytes ≡ Ok closing) × (record_fault s closing ≡ Some wrong)

-- Bytes that are no record are reported first, then what a record is refused for, and last levels that are too long.
abbrev pub IsClose : ClosingState → List ℕ → Result PreparedClose CloseFault → Type 0
IsClose s bytes (Ok closed) = (total : ℕ) × ClosesWith s bytes closed total × (total ≤ max_file_total)
IsClose s bytes (Err (fault.BadXdr at kind)) = record_in bytes ≡ Err (record { at = at; kind = kind })
IsClose s bytes (Err (fault.LedgerFull total)) =
    (closed : PreparedClose) × ClosesWith s bytes closed total × (max_file_total < total)
IsClose s bytes (Err fault.NoMemory) = ⊥
IsClose s bytes (Err wrong) = IsRefused s bytes wrong
