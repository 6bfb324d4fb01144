-- The states after the ledgers of a sample.
use Rattle.std.specs.Prelude.{◌≡◌, ℕ, zero, suc, ◌<◌, ◌≤◌, ◌^◌, List, [], ◌++◌, length, map, codes, Result, Ok, Err}
use Rattle.std.specs.List.{range_with_len}
use Rattle.std.specs.FinMap.{from_entries}
use Rattle.ledger_types.specs.declared.ids.Hash.{Hash}
use Rattle.ledger_types.specs.declared.header.LedgerHeader.{LedgerHeader}
use Rattle.ledger_types.specs.declared.entry.LedgerEntry.{LedgerEntry}
use Rattle.ledger_types.specs.declared.key.LedgerKey.{LedgerKey}
use Rattle.ledger_types.specs.Keys.{key_of}
use Rattle.op_types.specs.declared.transaction_result.TransactionResultPair.{TransactionResultPair}
use Rattle.xdr_header.specs.Records.{close_record}
use Rattle.hash_ids.specs.Ids.{network_id_of}
use Rattle.bucket_levels.specs.entry_map.EntryMap.{EntryMap}
use Rattle.close_rules.specs.declared.close_fault.CloseFault.{CloseFault}
use Rattle.close_rules.specs.declared.close_fault.CloseFault.TheVariants as fault
use Rattle.close_rules.specs.State.{ClosingState, IsClosingState, IsEncoded}
use Rattle.close_rules.specs.Close.{PreparedClose, IsClose}
use Rattle.close_rules.specs.Images.{IsJudged}
use Rattle.sample_ledger.specs.Accounts.{ledger_entry}
use Rattle.sample_ledger.specs.Image.{account_count, first_bucket, first_header, first_image, levels_with}
use Rattle.sample_ledger.specs.Records.{record_of}

-- ---- the first state

-- the network of all samples
abbrev pub sample_network : Hash
sample_network = network_id_of (codes "sample")

abbrev pub keyed_entry : (seed account : ℕ) → LedgerKey × LedgerEntry
keyed_entry seed account = (key_of (ledger_entry seed account), ledger_entry seed account)

-- n accounts, from a number on
unfoldable pub entries_of : (seed from n : ℕ) → EntryMap
entries_of seed from n = from_entries (map (keyed_entry seed) (range_with_len from n))

abbrev pub first_entries : (seed : ℕ) → EntryMap
first_entries seed = entries_of seed 0 account_count

abbrev pub first_state : (seed : ℕ) → ClosingState
first_state seed = record {
  network = sample_network;
  header = first_header seed;
  entries = first_entries seed;
  levels = levels_with (first_bucket seed);
}

-- ---- records

-- record k, after a state
abbrev pub record_bytes : (seed k : ℕ) → ClosingState → List ℕ
record_bytes seed k s = close_record.encoding (record_of seed k s.header)

-- what there is after some records: the state, and the results of all their transactions
pub record Progress : Type 0 where
  pub state : ClosingState
  pub results : List TransactionResultPair

abbrev pub first_progress : (seed : ℕ) → Progress
first_progress seed = record { state = first_state seed; results = [] }

abbrev pub progress_after : Progress → PreparedClose → Progress
progress_after was closed = record { state = closed.state; results = was.results ++ closed.results }

-- the first k records close ledgers, each from the state that the ones before it give
unfoldable pub HaveClosed : (seed k : ℕ) → Progress → Type 0
HaveClosed seed zero now = now ≡ first_progress seed
HaveClosed seed (suc k) now =
    (was : Progress) × (closed : PreparedClose) × HaveClosed seed k was
    × IsClose was.state (record_bytes seed (suc k) was.state) (Ok closed) × (now ≡ progress_after was closed)

-- ---- laws

-- a ledger closes from the first state, and the image represents it
pub record IsFirst (seed : ℕ) : Type 0 where
  pub closing : IsClosingState (first_state seed)
  pub judged : IsJudged sample_network (first_image seed) (Ok (first_state seed))

abbrev pub FirstStatesClose : Type 0
FirstStatesClose = (seed : ℕ) → seed < 2 ^ 32 → IsFirst seed

-- a record has an encoding, of no more bytes than a record may have
pub record IsWritten (seed k : ℕ) (header : LedgerHeader) : Type 0 where
  pub encoded : IsEncoded close_record (record_of seed k header)
  pub short : length (close_record.encoding (record_of seed k header)) ≤ 16777216

-- a ledger closes from each state that records give
abbrev pub SamplesClose : Type 0
SamplesClose = (seed k : ℕ) (now : Progress) → seed < 2 ^ 32 → k ≤ 20000 → HaveClosed seed k now
    → IsClosingState now.state

-- the next record is accepted, or the files of its ledger would be too long
abbrev pub IsAcceptedOrFull : Result PreparedClose CloseFault → Type 0
IsAcceptedOrFull (Ok closed) = Unit {0}
IsAcceptedOrFull (Err (fault.LedgerFull bytes)) = Unit {0}
IsAcceptedOrFull (Err other) = ⊥

abbrev pub SamplesGoOn : Type 0
SamplesGoOn = (seed k : ℕ) (now : Progress) (answer : Result PreparedClose CloseFault) → seed < 2 ^ 32 → k < 20000
    → HaveClosed seed k now → IsClose now.state (record_bytes seed (suc k) now.state) answer → IsAcceptedOrFull answer

abbrev pub RecordsAreWritten : Type 0
RecordsAreWritten = (seed k : ℕ) (header : LedgerHeader) → seed < 2 ^ 32 → k ≤ 20000 → IsWritten seed k header
