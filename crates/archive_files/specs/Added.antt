-- What closes add to the files of an archive.
use Rattle.std.specs.Prelude.{◌≡◌, ◌⊎◌, ℕ, ◌+◌, ◌<◌, ◌≤◌, List, [], ◌∷◌, ◌++◌, length, map, Result, Ok, Err}
use Rattle.xdr_core.specs.Xdr.{Xdr}
use Rattle.ledger_types.specs.declared.ids.Hash.{Hash}
use Rattle.op_types.specs.declared.transaction.TransactionEnvelope.{TransactionEnvelope}
use Rattle.value_hashes.specs.Hashes.{ledger_hash_of, results_hash_of}
use Rattle.fee_rules.specs.SetHash.{hash_of_set}
use Rattle.archive_files.specs.declared.adding.AddCloseFault.{AddCloseFault}
use Rattle.archive_files.specs.declared.adding.AddCloseFault.TheVariants.{TooLarge, NoMemory}
use Rattle.archive_files.specs.declared.closed.Closed.{Closed}
use Rattle.archive_files.specs.declared.entries.LedgerHeaderHistoryEntry.{LedgerHeaderHistoryEntry}
use Rattle.archive_files.specs.declared.entries.TransactionHistoryEntry.{TransactionHistoryEntry}
use Rattle.archive_files.specs.declared.entries.TransactionHistoryResultEntry.{TransactionHistoryResultEntry}
use Rattle.archive_files.specs.declared.history.History.{History}
use Rattle.archive_files.specs.declared.history.Verified.{Verified}
use Rattle.archive_files.specs.Entries.{ledger_header_history_entry, transaction_history_entry}
use Rattle.archive_files.specs.Entries.{transaction_history_result_entry}
use Rattle.archive_files.specs.Chain.{IsVerified, empty_set, no_results}
use Rattle.archive_files.specs.Encoded.{record_of, file_of}

-- ---- the entries of a close

abbrev pub header_entry_of : Closed → LedgerHeaderHistoryEntry
header_entry_of c = record { hash = ledger_hash_of c.header; header = c.header }

abbrev pub set_entry_of : Closed → TransactionHistoryEntry
set_entry_of c = record { ledger_seq = c.header.ledger_seq; tx_set = c.set }

abbrev pub results_entry_of : Closed → TransactionHistoryResultEntry
results_entry_of c = record { ledger_seq = c.header.ledger_seq; tx_result_set = c.results }

-- they keep the bounds of their formats on lengths and depth
pub record IsWithinBounds (c : Closed) : Type 0 where
  pub header : ledger_header_history_entry.within (header_entry_of c)
  pub set : transaction_history_entry.within (set_entry_of c)
  pub results : transaction_history_result_entry.within (results_entry_of c)

-- their numbers are those of their types
pub record IsSized (c : Closed) : Type 0 where
  pub header : ledger_header_history_entry.sized (header_entry_of c)
  pub set : transaction_history_entry.sized (set_entry_of c)
  pub results : transaction_history_result_entry.sized (results_entry_of c)

-- ---- the files after a close

-- an entry before others, where the set has transactions
abbrev pub unless_empty : {V : Type 0} → List TransactionEnvelope → V → List V → List V
unless_empty [] v vs = vs
unless_empty (t ∷ ts) v vs = v ∷ vs

-- an entry's record, where the set has transactions
abbrev pub record_unless_empty : {V : Type 0} → Xdr V → List TransactionEnvelope → V → List ℕ
record_unless_empty f [] v = []
record_unless_empty f (t ∷ ts) v = record_of f v

abbrev pub header_record : Closed → List ℕ
header_record c = record_of ledger_header_history_entry (header_entry_of c)

abbrev pub set_record : Closed → List ℕ
set_record c = record_unless_empty transaction_history_entry c.set.txs (set_entry_of c)

abbrev pub results_record : Closed → List ℕ
results_record c = record_unless_empty transaction_history_result_entry c.set.txs (results_entry_of c)

-- the files with records at their ends
abbrev pub extended : History → (header set results : List ℕ) → History
extended h header set results =
    record { headers = h.headers ++ header; sets = h.sets ++ set; results = h.results ++ results }

-- those of a close: one without transactions has a record in the first file alone
abbrev pub added : History → Closed → History
added h c = extended h (header_record c) (set_record c) (results_record c)

-- the greatest length of a file
abbrev pub max_file_len : ℕ
max_file_len = 268435456

pub record IsSmall (h : History) : Type 0 where
  pub headers : length h.headers ≤ max_file_len
  pub sets : length h.sets ≤ max_file_len
  pub results : length h.results ≤ max_file_len

-- a file is too long
abbrev pub IsTooLarge : History → Type 0
IsTooLarge h =
    (max_file_len < length h.headers) ⊎ (max_file_len < length h.sets) ⊎ (max_file_len < length h.results)

-- The close was added; or a file would be too long, or memory was refused, and the files are as they were.
abbrev pub IsCloseAdded : History → Closed → Result (Unit {0}) AddCloseFault → History → Type 0
IsCloseAdded old c (Ok x) new = IsSmall (added old c) × (new ≡ added old c)
IsCloseAdded old c (Err TooLarge) new = IsTooLarge (added old c) × (new ≡ old)
IsCloseAdded old c (Err NoMemory) new = new ≡ old

-- ---- the closes of a ledger

abbrev pub no_closes : History
no_closes = record { headers = []; sets = []; results = [] }

-- closes were added one after another
abbrev pub AreAdded : History → List Closed → History → Type 0
AreAdded old [] new = old ≡ new
AreAdded old (c ∷ cs) new =
    IsWithinBounds c × IsSized c × IsSmall (added old c) × AreAdded (added old c) cs new

-- the close of the next ledger
pub record IsClose (want : ℕ) (last : Hash) (c : Closed) : Type 0 where
  pub number : c.header.ledger_seq ≡ want
  pub link : c.header.previous_ledger_hash ≡ last
  pub set_hash : c.header.scp_value.tx_set_hash ≡ hash_of_set c.set
  pub results_hash : c.header.tx_set_result_hash ≡ results_hash_of c.results
  pub without : c.set.txs ≡ [] → (c.set ≡ empty_set last) × (c.results ≡ no_results)

-- the closes of ledgers one after another, from a number and the hash before them
abbrev pub AreCloses : ℕ → Hash → List Closed → Type 0
AreCloses want last [] = Unit {0}
AreCloses want last (c ∷ cs) = IsClose want last c × AreCloses (want + 1) (ledger_hash_of c.header) cs

-- the hash of the last of them, or the one before them all
abbrev pub last_close_hash : Hash → List Closed → Hash
last_close_hash before [] = before
last_close_hash before (c ∷ cs) = last_close_hash (ledger_hash_of c.header) cs

-- the entries of the closes that have transactions
abbrev pub with_transactions : {V : Type 0} → (Closed → V) → List Closed → List V
with_transactions entry [] = []
with_transactions entry (c ∷ cs) = unless_empty c.set.txs (entry c) (with_transactions entry cs)

-- the files of closes
abbrev pub history_of : List Closed → History
history_of cs = record {
  headers = file_of ledger_header_history_entry (map header_entry_of cs);
  sets = file_of transaction_history_entry (with_transactions set_entry_of cs);
  results = file_of transaction_history_result_entry (with_transactions results_entry_of cs);
}

-- ---- laws

-- what closes are added to from the start on are just their files
abbrev pub AddedIsTheirHistory : Type 0
AddedIsTheirHistory = (cs : List Closed) (h : History) → AreAdded no_closes cs h → h ≡ history_of cs

-- what the closes of a ledger were added to is verified, with their number and the last one's hash
abbrev pub AddedClosesVerify : Type 0
AddedClosesVerify = (cs : List Closed) (before : Hash) (first : ℕ) (h : History) → AreAdded no_closes cs h
    → AreCloses first before cs
    → IsVerified h before first (record { closes = length cs; last = last_close_hash before cs })
