-- What a ledger and a prepared close keep.
use Rattle.std.specs.Prelude.{◌≡◌, ℕ, List, refl}
use Rattle.std.specs.Coded.{Coded, code_by, coded_list, coded×}
use Rattle.ledger_types.specs.declared.ids.Hash.{Hash}
use Rattle.ledger_types.specs.declared.header.LedgerHeader.{LedgerHeader}
use Rattle.ledger_types.specs.contracts.ids.Hash as hash
use Rattle.ledger_types.specs.contracts.header.LedgerHeader as header
use Rattle.op_types.specs.declared.transaction_result.TransactionResultPair.{TransactionResultPair}
use Rattle.op_types.specs.contracts.transaction_result.TransactionResultPair as pair
use Rattle.value_hashes.specs.Hashes.{ledger_hash_of}
use Rattle.entry_map.specs.EntryMap.{EntryMap}
use Rattle.entry_map.specs.Undo.{map_code}
use Rattle.bucket_levels.specs.Pairs.{Pair, pair_code}
use Rattle.bucket_levels.specs.Pending.{PendingAt, pending_code}
use Rattle.bucket_levels.specs.Levels.{LevelsAt, LevelsAfter}
use Rattle.close_rules.specs.State.{ClosingState, IsClosingState}
use Rattle.close_rules.specs.Close.{PreparedClose}
use Rattle.close_rules.specs.Images.{state_of}
use Rattle.entry_map.specs.declared.batch.Batch.{Batch}
use Rattle.entry_map.specs.contracts.batch.Batch as entry_batch
use Rattle.bucket_levels.specs.Meaning.{files_of}
use Rattle.page_cache.specs.Pages.{CacheAt, cache_code}
use Rattle.page_cache.specs.Caches.{contents_in, AreNewCaches}

-- how states and closes are distinguished
abbrev pub state_code : Coded ClosingState
state_code =
    code_by (Hash × (LedgerHeader × (EntryMap × List Pair)))
    (coded× hash.the_row.coded (coded× header.the_row.coded (coded× map_code (coded_list pair_code))))
    (λ s. (s.network, (s.header, (s.entries, s.levels))))
    (λ (network, (h, (m, levels))). state_of network h levels m) (λ _. refl)

-- a close that is made: the results of its set, the state after it, and what of the entries it makes another
pub record PreparedAt : Type 0 where
  pub results : List TransactionResultPair
  pub state : ClosingState
  pub batch : Batch

-- the close itself
abbrev pub close_of : PreparedAt → PreparedClose
close_of prepared = record { results = prepared.results; state = prepared.state }

abbrev pub prepared_code : Coded PreparedAt
prepared_code =
    code_by (List TransactionResultPair × (ClosingState × Batch))
    (coded× (coded_list pair.the_row.coded) (coded× state_code entry_batch.the_row.coded))
    (λ c. (c.results, (c.state, c.batch)))
    (λ (results, (state, batch)). record { results = results; state = state; batch = batch }) (λ _. refl)

-- the state after a ledger, what is there of the merge that is pending into each of its levels, and the caches of all
-- files, from the newest to the oldest
pub record LedgerAt : Type 0 where
  pub state : ClosingState
  pub pending : List PendingAt
  pub caches : List CacheAt

abbrev pub ledger_code : Coded LedgerAt
ledger_code =
    code_by (ClosingState × (List PendingAt × List CacheAt))
    (coded× state_code (coded× (coded_list pending_code) (coded_list cache_code)))
    (λ l. (l.state, (l.pending, l.caches)))
    (λ (state, (pending, caches)). record { state = state; pending = pending; caches = caches }) (λ _. refl)

-- its levels
abbrev pub levels_at : LedgerAt → LevelsAt
levels_at l = record { pairs = l.state.levels; seq = l.state.header.ledger_seq; pending = l.pending }

-- what a ledger keeps beside its state: the hash of its header, levels of its number, and caches of their files
pub record IsKept (network digest : Hash) (h : LedgerHeader) (m : EntryMap) (levels : List Pair) (seq : ℕ)
    (caches : List CacheAt) : Type 0 where
  pub state : IsClosingState (state_of network h levels m)
  pub hashed : digest ≡ ledger_hash_of h
  pub number : seq ≡ h.ledger_seq
  pub files : contents_in caches ≡ files_of levels

-- the same of a prepared close, with the caches of the files that are new, of which nothing is said but that
pub record IsReady (digest : Hash) (h : LedgerHeader) (step : LevelsAfter) (caches : List CacheAt) : Type 0 where
  pub hashed : digest ≡ ledger_hash_of h
  pub number : step.seq ≡ h.ledger_seq
  pub files : AreNewCaches h.ledger_seq step.pairs caches
