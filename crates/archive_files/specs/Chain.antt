-- A history: whether its three files form one chain.
use Rattle.std.specs.Prelude.{◌≡◌, ◌≢◌, ◌⊎◌, ◌<◌, ◌+◌, ℕ, List, [], ◌∷◌, length, map, Contains, Option, Some, None}
use Rattle.std.specs.Prelude.{Result, Ok, Err, ◌==◌, if◌then◌else◌}
use Rattle.xdr_core.specs.declared.fault.XdrFault.{XdrFault}
use Rattle.xdr_core.specs.Position.{Position, Reading}
use Rattle.ledger_types.specs.declared.ids.Hash.{Hash}
use Rattle.op_types.specs.declared.transaction.TransactionSet.{TransactionSet}
use Rattle.op_types.specs.declared.transaction_result.TransactionResultSet.{TransactionResultSet}
use Rattle.value_hashes.specs.Hashes.{results_hash_of}
use Rattle.fee_rules.specs.SetHash.{hash_of_set}
use Rattle.archive_files.specs.declared.facts.HeaderFact.{HeaderFact}
use Rattle.archive_files.specs.declared.facts.RecordFact.{RecordFact}
use Rattle.archive_files.specs.declared.history.History.{History}
use Rattle.archive_files.specs.declared.history.Verified.{Verified}
use Rattle.archive_files.specs.declared.history.HistoryFault.{HistoryFault}
use Rattle.archive_files.specs.declared.history.HistoryFault.TheVariants as fault
use Rattle.archive_files.specs.Entries.{ledger_header_history_entry, transaction_history_entry}
use Rattle.archive_files.specs.Entries.{transaction_history_result_entry}
use Rattle.archive_files.specs.Facts.{header_fact, set_fact, results_fact}
use Rattle.archive_files.specs.Records.{fact_at, HasFacts, HasFault}

-- ---- the records of each file

abbrev pub header_at : Position → Reading XdrFault HeaderFact
header_at = fact_at ledger_header_history_entry header_fact

abbrev pub set_at : Position → Reading XdrFault RecordFact
set_at = fact_at transaction_history_entry set_fact

abbrev pub results_at : Position → Reading XdrFault RecordFact
results_at = fact_at transaction_history_result_entry results_fact

-- ---- stray records

-- the numbers of headers
abbrev pub numbers : List HeaderFact → List ℕ
numbers headers = map (λ h. h.seq) headers

-- a number above the one before it, if there is one
abbrev pub IsAbove : Option ℕ → ℕ → Type 0
IsAbove None seq = Unit {0}
IsAbove (Some before) seq = before < seq

-- a record whose number is above that of the record before it, and that of a header
pub record IsInPlace (heads : List HeaderFact) (before : Option ℕ) (r : RecordFact) : Type 0 where
  pub above : IsAbove before r.seq
  pub of : Contains (numbers heads) r.seq

-- none of the records is stray
abbrev pub AreInPlace : List HeaderFact → Option ℕ → List RecordFact → Type 0
AreInPlace heads before [] = Unit {0}
AreInPlace heads before (r ∷ rs) = IsInPlace heads before r × AreInPlace heads (Some r.seq) rs

-- the first of the records that is stray has its mark at this offset
abbrev pub HasStray : List HeaderFact → Option ℕ → List RecordFact → ℕ → Type 0
HasStray heads before [] at = ⊥
HasStray heads before (r ∷ rs) at =
    ((IsInPlace heads before r → ⊥) × (at ≡ r.at)) ⊎ (IsInPlace heads before r × HasStray heads (Some r.seq) rs at)

-- ---- headers

-- the hash in the record with a number, where there is one
abbrev pub hash_at : List RecordFact → ℕ → Option Hash
hash_at [] seq = None
hash_at (r ∷ rs) seq = if r.seq == seq then Some r.hash else hash_at rs seq

abbrev pub or_else : Option Hash → Hash → Hash
or_else None missing = missing
or_else (Some hash) missing = hash

-- the set without transactions after the ledger with a hash
abbrev pub empty_set : Hash → TransactionSet
empty_set previous = record { previous_ledger_hash = previous; txs = [] }

abbrev pub no_results : TransactionResultSet
no_results = record { results = [] }

abbrev pub empty_set_hash : Hash → Hash
empty_set_hash previous = hash_of_set (empty_set previous)

abbrev pub no_results_hash : Hash
no_results_hash = results_hash_of no_results

-- the hash of a header's set: a missing one is the empty one on the hash that the header names as that of the ledger
-- before
abbrev pub set_hash_for : List RecordFact → HeaderFact → Hash
set_hash_for sets h = or_else (hash_at sets h.seq) (empty_set_hash h.previous)

-- the hash of a header's results: missing ones are the empty list
abbrev pub results_hash_for : List RecordFact → HeaderFact → Hash
results_hash_for results h = or_else (hash_at results h.seq) no_results_hash

-- ---- the chain

-- a header that is the next of the chain: of the number wanted, after the header whose hash is `last`
pub record IsLinked (sets results : List RecordFact) (want : ℕ) (last : Hash) (h : HeaderFact) : Type 0 where
  pub number : h.seq ≡ want
  pub own : h.stated ≡ h.own
  pub link : h.previous ≡ last
  pub same_set : h.set ≡ set_hash_for sets h
  pub same_results : h.results ≡ results_hash_for results h

-- headers that are the next ones, one after another
abbrev pub AreLinked : (sets results : List RecordFact) → ℕ → Hash → List HeaderFact → Type 0
AreLinked sets results want last [] = Unit {0}
AreLinked sets results want last (h ∷ hs) =
    IsLinked sets results want last h × AreLinked sets results (want + 1) h.stated hs

-- the hash of the last header, or the one before them all
abbrev pub last_hash : Hash → List HeaderFact → Hash
last_hash before [] = before
last_hash before (h ∷ hs) = last_hash h.stated hs

-- What is wrong with a header, by the first test that it fails.
abbrev pub IsWrong : (sets results : List RecordFact) → ℕ → Hash → HeaderFact → HistoryFault → Type 0
IsWrong sets results want last h (fault.Seq at wanted given) =
    (h.seq ≢ want) × (at ≡ h.at) × (wanted ≡ want) × (given ≡ h.seq)
IsWrong sets results want last h (fault.HeaderHash at) = (h.seq ≡ want) × (h.stated ≢ h.own) × (at ≡ h.at)
IsWrong sets results want last h (fault.Link at) =
    (h.seq ≡ want) × (h.stated ≡ h.own) × (h.previous ≢ last) × (at ≡ h.at)
IsWrong sets results want last h (fault.SetHash at) =
    (h.seq ≡ want) × (h.stated ≡ h.own) × (h.previous ≡ last) × (h.set ≢ set_hash_for sets h) × (at ≡ h.at)
IsWrong sets results want last h (fault.ResultHash at) =
    (h.seq ≡ want) × (h.stated ≡ h.own) × (h.previous ≡ last) × (h.set ≡ set_hash_for sets h)
    × (h.results ≢ results_hash_for results h) × (at ≡ h.at)
IsWrong sets results want last h other = ⊥

-- the first header that isn't linked is wrong in this way
abbrev pub IsBroken : (sets results : List RecordFact) → ℕ → Hash → List HeaderFact → HistoryFault → Type 0
IsBroken sets results want last [] wrong = ⊥
IsBroken sets results want last (h ∷ hs) wrong =
    IsWrong sets results want last h wrong
    ⊎ (IsLinked sets results want last h × IsBroken sets results (want + 1) h.stated hs wrong)

-- ---- the whole

-- each record of the three files is read
pub record AreRead (h : History) (headers : List HeaderFact) (sets results : List RecordFact) : Type 0 where
  pub headers_read : HasFacts header_at h.headers headers
  pub sets_read : HasFacts set_at h.sets sets
  pub results_read : HasFacts results_at h.results results

-- The files form a chain from `before`, whose first ledger has the number `first`: each record is read, none is stray,
-- and each header is linked.
pub record IsChain (h : History) (before : Hash) (first : ℕ) (headers : List HeaderFact) : Type 0 where
  pub sets : List RecordFact
  pub results : List RecordFact
  pub read : AreRead h headers sets results
  pub sets_in_place : AreInPlace headers None sets
  pub results_in_place : AreInPlace headers None results
  pub linked : AreLinked sets results first before headers

-- the number of headers, and the hash of the last
pub record IsVerified (h : History) (before : Hash) (first : ℕ) (v : Verified) : Type 0 where
  pub headers : List HeaderFact
  pub chain : IsChain h before first headers
  pub closes : v.closes ≡ length headers
  pub last : v.last ≡ last_hash before headers

-- ---- the first fault, in the order of the tests

-- the first file with a record that isn't read
abbrev pub IsUnread : History → HistoryFault → Type 0
IsUnread h (fault.Xdr file at kind) =
    ((file ≡ 0) × HasFault header_at h.headers (record { at = at; kind = kind }))
    ⊎ ((file ≡ 1) × ((hs : List HeaderFact) × HasFacts header_at h.headers hs)
    × HasFault set_at h.sets (record { at = at; kind = kind }))
    ⊎ ((file ≡ 2) × ((hs : List HeaderFact) × HasFacts header_at h.headers hs)
    × ((rs : List RecordFact) × HasFacts set_at h.sets rs)
    × HasFault results_at h.results (record { at = at; kind = kind }))
IsUnread h other = ⊥

-- the first stray record of the second file, and of the third where the second has none
abbrev pub IsStray : List HeaderFact → (sets results : List RecordFact) → HistoryFault → Type 0
IsStray headers sets results (fault.Stray file at) =
    ((file ≡ 1) × HasStray headers None sets at)
    ⊎ ((file ≡ 2) × AreInPlace headers None sets × HasStray headers None results at)
IsStray headers sets results other = ⊥

-- a record is stray; or none is, and a header is wrong
abbrev pub IsRefusedFor : List HeaderFact → (sets results : List RecordFact) → Hash → ℕ → HistoryFault → Type 0
IsRefusedFor headers sets results before first wrong =
    IsStray headers sets results wrong
    ⊎ (AreInPlace headers None sets × AreInPlace headers None results
    × IsBroken sets results first before headers wrong)

-- the three files are read, and something is wrong with them
pub record IsRefused (h : History) (before : Hash) (first : ℕ) (wrong : HistoryFault) : Type 0 where
  pub headers : List HeaderFact
  pub sets : List RecordFact
  pub results : List RecordFact
  pub read : AreRead h headers sets results
  pub why : IsRefusedFor headers sets results before first wrong

abbrev pub IsFirstFault : History → Hash → ℕ → HistoryFault → Type 0
IsFirstFault h before first fault.NoMemory = Unit {0}
IsFirstFault h before first wrong = IsUnread h wrong ⊎ IsRefused h before first wrong

-- The chain holds, and these are its length and its last hash; or this is the first fault. Want of memory says nothing.
abbrev pub IsJudged : History → Hash → ℕ → Result Verified HistoryFault → Type 0
IsJudged h before first (Ok v) = IsVerified h before first v
IsJudged h before first (Err wrong) = IsFirstFault h before first wrong
