-- What the walk over the headers knows on its way.
use Rattle.std.specs.Prelude.{◌≡◌, ◌≢◌, ◌≤◌, ◌+◌, ℕ, List, [], ◌∷◌, drop, Option, Some, None, Result, Ok, Err}
use Rattle.ledger_types.specs.declared.ids.Hash.{Hash}
use Rattle.archive_files.specs.declared.facts.HeaderFact.{HeaderFact}
use Rattle.archive_files.specs.declared.facts.RecordFact.{RecordFact}
use Rattle.archive_files.specs.declared.history.HistoryFault.{HistoryFault}
use Rattle.archive_files.specs.declared.history.HistoryFault.TheVariants as fault
use Rattle.archive_files.specs.Chain.{IsAbove, hash_at, IsLinked, AreLinked, last_hash, IsWrong, IsBroken}

-- what was said of a header's number, its own hash and the hash before it
abbrev pub IsLinkTested : ℕ → Hash → HeaderFact → Result (Unit {0}) HistoryFault → Type 0
IsLinkTested want last h (Ok x) = (h.seq ≡ want) × (h.stated ≡ h.own) × (h.previous ≡ last)
IsLinkTested want last h (Err (fault.Seq at wanted given)) =
    (h.seq ≢ want) × (at ≡ h.at) × (wanted ≡ want) × (given ≡ h.seq)
IsLinkTested want last h (Err (fault.HeaderHash at)) = (h.seq ≡ want) × (h.stated ≢ h.own) × (at ≡ h.at)
IsLinkTested want last h (Err (fault.Link at)) =
    (h.seq ≡ want) × (h.stated ≡ h.own) × (h.previous ≢ last) × (at ≡ h.at)
IsLinkTested want last h (Err other) = ⊥

-- what was said of its hashes of a set and of results
abbrev pub AreContentsTested : (set results : Hash) → HeaderFact → Result (Unit {0}) HistoryFault → Type 0
AreContentsTested set results h (Ok x) = (h.set ≡ set) × (h.results ≡ results)
AreContentsTested set results h (Err (fault.SetHash at)) = (h.set ≢ set) × (at ≡ h.at)
AreContentsTested set results h (Err (fault.ResultHash at)) = (h.set ≡ set) × (h.results ≢ results) × (at ≡ h.at)
AreContentsTested set results h (Err other) = ⊥

-- each record's number is above the one before it
abbrev pub AreRising : Option ℕ → List RecordFact → Type 0
AreRising before [] = Unit {0}
AreRising before (r ∷ rs) = IsAbove before r.seq × AreRising (Some r.seq) rs

-- the records ahead have the same hashes as all of them at each number from `seq` on
pub record IsAheadFor (seq : ℕ) (all ahead : List RecordFact) : Type 0 where
  pub rising : AreRising None ahead
  pub same : (n : ℕ) → seq ≤ n → hash_at ahead n ≡ hash_at all n

-- a header was tested, and each list goes on after it
pub record IsPassed (sets results : List RecordFact) (want : ℕ) (last : Hash) (h : HeaderFact)
    (sets_ahead results_ahead : List RecordFact) : Type 0 where
  pub linked : IsLinked sets results want last h
  pub sets_on : IsAheadFor (want + 1) sets sets_ahead
  pub results_on : IsAheadFor (want + 1) results results_ahead

abbrev pub IsTested : (sets results : List RecordFact) → ℕ → Hash → HeaderFact
    → (sets_ahead results_ahead : List RecordFact) → Result (Unit {0}) HistoryFault → Type 0
IsTested sets results want last h sets_ahead results_ahead (Ok x) =
    IsPassed sets results want last h sets_ahead results_ahead
IsTested sets results want last h sets_ahead results_ahead (Err wrong) = IsWrong sets results want last h wrong

-- Some headers were tested. What is found from here on is what is found of them all.
pub record IsWalkedTo (sets results : List RecordFact) (first : ℕ) (before : Hash) (headers : List HeaderFact)
    (done want : ℕ) (last : Hash) (sets_ahead results_ahead : List RecordFact) : Type 0 where
  pub wanted : want ≡ first + done
  pub linked : AreLinked sets results want last (drop done headers) → AreLinked sets results first before headers
  pub broken : (wrong : HistoryFault) → IsBroken sets results want last (drop done headers) wrong
      → IsBroken sets results first before headers wrong
  pub last_one : last_hash last (drop done headers) ≡ last_hash before headers
  pub sets_on : IsAheadFor want sets sets_ahead
  pub results_on : IsAheadFor want results results_ahead

-- all headers were tested
abbrev pub IsWalked : (sets results : List RecordFact) → ℕ → Hash → List HeaderFact → Result Hash HistoryFault
    → Type 0
IsWalked sets results first before headers (Ok last) =
    AreLinked sets results first before headers × (last ≡ last_hash before headers)
IsWalked sets results first before headers (Err fault.NoMemory) = Unit {0}
IsWalked sets results first before headers (Err wrong) = IsBroken sets results first before headers wrong
