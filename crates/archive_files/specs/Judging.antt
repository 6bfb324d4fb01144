-- What is known of a history on the way to its verdict.
use Rattle.std.specs.Prelude.{◌≡◌, ℕ, List, length, None, Result, Ok, Err}
use Rattle.xdr_core.specs.declared.read_fault.ReadFault.{ReadFault}
use Rattle.xdr_core.specs.declared.read_fault.ReadFault.TheVariants as read
use Rattle.ledger_types.specs.declared.ids.Hash.{Hash}
use Rattle.archive_files.specs.declared.facts.HeaderFact.{HeaderFact}
use Rattle.archive_files.specs.declared.facts.RecordFact.{RecordFact}
use Rattle.archive_files.specs.declared.history.HistoryFault.{HistoryFault}
use Rattle.archive_files.specs.declared.history.HistoryFault.TheVariants as fault
use Rattle.archive_files.specs.declared.history.Verified.{Verified}
use Rattle.archive_files.specs.Chain.{AreInPlace, AreLinked, IsRefusedFor, last_hash}
use Rattle.archive_files.specs.Walk.{IsWalked}

abbrev pub unread : ℕ → ReadFault → HistoryFault
unread file (read.Xdr wrong) = fault.Xdr file wrong.at wrong.kind
unread file read.NoMemory = fault.NoMemory

-- headers were judged by records none of which is stray
abbrev pub AreHeadersJudged : List HeaderFact → (sets results : List RecordFact) → Hash → ℕ
    → Result Verified HistoryFault → Type 0
AreHeadersJudged headers sets results before first (Ok v) =
    AreLinked sets results first before headers × (v.closes ≡ length headers) × (v.last ≡ last_hash before headers)
AreHeadersJudged headers sets results before first (Err wrong) =
    IsWalked sets results first before headers (Err wrong)

-- the facts of the records were judged
abbrev pub AreJudged : List HeaderFact → (sets results : List RecordFact) → Hash → ℕ → Result Verified HistoryFault
    → Type 0
AreJudged headers sets results before first (Ok v) =
    AreInPlace headers None sets × AreInPlace headers None results × AreLinked sets results first before headers
    × (v.closes ≡ length headers) × (v.last ≡ last_hash before headers)
AreJudged headers sets results before first (Err fault.NoMemory) = Unit {0}
AreJudged headers sets results before first (Err wrong) = IsRefusedFor headers sets results before first wrong
