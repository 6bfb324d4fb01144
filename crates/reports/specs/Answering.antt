-- What the answer to a query of a ledger leaves but the line on standard error, and each part of it.
use Rattle.std.specs.Prelude.{◌≡◌, ℕ, ◌≤◌, List, [], length, Option, None, Result, Ok, Err, IfSome}
use Rattle.std.specs.Io.KnownBytes.{IsAtEnd}
use Rattle.run_outcome.specs.close_rules.State.{ClosingState}
use Rattle.xdr_core.specs.Position.{start_of}
use Rattle.path_finder.specs.declared.query.PathQuery.{PathQuery}
use Rattle.path_finder.specs.declared.query.PathFault.{PathFault}
use Rattle.path_finder.specs.declared.query.PathFault.TheVariants as fault
use Rattle.path_finder.specs.declared.query.Found.{Found}
use Rattle.path_finder.specs.Encoding.{path_query}
use Rattle.path_finder.specs.Query.{bad_index, candidates_of, max_candidates}
use Rattle.run_outcome.specs.run_streams.Seen.{Seen, Failed, IsUntouched, Received}
use Rattle.run_outcome.specs.declared.status.Status.{Status}
use Rattle.run_outcome.specs.declared.status.Status.TheVariants as status
use Rattle.run_outcome.specs.Outcome.{Outcome, silent}
use Rattle.run_outcome.specs.PathRun.{IsPathFound, IsPathAnswer, IsPathAnswerOf, IsQueryAnswered, IsPathless, IsPathEnd}
use Rattle.run_outcome.specs.PathRun.{path_lines, path_outcome, unanswered_line, max_query_len}
use Rattle.outside.specs.Streams.{GaveMore}
use Rattle.reports.specs.Ends.{Wrote}

-- ---- the query

-- why the input wasn't read to its end
abbrev pub IsUnread : (input : Seen) → (end : Status) → Type 0
IsUnread input status.ReadFault = Failed input
IsUnread input (status.BadInput at) = (at ≡ max_query_len) × GaveMore input.before input.now max_query_len
IsUnread input status.NoMemory = Unit {0}
IsUnread input other = ⊥

-- the query is the entire text, or each ledger answers to the text that it isn't one
abbrev pub IsQueryIn : (text : List ℕ) → Result PathQuery Status → Type 0
IsQueryIn text (Ok query) =
    (at : ℕ) × (path_query.read (start_of text) ≡ Ok (query, record { at = at; rest = [] }))
IsQueryIn text (Err (status.BadInput at)) =
    (s : ClosingState) → IsPathAnswerOf s (path_query.read (start_of text)) (silent (status.BadInput at))
IsQueryIn text (Err status.NoMemory) = Unit {0}
IsQueryIn text (Err other) = ⊥

-- what each ledger finds to the query is its answer to the input
abbrev pub IsAsked : PathQuery → (bytes : List ℕ) → Type 0
IsAsked query bytes = (s : ClosingState) (found : Result (Option Found) PathFault) → IsPathFound s query found
    → IsPathAnswer s bytes (path_outcome found)

-- the query is the entire input, or why there is none
abbrev pub IsQueryRead : (input : Seen) → Result PathQuery Status → Type 0
IsQueryRead input (Ok query) = IsAtEnd input.now × IfSome input.before (λ bytes. IsAsked query bytes)
IsQueryRead input (Err (status.BadInput at)) =
    IfSome input.before (λ bytes. (s : ClosingState) → IsPathAnswer s bytes (silent (status.BadInput at)))
IsQueryRead input (Err status.ReadFault) = Failed input
IsQueryRead input (Err status.NoMemory) = Unit {0}
IsQueryRead input (Err other) = ⊥

-- ---- the answer

-- what a ledger finds to a query, unless memory was refused
abbrev pub Finds : ClosingState → PathQuery → Result (Option Found) PathFault → Type 0
Finds s query (Err fault.NoMemory) = Unit {0}
Finds s query found = IsPathFound s query found

-- what is written of it
abbrev pub WroteAnswer : Result (Option Found) PathFault → (out : Seen) → (end : Status) → Type 0
WroteAnswer (Ok found) out end = Wrote out (path_lines found) status.Done end
WroteAnswer (Err fault.NoMemory) out end = (end ≡ status.NoMemory) × IsUntouched out
WroteAnswer (Err wrong) out end = Wrote out (unanswered_line wrong) status.Refused end

pub record AnswersQuery (s : ClosingState) (input out : Seen) (end : Status) : Type 0 where
  pub answered : IsQueryAnswered s input out end
  pub ended : end ≡ status.Done → IsAtEnd input.now
  pub unwritten : IsPathless end → Received out []
  pub read_fault : end ≡ status.ReadFault → Failed input
  pub write_fault : end ≡ status.WriteFault → Failed out
  pub is_end : IsPathEnd end

-- ---- a query with which nothing is wrong

-- the input is one
pub record IsValidQuery (bytes : List ℕ) : Type 0 where
  pub few : length bytes ≤ max_query_len
  pub query : PathQuery
  pub at : ℕ
  pub reads : path_query.read (start_of bytes) ≡ Ok (query, record { at = at; rest = [] })
  pub valid : bad_index query ≡ None
  pub candidates : length (candidates_of query) ≤ max_candidates

-- the lines of what a ledger finds to it were written
abbrev pub WroteFound : ClosingState → PathQuery → (out : Seen) → Type 0
WroteFound s query out = (found : Option Found) × IsPathFound s query (Ok found) × Received out (path_lines found)

-- ---- the law

-- a ledger has at most one answer to an input
abbrev pub AnswersAreOne : Type 0
AnswersAreOne = (s : ClosingState) (bytes : List ℕ) (one other : Outcome) → IsPathAnswer s bytes one
    → IsPathAnswer s bytes other → one ≡ other
