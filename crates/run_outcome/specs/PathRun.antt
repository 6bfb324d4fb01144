-- What `path` answers to a query of a ledger: the path that costs the least.
use Rattle.std.specs.Prelude.{◌≡◌, ◌≢◌, ◌<◌, ◌≤◌, ℕ, pos, List, [], ◌∷◌, ◌++◌, length, codes, IfOk, IfSome}
use Rattle.std.specs.Prelude.{Option, Some, None, Result, Ok, Err, ◌⊎◌}
use Rattle.std.specs.List.{flat_map}
use Rattle.std.specs.Fmt.{decimal, signed_decimal}
use Rattle.hex.specs.Hex.{encode_lower}
use Rattle.close_rules.specs.ledger_types.declared.asset.Asset.{Asset}
use Rattle.close_rules.specs.ledger_types.declared.header.LedgerHeader.{LedgerHeader}
use Rattle.close_rules.specs.xdr_core.declared.fault.XdrFault.{XdrFault}
use Rattle.close_rules.specs.xdr_core.Position.{Reading, start_of}
use Rattle.close_rules.specs.xdr_entries.Basic.{asset}
use Rattle.close_rules.specs.tx_apply.Contexts.{ctx_of}
use Rattle.close_rules.specs.State.{ClosingState}
use Rattle.path_finder.specs.declared.query.PathQuery.{PathQuery}
use Rattle.path_finder.specs.declared.query.PathFault.{PathFault}
use Rattle.path_finder.specs.declared.query.PathFault.TheVariants as fault
use Rattle.path_finder.specs.declared.query.Found.{Found}
use Rattle.path_finder.specs.Encoding.{path_query}
use Rattle.path_finder.specs.Query.{IsJudged, candidates_of}
use Rattle.path_finder.specs.Costs.{cost_of}
use Rattle.path_finder.specs.Cheapest.{IsCheapestPath}
use Rattle.sponsor_rules.specs.declared.context.Ctx.{Ctx}
use Rattle.run_streams.specs.Seen.{Seen}
use Rattle.run_outcome.specs.declared.status.Status.{Status}
use Rattle.run_outcome.specs.declared.status.Status.TheVariants as status
use Rattle.run_outcome.specs.Statuses.{ended_line}
use Rattle.run_outcome.specs.Lines.{spaced}
use Rattle.run_outcome.specs.Outcome.{Outcome, silent, IsPrefix}
use Rattle.run_outcome.specs.Run.{Answered}

-- ---- lines

-- `cost <what is sent, in stroops>`
unfoldable pub cost_line : Found → List ℕ
cost_line found = ended_line (codes "cost" ++ spaced (signed_decimal found.cost))

-- `via <XDR of the asset, in hexadecimal digits>`
unfoldable pub via_line : Asset → List ℕ
via_line via = ended_line (codes "via" ++ spaced (encode_lower (asset.encoding via)))

-- the cost and each asset on the way, or `none`
unfoldable pub path_lines : Option Found → List ℕ
path_lines (Some found) = cost_line found ++ flat_map via_line found.path
path_lines None = ended_line (codes "none")

-- the name of a fault and its value after a space (memory is no fault of a query)
unfoldable pub path_fault_text : PathFault → List ℕ
path_fault_text (fault.BadQuery index) = codes "BadQuery" ++ spaced (decimal index)
path_fault_text (fault.TooMany given) = codes "TooMany" ++ spaced (decimal given)
path_fault_text fault.NoMemory = []

-- `refused <fault> <its value>`
unfoldable pub unanswered_line : PathFault → List ℕ
unanswered_line wrong = ended_line (codes "refused" ++ spaced (path_fault_text wrong))

-- ---- outcomes

-- the query's source is that of the operation, under the ledger's header
abbrev pub query_context : LedgerHeader → PathQuery → Ctx
query_context header query = ctx_of header header.scp_value.close_time header.id_pool query.source (pos 0)

-- the cheapest path in the entries of a state, or why the query isn't answered
abbrev pub IsPathFound : ClosingState → PathQuery → Result (Option Found) PathFault → Type 0
IsPathFound s query found =
    IsJudged found query
    × IfOk found (IsCheapestPath (cost_of (query_context s.header query) query s.entries) (candidates_of query))
    × (found ≢ Err fault.NoMemory)

abbrev pub path_outcome : Result (Option Found) PathFault → Outcome
path_outcome (Ok found) = record { status = status.Done; text = path_lines found }
path_outcome (Err wrong) = record { status = status.Refused; text = unanswered_line wrong }

-- a query that is the entire input is answered, and bytes after it are a fault of the input
abbrev pub IsPathAnswerAt : ClosingState → PathQuery → (at : ℕ) → (rest : List ℕ) → Outcome → Type 0
IsPathAnswerAt s query at (byte ∷ rest) o = o ≡ silent (status.BadInput at)
IsPathAnswerAt s query at [] o =
    (found : Result (Option Found) PathFault) × IsPathFound s query found × (o ≡ path_outcome found)

-- a query that was read from the start of the input, or not
abbrev pub IsPathAnswerOf : ClosingState → Reading XdrFault PathQuery → Outcome → Type 0
IsPathAnswerOf s (Err wrong) o = o ≡ silent (status.BadInput wrong.at)
IsPathAnswerOf s (Ok x) o = IsPathAnswerAt s x.0 x.1.at x.1.rest o

-- the most bytes of a query
abbrev pub max_query_len : ℕ
max_query_len = 8192

-- a longer input is a fault of its own, before anything is read of it
abbrev pub IsPathAnswer : ClosingState → (input : List ℕ) → Outcome → Type 0
IsPathAnswer s input o =
    ((max_query_len < length input) × (o ≡ silent (status.BadInput max_query_len)))
    ⊎ ((length input ≤ max_query_len) × IsPathAnswerOf s (path_query.read (start_of input)) o)

-- nothing, or a prefix of the lines
abbrev pub IsPathAnswerPrefix : ClosingState → (input prefix : List ℕ) → Type 0
IsPathAnswerPrefix s input prefix =
    (prefix ≡ []) ⊎ ((o : Outcome) × IsPathAnswer s input o × IsPrefix prefix o.text)

-- ---- what is left of a run

-- the ends of a query of an open ledger, which only a write, the volume or memory may bring about elsewhere
abbrev pub IsPathEnd : Status → Type 0
IsPathEnd status.Done = Unit {0}
IsPathEnd status.Refused = Unit {0}
IsPathEnd status.ReadFault = Unit {0}
IsPathEnd status.WriteFault = Unit {0}
IsPathEnd status.NoMemory = Unit {0}
IsPathEnd (status.BadInput at) = Unit {0}
IsPathEnd other = ⊥

-- the ends at which nothing is written, beside those of a volume that doesn't open
abbrev pub IsPathless : Status → Type 0
IsPathless status.ReadFault = Unit {0}
IsPathless status.DiskFault = Unit {0}
IsPathless (status.BadInput at) = Unit {0}
IsPathless other = ⊥

-- the end and the text are those of an answer to the input, or are cut short
abbrev pub IsQueryAnswered : ClosingState → (input out : Seen) → (end : Status) → Type 0
IsQueryAnswered s input out end =
    IfSome input.before (λ bytes. Answered (IsPathAnswer s bytes) (IsPathAnswerPrefix s bytes) out end)
