-- The operations of a transaction in their order (TransactionFrame::applyOperations in stellar-core).
use Rattle.std.specs.Prelude.{ℕ, ◌+◌, Bool, true, ◌&&◌, List, [], ◌∷◌, ◌++◌, Option, Some, None, Err}
use Rattle.ledger_types.specs.declared.ids.AccountId.{AccountId}
use Rattle.ledger_types.specs.declared.account.AccountEntry.{AccountEntry}
use Rattle.op_types.specs.declared.operation.Operation.{Operation}
use Rattle.op_types.specs.declared.operation_result.OperationResult.{OperationResult}
use Rattle.op_types.specs.declared.operation_result.OperationResult.TheVariants.{NoAccount}
use Rattle.entry_map.specs.EntryMap.{EntryMap}
use Rattle.entry_slots.specs.Accounts.{account_at}
use Rattle.sponsor_rules.specs.declared.context.Ctx.{Ctx}
use Rattle.op_form.specs.Done.{Done, Move, done_of}
use Rattle.op_laws.specs.AnyOperation.{any_operation}
use Rattle.tx_apply.specs.Success.{is_success}
use Rattle.tx_apply.specs.Signing.{source_of}

-- ---- one operation

-- the context of an operation: its index and its source
abbrev pub inserted : Ctx → (index : ℕ) → (source : AccountId) → Ctx
inserted ctx index source = record ctx { op_index = index; op_source = source }

-- an operation whose source has no account is not run
abbrev pub done_by : Ctx → Operation → EntryMap → Option AccountEntry → Done
done_by ctx operation m None = done_of ctx m (Err NoAccount)
done_by ctx operation m (Some account) = any_operation ctx operation.body m

-- one operation, at its index
abbrev pub done_at : Ctx → (source : AccountId) → (index : ℕ) → Operation → EntryMap → Done
done_at ctx source index operation m =
    done_by (inserted ctx index (source_of source operation)) operation m (account_at m (source_of source operation))

-- ---- all of them

-- an operation in its turn: its context, the entries before it, and what it did
pub record Step : Type 0 where
  pub ctx : Ctx
  pub entries : EntryMap
  pub done : Done

pub record Ran : Type 0 where
  pub results : List OperationResult
  pub succeeds : Bool
  pub entries : EntryMap
  pub ctx : Ctx
  pub moves : List Move
  pub steps : List Step

abbrev pub followed_by : Ctx → EntryMap → Done → Ran → Ran
followed_by ctx m first rest = record {
  results = first.result ∷ rest.results;
  succeeds = is_success first.result && rest.succeeds;
  entries = rest.entries;
  ctx = rest.ctx;
  moves = first.moves ++ rest.moves;
  steps = record { ctx = ctx; entries = m; done = first } ∷ rest.steps;
}

-- each in turn; one that fails leaves the entries, and the rest still run
unfoldable pub run : Ctx → (source : AccountId) → (index : ℕ) → List Operation → EntryMap → Ran
run ctx source index [] m =
    record { results = []; succeeds = true; entries = m; ctx = ctx; moves = []; steps = [] }
run ctx source index (operation ∷ operations) m =
    let first = done_at ctx source index operation m in
    followed_by (inserted ctx index (source_of source operation)) m first
    (run first.ctx source (index + 1) operations first.entries)
