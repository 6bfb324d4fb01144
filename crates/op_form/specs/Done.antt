-- What an operation does: what it answers, the entries and the context that it leaves, and what it moves
-- (OperationFrame::apply in stellar-core, where an operation that fails is rolled back).
use Rattle.std.specs.Prelude.{◌≡◌, ℤ, List, [], Result, Ok, Err}
use Rattle.ledger_types.specs.declared.ids.AccountId.{AccountId}
use Rattle.ledger_types.specs.declared.ids.ClaimableBalanceId.{ClaimableBalanceId}
use Rattle.ledger_types.specs.declared.ids.Hash.{Hash}
use Rattle.ledger_types.specs.declared.asset.Asset.{Asset}
use Rattle.op_types.specs.declared.operation_result.OperationResult.{OperationResult}
use Rattle.entry_map.specs.EntryMap.{EntryMap}
use Rattle.entry_map.specs.Undo.{Undo, with_current}
use Rattle.sponsor_rules.specs.declared.context.Ctx.{Ctx}

-- ---- moves

-- Who holds amounts. An operation's transit holds what is on its way along a path.
pub data Holder : Type 0 where
  OfAccount : AccountId → Holder
  OfBalance : ClaimableBalanceId → Holder
  OfPool : Hash → Holder
  FeePool : Holder
  Transit : Holder

-- an amount of an asset that one holder gives to another
pub record Move : Type 0 where
  pub from : Holder
  pub to : Holder
  pub asset : Asset
  pub amount : ℤ

-- ---- what an operation does

pub record Done : Type 0 where
  pub result : OperationResult
  -- the entries afterwards
  pub entries : EntryMap
  -- the context afterwards, in which the next operation of the transaction is applied
  pub ctx : Ctx
  pub moves : List Move

-- what an operation does that succeeds, or the result of one that fails
abbrev pub Attempt : Type 0
Attempt = Result Done OperationResult

-- An operation that fails leaves the entries and its context, and moves nothing.
abbrev pub done_of : Ctx → EntryMap → Attempt → Done
done_of ctx m (Ok done) = done
done_of ctx m (Err result) = record { result = result; entries = m; ctx = ctx; moves = [] }

-- ---- what a call does

-- the call answered the result, and left the entries and the context, that are given
pub record Does (result : OperationResult) (ctx : Ctx) (old new : Undo) (done : Done) : Type 0 where
  pub result_is : result ≡ done.result
  pub entries_are : new ≡ with_current old done.entries
  pub ctx_is : ctx ≡ done.ctx

-- the same of a call that leaves its context
abbrev pub Makes : OperationResult → Ctx → Undo → Undo → Attempt → Type 0
Makes result ctx old new attempt = Does result ctx old new (done_of ctx old.current attempt)
