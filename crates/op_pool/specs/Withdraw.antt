-- LIQUIDITY_POOL_WITHDRAW (LiquidityPoolWithdrawOpFrame in stellar-core; CAP-0038).
use Rattle.std.specs.Prelude.{pos, int_le, int_lt, nat_lt, ◌||◌, ◌∷◌, []}
use Rattle.ledger_types.specs.declared.ids.AccountId.{AccountId}
use Rattle.ledger_types.specs.declared.asset.TrustLineAsset.TheVariants as line
use Rattle.ledger_types.specs.declared.trust_line.TrustLineEntry.{TrustLineEntry}
use Rattle.ledger_types.specs.declared.liquidity_pool.LiquidityPoolEntry.{LiquidityPoolEntry}
use Rattle.op_types.specs.declared.operation_result.OperationResult.{OperationResult}
use Rattle.op_types.specs.declared.operation_result.OperationResult.TheVariants.{Inner, NotSupported}
use Rattle.op_types.specs.declared.operation_result.OperationResultTr.TheVariants as tr
use Rattle.op_types.specs.declared.pool_ops.LiquidityPoolWithdrawOp.{LiquidityPoolWithdrawOp}
use Rattle.op_types.specs.declared.pool_results.LiquidityPoolWithdrawResult.{LiquidityPoolWithdrawResult}
use Rattle.op_types.specs.declared.pool_results.LiquidityPoolWithdrawResult.TheVariants as withdrawing
use Rattle.entry_map.specs.EntryMap.{EntryMap}
use Rattle.entry_slots.specs.Lines.{line_at}
use Rattle.entry_slots.specs.Pools.{pool_at}
use Rattle.entry_slots.specs.Tests.{Tests}
use Rattle.sponsor_rules.specs.declared.context.Ctx.{Ctx}
use Rattle.trade_cross.specs.legal_rules.Trades.{holder}
use Rattle.trade_cross.specs.Holdings.{most_taken, paying}
use Rattle.op_form.specs.Done.{Attempt, Move, OfAccount, OfPool}
use Rattle.op_form.specs.Flags.{has_any}
use Rattle.op_form.specs.Steps.{unless_refused, after_some, success}
use Rattle.pool_shares.specs.Withdrawing.{Part, part_of, map_after_withdrawing}

abbrev pub answer : LiquidityPoolWithdrawResult → OperationResult
answer code = Inner (tr.LiquidityPoolWithdraw code)

-- ---- tests

-- DISABLE_LIQUIDITY_POOL_WITHDRAWAL_FLAG (4) of the header
abbrev pub disabled_tests : Ctx → Tests OperationResult
disabled_tests ctx = (has_any ctx.flags 4, NotSupported) ∷ []

abbrev pub withdraw_tests : LiquidityPoolWithdrawOp → Tests OperationResult
withdraw_tests op = (
  int_le op.amount (pos 0) || int_lt op.min_amount_a (pos 0) || int_lt op.min_amount_b (pos 0),
  answer withdrawing.Malformed,
) ∷ []

abbrev pub share_tests : LiquidityPoolWithdrawOp → TrustLineEntry → Tests OperationResult
share_tests op share = (int_lt share.balance op.amount, answer withdrawing.Underfunded) ∷ []

-- what is taken needs room, and no authorisation
abbrev pub taken_tests : Ctx → LiquidityPoolWithdrawOp → LiquidityPoolEntry → Part → EntryMap → Tests OperationResult
taken_tests ctx op pool part m =
    (int_lt (pos part.a) op.min_amount_a || int_lt (pos part.b) op.min_amount_b, answer withdrawing.UnderMinimum)
    ∷ (
      nat_lt (most_taken m (holder ctx.op_source pool.params.asset_a)) part.a
          || nat_lt (most_taken m (holder ctx.op_source pool.params.asset_b)) part.b,
      answer withdrawing.LineFull,
    )
    ∷ []

-- ---- the operation

-- the shares go back, and the source has both amounts
abbrev pub map_after_taking : AccountId → LiquidityPoolWithdrawOp → LiquidityPoolEntry → Part → EntryMap → EntryMap
map_after_taking id op pool part m =
    paying (holder id pool.params.asset_b) (pos part.b)
    (paying (holder id pool.params.asset_a) (pos part.a)
    (map_after_withdrawing id op.pool_id op.amount part m))

abbrev pub move_of_a : Ctx → LiquidityPoolWithdrawOp → LiquidityPoolEntry → Part → Move
move_of_a ctx op pool part = record {
  from = OfPool op.pool_id;
  to = OfAccount ctx.op_source;
  asset = pool.params.asset_a;
  amount = pos part.a;
}

abbrev pub move_of_b : Ctx → LiquidityPoolWithdrawOp → LiquidityPoolEntry → Part → Move
move_of_b ctx op pool part = record {
  from = OfPool op.pool_id;
  to = OfAccount ctx.op_source;
  asset = pool.params.asset_b;
  amount = pos part.b;
}

abbrev pub taken : Ctx → LiquidityPoolWithdrawOp → LiquidityPoolEntry → Part → EntryMap → Attempt
taken ctx op pool part m =
    unless_refused (taken_tests ctx op pool part m)
    (success ctx (answer withdrawing.Success) (map_after_taking ctx.op_source op pool part m)
    (move_of_a ctx op pool part ∷ move_of_b ctx op pool part ∷ []))

-- A line of shares has its pool beside it in each legal state.
abbrev pub withdraw_from : Ctx → LiquidityPoolWithdrawOp → EntryMap → TrustLineEntry → Attempt
withdraw_from ctx op m share =
    unless_refused (share_tests op share)
    (after_some (pool_at m op.pool_id) (answer withdrawing.NoTrust)
    (λ pool. taken ctx op pool (part_of pool op.amount) m))

abbrev pub liquidity_pool_withdraw : Ctx → LiquidityPoolWithdrawOp → EntryMap → Attempt
liquidity_pool_withdraw ctx op m =
    unless_refused (disabled_tests ctx)
    (unless_refused (withdraw_tests op)
    (after_some (line_at m ctx.op_source (line.PoolShare op.pool_id)) (answer withdrawing.NoTrust)
    (withdraw_from ctx op m)))
