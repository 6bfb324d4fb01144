-- The operations of this crate, by their types.
use Rattle.std.specs.Prelude.{Err}
use Rattle.op_types.specs.declared.operation.OperationBody.{OperationBody}
use Rattle.op_types.specs.declared.operation.OperationBody.TheVariants as body
use Rattle.op_types.specs.declared.operation_result.OperationResult.TheVariants.{NotSupported}
use Rattle.entry_map.specs.EntryMap.{EntryMap}
use Rattle.sponsor_rules.specs.declared.context.Ctx.{Ctx}
use Rattle.op_form.specs.Done.{Attempt, Done, done_of}
use Rattle.op_pool.specs.Deposit.{liquidity_pool_deposit}
use Rattle.op_pool.specs.Withdraw.{liquidity_pool_withdraw}

-- Operations of other types are those of other crates.
abbrev pub attempt_of : Ctx → OperationBody → EntryMap → Attempt
attempt_of ctx (body.LiquidityPoolDeposit op) m = liquidity_pool_deposit ctx op m
attempt_of ctx (body.LiquidityPoolWithdraw op) m = liquidity_pool_withdraw ctx op m
attempt_of ctx other m = Err NotSupported

unfoldable pub pool_operation : Ctx → OperationBody → EntryMap → Done
pool_operation ctx of m = done_of ctx m (attempt_of ctx of m)
