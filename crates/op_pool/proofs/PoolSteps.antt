-- Deposits into pools and withdrawals from them, step by step.
use Rattle.entry_map.specs.EntryMap.{EntryMap}
use Rattle.entry_slots.specs.Lines.{line_at}
use Rattle.entry_slots.specs.Pools.{pool_at}
use Rattle.ledger_types.proofs.Arithmetic.{int_lt_false, nonnegative_from_int_le}
use Rattle.ledger_types.specs.declared.ids.Hash.{Hash}
use Rattle.ledger_types.specs.declared.liquidity_pool.LiquidityPoolEntry.{LiquidityPoolEntry}
use Rattle.ledger_types.specs.declared.trust_line.TrustLineEntry.{TrustLineEntry}
use Rattle.legal_rules.specs.Trades.{holder}
use Rattle.op_form.specs.Done.{Done}
use Rattle.op_pool.specs.Deposit.{deposit_by, does_pass, is_pool_full, map_after_depositing}
use Rattle.op_pool.specs.Withdraw.{map_after_taking}
use Rattle.op_types.specs.declared.pool_ops.LiquidityPoolDepositOp.{LiquidityPoolDepositOp}
use Rattle.op_types.specs.declared.pool_ops.LiquidityPoolWithdrawOp.{LiquidityPoolWithdrawOp}
use Rattle.op_types.specs.declared.pool_results.LiquidityPoolDepositResult.{LiquidityPoolDepositResult}
use Rattle.op_types.specs.declared.pool_results.LiquidityPoolWithdrawResult.{LiquidityPoolWithdrawResult}
use Rattle.pool_math.specs.Pools.{Deposit}
use Rattle.pool_shares.specs.Withdrawing.{map_after_withdrawing, map_with_shares, part_of}
use Rattle.reserve_rules.specs.Reserve.{greatest_i64}
use Rattle.sponsor_rules.specs.declared.context.Ctx.{Ctx}
use Rattle.std.proofs.Common.{subst}
use Rattle.std.proofs.lemmas.Bool.{or_parts}
use Rattle.std.specs.Prelude.{Some, [], false, int_le, int_lt, neg_ℤ, pos, ◌+ℤ◌, ◌||◌, ◌∷◌, ◌≡◌, ◌≤ℤ◌}
use Rattle.op_form.proofs.Steps.{AllPass, Answering, Ends, past, past_some}
use Rattle.op_form.proofs.Walks.{Before, Leaves, Left, Logic, left, succeeded}
use Rattle.trade_cross.specs.Holdings.{paying}
use Rattle.trade_cross.proofs.BoundHold.{paying_holds}
use Rattle.pool_shares.proofs.SharesHold.{MayHave, may_give, shares_hold}
use Rattle.ledger_types.specs.declared.asset.TrustLineAsset.TheVariants as line
use Rattle.op_pool.specs.Deposit as depositing_into
use Rattle.op_pool.specs.Withdraw as withdrawing_from
use Rattle.op_types.specs.declared.operation_result.OperationResultTr.TheVariants as tr
use Rattle.op_types.specs.declared.pool_results.LiquidityPoolDepositResult.TheVariants as depositing
use Rattle.op_types.specs.declared.pool_results.LiquidityPoolWithdrawResult.TheVariants as withdrawing

-- ---- LIQUIDITY_POOL_DEPOSIT

pub deposit_steps : (x : Answering) (Q : Done → Type 0) (ctx : Ctx) (op : LiquidityPoolDepositOp) (m : EntryMap)
    → ((share : TrustLineEntry) (pool : LiquidityPoolEntry) → AllPass (depositing_into.deposit_tests op)
    → line_at m ctx.op_source (line.PoolShare op.pool_id) ≡ Some share → pool_at m op.pool_id ≡ Some pool
    → (let d = deposit_by op pool in AllPass (depositing_into.given_tests ctx op share pool d m)
    → Q (succeeded ctx (depositing_into.answer depositing.Success) (map_after_depositing ctx.op_source op pool d m)
    (depositing_into.move_of_a ctx op pool d ∷ depositing_into.move_of_b ctx op pool d ∷ []))))
    → Ends x Q (depositing_into.liquidity_pool_deposit ctx op m)
deposit_steps x Q ctx op m done =
    past (depositing_into.disabled_tests ctx) _ (x.not_supported, tt)
    (λ enabled. past (depositing_into.deposit_tests op) _ (code depositing.Malformed, tt)
    (λ pass. past_some (line_at m ctx.op_source (line.PoolShare op.pool_id))
    (depositing_into.answer depositing.NoTrust) _
    (code depositing.NoTrust)
    (λ share held. past_some (pool_at m op.pool_id) (depositing_into.answer depositing.NoTrust) _
    (code depositing.NoTrust)
    (λ pool exists. past (depositing_into.given_tests ctx op share pool (deposit_by op pool) m) _ (
      code depositing.NotAuthorized,
      (
        code depositing.PoolFull,
        (
          code depositing.Underfunded,
          (code depositing.BadPrice, (code depositing.LineFull, (code depositing.PoolFull, tt))),
        ),
      ),
    )
    (λ may. record { ends = done share pool pass held exists may })))))
  where
    code : (c : LiquidityPoolDepositResult) → x.Answer (depositing_into.answer c)
    code c = x.bare (tr.LiquidityPoolDeposit c) tt

-- what doesn't pass 64 bits may be had
may_take : (p : LiquidityPoolEntry) (d : Deposit) → is_pool_full p d ≡ false
    → MayHave (pos d.a) (pos d.b) (pos d.shares) p
may_take p d less =
    let shares = or_parts (does_pass p.reserve_a d.a || does_pass p.reserve_b d.b)
    (does_pass p.total_pool_shares d.shares) less in
    let assets = or_parts (does_pass p.reserve_a d.a) (does_pass p.reserve_b d.b) shares.0 in
    record {
      reserve_a = λ le. int_lt_false greatest_i64 (p.reserve_a +ℤ pos d.a) assets.0;
      reserve_b = λ le. int_lt_false greatest_i64 (p.reserve_b +ℤ pos d.b) assets.1;
      total = λ le. int_lt_false greatest_i64 (p.total_pool_shares +ℤ pos d.shares) shares.1;
      counted = λ le. le;
    }

that_pool : (m : EntryMap) (id : Hash) (p q : LiquidityPoolEntry) → pool_at m id ≡ Some p → pool_at m id ≡ Some q
    → p ≡ q
that_pool m id p q exists at = cc

pub deposited : (w : Logic) (ctx : Ctx) (op : LiquidityPoolDepositOp) (m : EntryMap) → Before w ctx m
    → Leaves w (depositing_into.liquidity_pool_deposit ctx op m)
deposited w ctx op m before =
    deposit_steps w.answers (Left w) ctx op m (λ share pool pass held exists may.
    let d = deposit_by op pool in
    let a = holder ctx.op_source pool.params.asset_a in
    let put_in = map_with_shares ctx.op_source op.pool_id (pos d.a) (pos d.b) (pos d.shares) m in
    left (tr.LiquidityPoolDeposit depositing.Success) tt before
    (paying_holds w.inv (holder ctx.op_source pool.params.asset_b) (neg_ℤ (pos d.b)) (paying a (neg_ℤ (pos d.a)) put_in)
    (paying_holds w.inv a (neg_ℤ (pos d.a)) put_in
    (shares_hold w.inv ctx.op_source op.pool_id (pos d.a) (pos d.b) (pos d.shares) m
    (λ asks p at. subst (MayHave (pos d.a) (pos d.b) (pos d.shares)) (that_pool m op.pool_id pool p exists at)
    (may_take pool d may.1.1.1.1.1.0)) before.entries))))

-- ---- LIQUIDITY_POOL_WITHDRAW

pub withdraw_steps : (x : Answering) (Q : Done → Type 0) (ctx : Ctx) (op : LiquidityPoolWithdrawOp) (m : EntryMap)
    → ((share : TrustLineEntry) (pool : LiquidityPoolEntry) → AllPass (withdrawing_from.withdraw_tests op)
    → line_at m ctx.op_source (line.PoolShare op.pool_id) ≡ Some share → AllPass (withdrawing_from.share_tests op share)
    → pool_at m op.pool_id ≡ Some pool
    → (let part = part_of pool op.amount in AllPass (withdrawing_from.taken_tests ctx op pool part m)
    → Q (succeeded ctx (withdrawing_from.answer withdrawing.Success) (map_after_taking ctx.op_source op pool part m)
    (withdrawing_from.move_of_a ctx op pool part ∷ withdrawing_from.move_of_b ctx op pool part ∷ []))))
    → Ends x Q (withdrawing_from.liquidity_pool_withdraw ctx op m)
withdraw_steps x Q ctx op m done =
    past (withdrawing_from.disabled_tests ctx) _ (x.not_supported, tt)
    (λ enabled. past (withdrawing_from.withdraw_tests op) _ (code withdrawing.Malformed, tt)
    (λ pass. past_some (line_at m ctx.op_source (line.PoolShare op.pool_id))
    (withdrawing_from.answer withdrawing.NoTrust) _ (code withdrawing.NoTrust)
    (λ share held. past (withdrawing_from.share_tests op share) _ (code withdrawing.Underfunded, tt)
    (λ enough. past_some (pool_at m op.pool_id) (withdrawing_from.answer withdrawing.NoTrust) _
    (code withdrawing.NoTrust)
    (λ pool exists. past (withdrawing_from.taken_tests ctx op pool (part_of pool op.amount) m) _
    (code withdrawing.UnderMinimum, (code withdrawing.LineFull, tt))
    (λ may. record { ends = done share pool pass held enough exists may }))))))
  where
    code : (c : LiquidityPoolWithdrawResult) → x.Answer (withdrawing_from.answer c)
    code c = x.bare (tr.LiquidityPoolWithdraw c) tt

amount_low : (op : LiquidityPoolWithdrawOp) → AllPass (withdrawing_from.withdraw_tests op) → pos 0 ≤ℤ op.amount
amount_low op pass =
    let first = or_parts (int_le op.amount (pos 0) || int_lt op.min_amount_a (pos 0)) (int_lt op.min_amount_b (pos 0))
    pass.0 in
    nonnegative_from_int_le op.amount (or_parts (int_le op.amount (pos 0)) (int_lt op.min_amount_a (pos 0)) first.0).0

pub withdrawn_from : (w : Logic) (ctx : Ctx) (op : LiquidityPoolWithdrawOp) (m : EntryMap) → Before w ctx m
    → Leaves w (withdrawing_from.liquidity_pool_withdraw ctx op m)
withdrawn_from w ctx op m before =
    withdraw_steps w.answers (Left w) ctx op m (λ share pool pass held enough exists may.
    let part = part_of pool op.amount in
    let a = holder ctx.op_source pool.params.asset_a in
    let given_back = map_after_withdrawing ctx.op_source op.pool_id op.amount part m in
    left (tr.LiquidityPoolWithdraw withdrawing.Success) tt before
    (paying_holds w.inv (holder ctx.op_source pool.params.asset_b) (pos part.b) (paying a (pos part.a) given_back)
    (paying_holds w.inv a (pos part.a) given_back
    (shares_hold w.inv ctx.op_source op.pool_id (neg_ℤ (pos part.a)) (neg_ℤ (pos part.b)) (neg_ℤ op.amount) m
    (λ asks p at. may_give part.a part.b op.amount p (amount_low op pass)) before.entries))))
