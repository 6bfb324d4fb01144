-- What calls answer.
use Rattle.std.specs.Prelude.{◌≡◌, ℤ, pos, neg_ℤ, ◌+ℤ◌, ◌≤ℤ◌, int_le, int_lt, nat_eq, nat_lt, unsigned_abs, ◌∷◌, []}
use Rattle.std.specs.Prelude.{◌||◌, Bool, true, false, Option, Some, None}
use Rattle.ledger_types.specs.declared.ids.AccountId.{AccountId}
use Rattle.ledger_types.specs.declared.asset.PoolParams.{PoolParams}
use Rattle.ledger_types.specs.declared.trust_line.TrustLineEntry.{TrustLineEntry}
use Rattle.ledger_types.specs.declared.liquidity_pool.LiquidityPoolEntry.{LiquidityPoolEntry}
use Rattle.op_types.specs.declared.operation_result.OperationResult.{OperationResult}
use Rattle.op_types.specs.declared.pool_ops.LiquidityPoolDepositOp.{LiquidityPoolDepositOp}
use Rattle.op_types.specs.declared.pool_ops.LiquidityPoolWithdrawOp.{LiquidityPoolWithdrawOp}
use Rattle.op_types.specs.declared.pool_results.LiquidityPoolDepositResult.TheVariants as depositing
use Rattle.op_types.specs.declared.pool_results.LiquidityPoolWithdrawResult.TheVariants as withdrawing
use Rattle.entry_map.specs.EntryMap.{EntryMap}
use Rattle.entry_slots.specs.Tests.{Tests}
use Rattle.reserve_rules.specs.Reserve.{greatest_i64, line_room}
use Rattle.sponsor_rules.specs.declared.context.Ctx.{Ctx}
use Rattle.pool_math.specs.declared.deposits.Deposited.{Deposited}
use Rattle.pool_math.specs.Calls.{IsUnsigned}
use Rattle.pool_math.specs.Parts.{signed}
use Rattle.trade_cross.specs.legal_rules.Trades.{holder}
use Rattle.trade_cross.specs.Amounts.{DoesPaymentFit}
use Rattle.trade_cross.specs.Holdings.{has_at, is_short_of, most_taken, paying}
use Rattle.trade_cross.specs.Locations.{DoesFit}
use Rattle.pool_shares.specs.Fits.{DoesPoolFit}
use Rattle.pool_shares.specs.declared.withdrawing.Part.{Part as PartOfCall}
use Rattle.pool_shares.specs.Withdrawing.{Part, map_with_shares}
use Rattle.op_pool.specs.Deposit.{answer, is_price_bad, is_above, do_shares_pass, deposit_by, is_unusable}
use Rattle.op_pool.specs.Withdraw.{answer as answer_of_withdrawal}

-- ---- payments

-- the map, in which an account has so much more of a pool's two assets; each may be below 0
abbrev pub map_after_payments : AccountId → PoolParams → (a b : ℤ) → EntryMap → EntryMap
map_after_payments id params a b m = paying (holder id params.asset_b) b (paying (holder id params.asset_a) a m)

pub record DoPaymentsFit (id : AccountId) (params : PoolParams) (a b : ℤ) (m : EntryMap) : Type 0 where
  pub first : DoesPaymentFit m (holder id params.asset_a) a
  pub second : DoesPaymentFit (paying (holder id params.asset_a) a m) (holder id params.asset_b) b

-- ---- deposits

-- what is asked for can't be
abbrev pub is_malformed : LiquidityPoolDepositOp → Bool
is_malformed op =
    int_le op.max_amount_a (pos 0) || int_le op.max_amount_b (pos 0) || is_price_bad op.min_price
    || is_price_bad op.max_price
    || is_above op.min_price.n op.min_price.d op.max_price.n op.max_price.d

-- a deposit was worked out, or its shares pass 64 bits
abbrev pub IsDepositBy : LiquidityPoolDepositOp → LiquidityPoolEntry → Option Deposited → Type 0
IsDepositBy op pool None = do_shares_pass op pool ≡ true
IsDepositBy op pool (Some d) = (do_shares_pass op pool ≡ false) × (d ≡ signed (deposit_by op pool))

-- the source can't use what it has of either asset
abbrev pub is_either_unusable : Ctx → PoolParams → EntryMap → Bool
is_either_unusable ctx params m =
    is_unusable m (holder ctx.op_source params.asset_a) || is_unusable m (holder ctx.op_source params.asset_b)

-- less of either asset is available than is put in
abbrev pub is_either_short : Ctx → PoolParams → (a b : ℤ) → EntryMap → Bool
is_either_short ctx params a b m =
    is_short_of a (has_at ctx.base_reserve m (holder ctx.op_source params.asset_a))
    || is_short_of b (has_at ctx.base_reserve m (holder ctx.op_source params.asset_b))

-- the price of amounts of at least 0 lies outside the bounds
abbrev pub is_outside : LiquidityPoolDepositOp → (a b : ℤ) → Bool
is_outside op a b =
    is_above op.min_price.n op.min_price.d a b || is_above a b op.max_price.n op.max_price.d

abbrev pub is_price_wrong : LiquidityPoolDepositOp → (a b : ℤ) → Bool
is_price_wrong op a b = nat_eq (unsigned_abs a) 0 || nat_eq (unsigned_abs b) 0 || is_outside op a b

-- so much more of what there is passes 64 bits
abbrev pub does_pass : (there more : ℤ) → Bool
does_pass there more = int_lt greatest_i64 (there +ℤ more)

abbrev pub is_pool_full : LiquidityPoolEntry → (a b shares : ℤ) → Bool
is_pool_full pool a b shares =
    does_pass pool.reserve_a a || does_pass pool.reserve_b b || does_pass pool.total_pool_shares shares

-- the tests of what is put in
abbrev pub amount_tests : Ctx → LiquidityPoolDepositOp → TrustLineEntry → LiquidityPoolEntry → Deposited → EntryMap
    → Tests OperationResult
amount_tests ctx op share pool d m =
    (is_either_short ctx pool.params d.a d.b m, answer depositing.Underfunded)
    ∷ (is_price_wrong op d.a d.b, answer depositing.BadPrice)
    ∷ (int_lt (line_room share) d.shares, answer depositing.LineFull)
    ∷ (is_pool_full pool d.a d.b d.shares, answer depositing.PoolFull)
    ∷ []

-- the map, in which the source has so many shares more and gives both amounts
abbrev pub map_after_putting : AccountId → LiquidityPoolDepositOp → LiquidityPoolEntry → Deposited → EntryMap
    → EntryMap
map_after_putting id op pool d m =
    map_after_payments id pool.params (neg_ℤ d.a) (neg_ℤ d.b) (map_with_shares id op.pool_id d.a d.b d.shares m)

-- the sums of a deposit fit
pub record DoesDepositFit (id : AccountId) (op : LiquidityPoolDepositOp) (share : TrustLineEntry)
    (pool : LiquidityPoolEntry) (d : Deposited) (m : EntryMap) : Type 0 where
  pub unsigned : IsUnsigned d
  pub balance : DoesFit share.balance d.shares
  pub reserves : DoesPoolFit pool (record { a = d.a; b = d.b; shares = d.shares })
  pub payments : DoPaymentsFit id pool.params (neg_ℤ d.a) (neg_ℤ d.b)
      (map_with_shares id op.pool_id d.a d.b d.shares m)

-- ---- withdrawals

-- a part in numbers with a sign
abbrev pub signed_part : Part → PartOfCall
signed_part part = record { a = pos part.a; b = pos part.b }

-- an amount is below its minimum
abbrev pub is_below_minimum : LiquidityPoolWithdrawOp → (a b : ℤ) → Bool
is_below_minimum op a b = int_lt a op.min_amount_a || int_lt b op.min_amount_b

-- there is too little room for either amount
abbrev pub is_either_full : Ctx → PoolParams → (a b : ℤ) → EntryMap → Bool
is_either_full ctx params a b m =
    nat_lt (most_taken m (holder ctx.op_source params.asset_a)) (unsigned_abs a)
    || nat_lt (most_taken m (holder ctx.op_source params.asset_b)) (unsigned_abs b)

-- the tests of what is taken out
abbrev pub part_tests : Ctx → LiquidityPoolWithdrawOp → PoolParams → PartOfCall → EntryMap → Tests OperationResult
part_tests ctx op params part m =
    (is_below_minimum op part.a part.b, answer_of_withdrawal withdrawing.UnderMinimum)
    ∷ (is_either_full ctx params part.a part.b m, answer_of_withdrawal withdrawing.LineFull)
    ∷ []

-- the map, in which the source has so many shares less and both amounts
abbrev pub map_after_handing : AccountId → LiquidityPoolWithdrawOp → LiquidityPoolEntry → PartOfCall → EntryMap
    → EntryMap
map_after_handing id op pool part m =
    map_after_payments id pool.params part.a part.b
    (map_with_shares id op.pool_id (neg_ℤ part.a) (neg_ℤ part.b) (neg_ℤ op.amount) m)

-- the sums of a withdrawal fit
pub record DoesWithdrawalFit (id : AccountId) (op : LiquidityPoolWithdrawOp) (share : TrustLineEntry)
    (pool : LiquidityPoolEntry) (part : PartOfCall) (m : EntryMap) : Type 0 where
  pub amount : pos 0 ≤ℤ op.amount
  pub a : pos 0 ≤ℤ part.a
  pub b : pos 0 ≤ℤ part.b
  pub balance : DoesFit share.balance (neg_ℤ op.amount)
  pub reserves : DoesPoolFit pool (record { a = neg_ℤ part.a; b = neg_ℤ part.b; shares = neg_ℤ op.amount })
  pub payments : DoPaymentsFit id pool.params part.a part.b
      (map_with_shares id op.pool_id (neg_ℤ part.a) (neg_ℤ part.b) (neg_ℤ op.amount) m)
