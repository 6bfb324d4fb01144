-- LIQUIDITY_POOL_DEPOSIT (LiquidityPoolDepositOpFrame in stellar-core; CAP-0038).
use Rattle.std.specs.Prelude.{ℕ, ◌+◌, ℤ, pos, neg_ℤ, ◌*ℤ◌, ◌+ℤ◌, int_le, int_lt, nat_eq, nat_lt, min, not, unsigned_abs}
use Rattle.std.specs.Prelude.{◌||◌, ◌&&◌, ◌∷◌, [], Bool, true, false, Option, Some, None}
use Rattle.ledger_types.specs.declared.ids.AccountId.{AccountId}
use Rattle.ledger_types.specs.declared.asset.TrustLineAsset.TheVariants as line
use Rattle.ledger_types.specs.declared.price.Price.{Price}
use Rattle.ledger_types.specs.declared.trust_line.TrustLineEntry.{TrustLineEntry}
use Rattle.ledger_types.specs.declared.liquidity_pool.LiquidityPoolEntry.{LiquidityPoolEntry}
use Rattle.ledger_types.specs.declared.key.LedgerKey.{LedgerKey}
use Rattle.ledger_types.specs.declared.key.LedgerKey.TheVariants as key
use Rattle.op_types.specs.declared.operation_result.OperationResult.{OperationResult}
use Rattle.op_types.specs.declared.operation_result.OperationResult.TheVariants.{Inner, NotSupported}
use Rattle.op_types.specs.declared.operation_result.OperationResultTr.TheVariants as tr
use Rattle.op_types.specs.declared.pool_ops.LiquidityPoolDepositOp.{LiquidityPoolDepositOp}
use Rattle.op_types.specs.declared.pool_results.LiquidityPoolDepositResult.{LiquidityPoolDepositResult}
use Rattle.op_types.specs.declared.pool_results.LiquidityPoolDepositResult.TheVariants as depositing
use Rattle.entry_map.specs.EntryMap.{EntryMap}
use Rattle.entry_slots.specs.Lines.{line_at}
use Rattle.entry_slots.specs.Pools.{pool_at}
use Rattle.entry_slots.specs.Tests.{Tests}
use Rattle.reserve_rules.specs.Reserve.{greatest_i64, line_room}
use Rattle.sponsor_rules.specs.declared.context.Ctx.{Ctx}
use Rattle.pool_math.specs.Pools.{Deposit, greatest, shares_for, deposited}
use Rattle.trade_cross.specs.legal_rules.Trades.{holder}
use Rattle.trade_cross.specs.Holdings.{has_at, is_short_of, paying}
use Rattle.op_form.specs.Done.{Attempt, Move, OfAccount, OfPool}
use Rattle.op_form.specs.Flags.{has_any, is_authorized}
use Rattle.op_form.specs.Steps.{unless_refused, after_some, success}
use Rattle.pool_shares.specs.Withdrawing.{map_with_shares}

abbrev pub answer : LiquidityPoolDepositResult → OperationResult
answer code = Inner (tr.LiquidityPoolDeposit code)

-- ---- tests of what is asked for

-- DISABLE_LIQUIDITY_POOL_DEPOSIT_FLAG (2) of the header
abbrev pub disabled_tests : Ctx → Tests OperationResult
disabled_tests ctx = (has_any ctx.flags 2, NotSupported) ∷ []

abbrev pub is_price_bad : Price → Bool
is_price_bad price = int_le price.n (pos 0) || int_le price.d (pos 0)

-- a fraction is above another one; both denominators are above 0
abbrev pub is_above : (n d other_n other_d : ℤ) → Bool
is_above n d other_n other_d = int_lt (other_n *ℤ d) (n *ℤ other_d)

abbrev pub deposit_tests : LiquidityPoolDepositOp → Tests OperationResult
deposit_tests op = (
  int_le op.max_amount_a (pos 0) || int_le op.max_amount_b (pos 0) || is_price_bad op.min_price
      || is_price_bad op.max_price
      || is_above op.min_price.n op.min_price.d op.max_price.n op.max_price.d,
  answer depositing.Malformed,
) ∷ []

-- ---- tests of what exists

-- a line that carries AUTHORIZED isn't there
abbrev pub is_unauthorized : Option TrustLineEntry → Bool
is_unauthorized None = true
is_unauthorized (Some line) = not (is_authorized line)

-- what an account has under a key can't be used; lumens, and what it issues, it may always use
abbrev pub is_unusable : EntryMap → Option LedgerKey → Bool
is_unusable m (Some (key.TrustLine id held)) = is_unauthorized (line_at m id held)
is_unusable m other = false

-- by both assets so many shares pass 64 bits
abbrev pub do_shares_pass : LiquidityPoolDepositOp → LiquidityPoolEntry → Bool
do_shares_pass op pool =
    let total = unsigned_abs pool.total_pool_shares in
    nat_lt 0 total && nat_lt greatest
    (min (shares_for (unsigned_abs pool.reserve_a) total (unsigned_abs op.max_amount_a))
    (shares_for (unsigned_abs pool.reserve_b) total (unsigned_abs op.max_amount_b)))

-- what is put in, and the shares for it
abbrev pub deposit_by : LiquidityPoolDepositOp → LiquidityPoolEntry → Deposit
deposit_by op pool =
    deposited (unsigned_abs pool.reserve_a) (unsigned_abs pool.reserve_b) (unsigned_abs pool.total_pool_shares)
    (unsigned_abs op.max_amount_a) (unsigned_abs op.max_amount_b)

-- the price lies outside the bounds, which belong to what is allowed
abbrev pub is_price_outside : LiquidityPoolDepositOp → (a b : ℕ) → Bool
is_price_outside op a b =
    is_above op.min_price.n op.min_price.d (pos a) (pos b) || is_above (pos a) (pos b) op.max_price.n op.max_price.d

abbrev pub is_price_wrong : LiquidityPoolDepositOp → (a b : ℕ) → Bool
is_price_wrong op a b = nat_eq a 0 || nat_eq b 0 || is_price_outside op a b

-- an amount more of what there is passes 64 bits
abbrev pub does_pass : ℤ → ℕ → Bool
does_pass there more = int_lt greatest_i64 (there +ℤ pos more)

abbrev pub is_pool_full : LiquidityPoolEntry → Deposit → Bool
is_pool_full pool d =
    does_pass pool.reserve_a d.a || does_pass pool.reserve_b d.b || does_pass pool.total_pool_shares d.shares

abbrev pub given_tests : Ctx → LiquidityPoolDepositOp → TrustLineEntry → LiquidityPoolEntry → Deposit → EntryMap
    → Tests OperationResult
given_tests ctx op share pool d m =
    let gives_a = holder ctx.op_source pool.params.asset_a in
    let gives_b = holder ctx.op_source pool.params.asset_b in
    (is_unusable m gives_a || is_unusable m gives_b, answer depositing.NotAuthorized)
    ∷ (do_shares_pass op pool, answer depositing.PoolFull)
    ∷ (
      is_short_of (pos d.a) (has_at ctx.base_reserve m gives_a)
          || is_short_of (pos d.b) (has_at ctx.base_reserve m gives_b),
      answer depositing.Underfunded,
    )
    ∷ (is_price_wrong op d.a d.b, answer depositing.BadPrice)
    ∷ (int_lt (line_room share) (pos d.shares), answer depositing.LineFull)
    ∷ (is_pool_full pool d, answer depositing.PoolFull)
    ∷ []

-- ---- the operation

-- the source has so many shares more, and gives both amounts
abbrev pub map_after_depositing : AccountId → LiquidityPoolDepositOp → LiquidityPoolEntry → Deposit → EntryMap
    → EntryMap
map_after_depositing id op pool d m =
    paying (holder id pool.params.asset_b) (neg_ℤ (pos d.b))
    (paying (holder id pool.params.asset_a) (neg_ℤ (pos d.a))
    (map_with_shares id op.pool_id (pos d.a) (pos d.b) (pos d.shares) m))

abbrev pub move_of_a : Ctx → LiquidityPoolDepositOp → LiquidityPoolEntry → Deposit → Move
move_of_a ctx op pool d = record {
  from = OfAccount ctx.op_source;
  to = OfPool op.pool_id;
  asset = pool.params.asset_a;
  amount = pos d.a;
}

abbrev pub move_of_b : Ctx → LiquidityPoolDepositOp → LiquidityPoolEntry → Deposit → Move
move_of_b ctx op pool d = record {
  from = OfAccount ctx.op_source;
  to = OfPool op.pool_id;
  asset = pool.params.asset_b;
  amount = pos d.b;
}

abbrev pub put_in : Ctx → LiquidityPoolDepositOp → TrustLineEntry → LiquidityPoolEntry → Deposit → EntryMap → Attempt
put_in ctx op share pool d m =
    unless_refused (given_tests ctx op share pool d m)
    (success ctx (answer depositing.Success) (map_after_depositing ctx.op_source op pool d m)
    (move_of_a ctx op pool d ∷ move_of_b ctx op pool d ∷ []))

-- A line of shares has its pool beside it in each legal state.
abbrev pub deposit_into : Ctx → LiquidityPoolDepositOp → EntryMap → TrustLineEntry → Attempt
deposit_into ctx op m share =
    after_some (pool_at m op.pool_id) (answer depositing.NoTrust)
    (λ pool. put_in ctx op share pool (deposit_by op pool) m)

abbrev pub liquidity_pool_deposit : Ctx → LiquidityPoolDepositOp → EntryMap → Attempt
liquidity_pool_deposit ctx op m =
    unless_refused (disabled_tests ctx)
    (unless_refused (deposit_tests op)
    (after_some (line_at m ctx.op_source (line.PoolShare op.pool_id)) (answer depositing.NoTrust)
    (deposit_into ctx op m)))
