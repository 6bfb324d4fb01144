-- CHANGE_TRUST for shares of a pool (ChangeTrustOpFrame in stellar-core; CAP-0038).
use Rattle.std.specs.Prelude.{◌≡◌, ◌+◌, ℤ, pos, int_le, int_lt, not, ◌||◌, ◌∷◌, [], Bool, true, false}
use Rattle.std.specs.Prelude.{Option, Some, None, if◌then◌else◌}
use Rattle.std.specs.Ordering.{int_eq, is_lt, is_eq}
use Rattle.ledger_types.specs.declared.ids.Hash.{Hash}
use Rattle.ledger_types.specs.declared.asset.PoolParams.{PoolParams}
use Rattle.ledger_types.specs.declared.asset.TrustLineAsset.TheVariants as line
use Rattle.ledger_types.specs.declared.trust_line.TrustLineEntry.{TrustLineEntry}
use Rattle.ledger_types.specs.declared.liquidity_pool.LiquidityPoolEntry.{LiquidityPoolEntry}
use Rattle.ledger_types.specs.declared.key.LedgerKey.{LedgerKey}
use Rattle.ledger_types.specs.declared.key.LedgerKey.TheVariants as key
use Rattle.ledger_types.specs.KeyOrder.{asset_cmp}
use Rattle.op_types.specs.declared.operation_result.OperationResult.{OperationResult}
use Rattle.op_types.specs.declared.operation_result.OperationResult.TheVariants.{NotSupported, TooManySubentries}
use Rattle.op_types.specs.declared.trust_results.ChangeTrustResult.{ChangeTrustResult}
use Rattle.op_types.specs.declared.trust_results.ChangeTrustResult.TheVariants as trust
use Rattle.valid_values.specs.Assets.{is_valid_asset}
use Rattle.hash_ids.specs.Ids.{pool_id_of}
use Rattle.entry_map.specs.EntryMap.{EntryMap}
use Rattle.entry_slots.specs.Lines.{line_at, with_line}
use Rattle.entry_slots.specs.LineExtensions.{use_count}
use Rattle.entry_slots.specs.Pools.{pool_at}
use Rattle.entry_slots.specs.Tests.{Tests, first_fault}
use Rattle.sponsor_rules.specs.reserve_rules.Reserve.{greatest_i64}
use Rattle.sponsor_rules.specs.declared.context.Ctx.{Ctx}
use Rattle.sponsor_rules.specs.Adding.{map_after_adding}
use Rattle.trade_cross.specs.legal_rules.PoolShares.{needed_line}
use Rattle.trade_cross.specs.legal_rules.ShareLaws.{share_line, map_with_share_lines}
use Rattle.op_form.specs.Done.{Attempt}
use Rattle.op_form.specs.Flags.{has_any}
use Rattle.op_form.specs.Steps.{unless_refused, after_charge, success}
use Rattle.pool_shares.specs.ShareLines.{map_with_pool, map_without_share_line}
use Rattle.op_trust.specs.ChangeTrust.{answer, limit_tests, with_limit}

-- ---- the pool that is asked for

abbrev pub pool_named_by : PoolParams → Hash
pool_named_by params = pool_id_of params.asset_a params.asset_b

-- two valid assets in their order, and the fee of 30 of 10000
abbrev pub is_pool_bad : PoolParams → Bool
is_pool_bad params =
    not (is_valid_asset params.asset_a) || not (is_valid_asset params.asset_b)
    || not (is_lt (asset_cmp params.asset_a params.asset_b))
    || not (int_eq params.fee (pos 30))

abbrev pub share_tests : PoolParams → ℤ → Tests OperationResult
share_tests params limit = (int_lt limit (pos 0) || is_pool_bad params, answer trust.Malformed) ∷ []

abbrev pub are_same_params : PoolParams → PoolParams → Bool
are_same_params a b =
    if is_eq (asset_cmp a.asset_a b.asset_a) then
    (if is_eq (asset_cmp a.asset_b b.asset_b) then int_eq a.fee b.fee else false)
    else false

-- another pool has the id
abbrev pub is_taken : PoolParams → Option LiquidityPoolEntry → Bool
is_taken params None = false
is_taken params (Some pool) = not (are_same_params pool.params params)

abbrev pub pool_tests : PoolParams → EntryMap → Tests OperationResult
pool_tests params m = (is_taken params (pool_at m (pool_named_by params)), NotSupported) ∷ []

-- ---- a line that is there

abbrev pub share_removed : Ctx → PoolParams → TrustLineEntry → EntryMap → Attempt
share_removed ctx params share m =
    unless_refused ((not (int_eq (use_count share) (pos 0)), answer trust.CannotDelete) ∷ [])
    (success ctx (answer trust.Success) (map_without_share_line ctx.op_source (pool_named_by params) params m) [])

abbrev pub share_limited : Ctx → Hash → ℤ → EntryMap → Attempt
share_limited ctx pool limit m =
    success ctx (answer trust.Success) (with_line m ctx.op_source (line.PoolShare pool) (with_limit limit)) []

-- ---- a new line

-- a line has to exist and to be authorised, at least to maintain liabilities (flags 1 and 2)
abbrev pub needed_tests : Option TrustLineEntry → Tests OperationResult
needed_tests None = (true, answer trust.TrustLineMissing) ∷ []
needed_tests (Some needed) = (not (has_any needed.flags 3), answer trust.NotAuthMaintainLiabilities) ∷ []

-- the tests of what is needed under a key, where something is needed
abbrev pub needed_tests_at : EntryMap → Option LedgerKey → Tests OperationResult
needed_tests_at m (Some (key.TrustLine id held)) = needed_tests (line_at m id held)
needed_tests_at m other = []

-- A line's use count is the greatest that fits in 32 bits with a sign. This never happens: an account has at most 1000
-- subentries.
abbrev pub is_used_fully : Option TrustLineEntry → Bool
is_used_fully None = false
is_used_fully (Some needed) = int_le (pos 2147483647) (use_count needed)

abbrev pub is_used_fully_at : EntryMap → Option LedgerKey → Bool
is_used_fully_at m (Some (key.TrustLine id held)) = is_used_fully (line_at m id held)
is_used_fully_at m other = false

-- A pool's line count is the greatest that fits in 64 bits with a sign. This never happens: no memory has so many
-- lines.
abbrev pub is_held_fully : Option LiquidityPoolEntry → Bool
is_held_fully None = false
is_held_fully (Some pool) = int_le greatest_i64 pool.pool_shares_trust_line_count

abbrev pub count_tests : (needs_a needs_b : Option LedgerKey) → Hash → EntryMap → Tests OperationResult
count_tests needs_a needs_b pool m = (
  is_used_fully_at m needs_a || is_used_fully_at m needs_b || is_held_fully (pool_at m pool),
  TooManySubentries,
) ∷ []

abbrev pub zero_tests : (limit : ℤ) → Tests OperationResult
zero_tests limit = (int_eq limit (pos 0), answer trust.InvalidLimit) ∷ []

-- The pool is made where it doesn't exist. It and the lines in its assets count the new one.
abbrev pub share_added : Ctx → PoolParams → ℤ → EntryMap → Attempt
share_added ctx params limit m =
    let id = ctx.op_source in
    let pool = pool_named_by params in
    after_charge
    (map_after_adding ctx id (share_line (ctx.seq + 1) None id pool (pos 0) limit)
    (map_with_pool (ctx.seq + 1) pool params m)) (answer trust.LowReserve)
    (λ with_new. success ctx (answer trust.Success) (map_with_share_lines (pos 1) id pool params with_new) [])

-- ---- the operation

-- by the line that the source has, if it has one
abbrev pub share_changed : Ctx → PoolParams → ℤ → EntryMap → Option TrustLineEntry → Attempt
share_changed ctx params limit m (Some share) =
    unless_refused (limit_tests limit share)
    (if int_eq limit (pos 0) then share_removed ctx params share m
    else share_limited ctx (pool_named_by params) limit m)
share_changed ctx params limit m None =
    let needs_a = needed_line ctx.op_source params.asset_a in
    let needs_b = needed_line ctx.op_source params.asset_b in
    unless_refused (zero_tests limit)
    (unless_refused (needed_tests_at m needs_a)
    (unless_refused (needed_tests_at m needs_b)
    (unless_refused (count_tests needs_a needs_b (pool_named_by params) m) (share_added ctx params limit m))))

abbrev pub share_trust : Ctx → PoolParams → ℤ → EntryMap → Attempt
share_trust ctx params limit m =
    unless_refused (share_tests params limit)
    (unless_refused (pool_tests params m)
    (share_changed ctx params limit m (line_at m ctx.op_source (line.PoolShare (pool_named_by params)))))

-- ---- calls

-- the code of the first test of a needed line that holds, if one does
abbrev pub IsNeededFault : Tests OperationResult → Option ChangeTrustResult → Type 0
IsNeededFault tests None = first_fault tests ≡ None
IsNeededFault tests (Some code) = first_fault tests ≡ Some (answer code)
