-- Names that several proofs of this crate use.
pub use Rattle.std.proofs.Common.{Bool, List, None, Option, Some, ap, arith, false, inl, inr, of_z, refl, rules, subst}
pub use Rattle.std.proofs.Common.{sym, to_z, true, w64, ℕ, ◌<◌, ◌∙◌, ◌≡◌, ◌≤◌, ◌⊎◌}
pub use Rattle.std.proofs.lemmas.Bool.{ltb-false, ltb-true, or_parts}
pub use Rattle.std.proofs.lemmas.Int.{ints}
pub use Rattle.std.specs.Prelude.{[], int_lt, nat_lt, neg_ℤ, pos, unsigned_abs, ℤ, ◌&&◌, ◌+ℤ◌, ◌-ℤ◌, ◌<ℤ◌, ◌||◌, ◌∷◌}
pub use Rattle.std.specs.Prelude.{◌≤ℤ◌}
pub use Rattle.entry_map.specs.EntryMap.{EntryMap}
pub use Rattle.entry_slots.specs.LineExtensions.{line_liabilities}
pub use Rattle.entry_slots.specs.Lines.{line_of, line_slot_at}
unfoldable pub use Rattle.entry_slots.specs.Lines.{line_at}
pub use Rattle.entry_slots.specs.Pools.{pool_slot_at}
unfoldable pub use Rattle.entry_slots.specs.Pools.{pool_at}
pub use Rattle.entry_slots.specs.Tests.{Tests, first_fault}
pub use Rattle.entry_slots.specs.declared.lines.LineSlot.{LineSlot}
pub use Rattle.entry_slots.specs.declared.pools.PoolSlot.{PoolSlot}
pub use Rattle.ledger_types.proofs.Arithmetic.{at_most_trans, int_lt_false, natural_nonnegative}
pub use Rattle.ledger_types.proofs.Arithmetic.{nonnegative_from_positive, sub_nonnegative}
pub use Rattle.ledger_types.specs.declared.asset.TrustLineAsset.TheVariants.{PoolShare}
pub use Rattle.ledger_types.specs.declared.liquidity_pool.LiquidityPoolEntry.{LiquidityPoolEntry}
pub use Rattle.ledger_types.specs.declared.trust_line.TrustLineEntry.{TrustLineEntry}
pub use Rattle.op_form.specs.Premises.{BalancesAreInRange}
pub use Rattle.op_pool.specs.Calls.{DoPaymentsFit, DoesDepositFit, DoesWithdrawalFit, IsDepositBy, amount_tests}
pub use Rattle.op_pool.specs.Calls.{does_pass, is_below_minimum, is_either_full, is_either_unusable, is_pool_full}
pub use Rattle.op_pool.specs.Calls.{is_price_wrong, map_after_putting, part_tests, signed_part}
pub use Rattle.op_types.specs.declared.operation_result.OperationResult.{OperationResult}
pub use Rattle.pool_math.specs.Calls.{AnswersDeposit, IsUnsigned, numbers_of}
pub use Rattle.pool_shares.proofs.Loaded.{line_loaded, pool_loaded}
pub use Rattle.pool_shares.specs.Premises.{ArePoolsSound}
pub use Rattle.pool_shares.specs.Withdrawing.{Part, map_with_shares, part_of, share_key, with_change}
pub use Rattle.reserve_rules.specs.Reserve.{available, greatest_i64, line_available, line_room, min_balance, room}
pub use Rattle.sponsor_rules.specs.declared.context.Ctx.{Ctx}
pub use Rattle.trade_cross.specs.Amounts.{DoesPaymentFit, payment}
pub use Rattle.trade_cross.specs.Holdings.{account_has, account_takes, at_least_nothing, has_at, is_short_of, line_has}
pub use Rattle.trade_cross.specs.Holdings.{line_takes, most_taken, paying}
pub use Rattle.trade_cross.specs.Locations.{DoSumsFit, DoesFit, location_key}
pub use Rattle.trade_cross.specs.legal_rules.Ranges.{IsPoolInRange}
pub use Rattle.trade_cross.specs.legal_rules.Trades.{holder}
