-- Names that several proofs of this crate use.
pub use Rattle.std.proofs.Common.{All, Bool, IfSome, List, None, Option, Some, [], ap, append-nil, append_assoc, arith}
pub use Rattle.std.proofs.Common.{false, inl, inr, length, of_z, option_map, refl, rules, subst, sym, to_z, true, w32}
pub use Rattle.std.proofs.Common.{w64, ℕ, ◌%◌, ◌++◌, ◌<◌, ◌∙◌, ◌∷◌, ◌≡◌, ◌≢◌, ◌≤◌, ◌⊎◌}
pub use Rattle.std.proofs.lemmas.Int.{ints, to_z-of_z}
pub use Rattle.std.specs.FinMap.{entries, get}
pub use Rattle.std.specs.Ordering.{is_eq, ordering_then}
pub use Rattle.std.specs.Prelude.{if◌then◌else◌, int_lt, neg_ℤ, pos, unsigned_abs, ℤ, ◌+ℤ◌, ◌-ℤ◌, ◌<ℤ◌, ◌≤ℤ◌}
pub use Rattle.std.specs.declared.cmp.Ordering.TheVariants.{Equal, Greater, Less}
pub use Rattle.entry_map.proofs.Lookups.{erase_elsewhere}
pub use Rattle.entry_map.specs.EntryMap.{EntryMap, IsLeastAbove, IsNextAfter, erase, put}
pub use Rattle.entry_map.specs.Undo.{Undo}
pub use Rattle.entry_slots.proofs.ChangedEntries.{IsExact, accounts_exact, lines_exact, own_key, pools_exact}
pub use Rattle.entry_slots.proofs.ChangedEntries.{slot_value, with_beside, with_missing, with_there}
unfoldable pub use Rattle.entry_slots.specs.Accounts.{account_at, with_account}
pub use Rattle.entry_slots.specs.EntrySponsor.{sponsor_of}
pub use Rattle.entry_slots.specs.LineExtensions.{line_liabilities, use_count}
pub use Rattle.entry_slots.specs.Lines.{line_in, line_of, line_of_slot, line_slot, line_slot_at}
unfoldable pub use Rattle.entry_slots.specs.Lines.{line_at, with_line}
pub use Rattle.entry_slots.specs.Pools.{pool_in, pool_kind, pool_of, pool_slot, pool_slot_at}
unfoldable pub use Rattle.entry_slots.specs.Pools.{pool_at, with_pool}
pub use Rattle.ledger_types.proofs.Arithmetic.{add_positive_first, add_positive_second, if_zeros, int_eq_true}
pub use Rattle.ledger_types.proofs.Arithmetic.{natural_nonnegative, natural_positive, one_not_at_most_zero}
pub use Rattle.ledger_types.proofs.Arithmetic.{sub_natural_positive, sub_nonnegative, unsigned_abs_at_most}
pub use Rattle.ledger_types.specs.KeyOrder.{asset_cmp, key_cmp, line_cmp}
pub use Rattle.ledger_types.specs.Keys.{key_of, key_of_body}
pub use Rattle.ledger_types.specs.declared.account.AccountEntry.{AccountEntry}
pub use Rattle.ledger_types.specs.declared.asset.Asset.{Asset}
pub use Rattle.ledger_types.specs.declared.asset.PoolParams.{PoolParams}
pub use Rattle.ledger_types.specs.declared.asset.TrustLineAsset.{TrustLineAsset}
pub use Rattle.ledger_types.specs.declared.entry.LedgerEntry.{LedgerEntry}
pub use Rattle.ledger_types.specs.declared.entry.LedgerEntryBody.{LedgerEntryBody}
pub use Rattle.ledger_types.specs.declared.ids.AccountId.{AccountId}
pub use Rattle.ledger_types.specs.declared.ids.Hash.{Hash}
pub use Rattle.ledger_types.specs.declared.key.LedgerKey.{LedgerKey}
pub use Rattle.ledger_types.specs.declared.liquidity_pool.LiquidityPoolEntry.{LiquidityPoolEntry}
pub use Rattle.ledger_types.specs.declared.trust_line.TrustLineEntry.{TrustLineEntry}
pub use Rattle.pool_shares.specs.Fits.{DoLinesFit, DoShareLinesFit, DoUsesFit, DoUsesFitAt}
pub use Rattle.pool_shares.specs.Held.{IsAheadOfShares, IsNextLine, held_in, left, line_held}
pub use Rattle.pool_shares.specs.ShareLines.{has_no_line, map_without_bare_pool, map_without_share_line}
pub use Rattle.pool_shares.specs.Withdrawing.{Part, map_with_shares, part_of, share_key, with_change}
pub use Rattle.sponsor_rules.specs.Payers.{is_same_account}
pub use Rattle.sponsor_rules.specs.Paying.{map_after_releasing, with_less_paid, without_subentry}
pub use Rattle.sponsor_rules.specs.Removing.{map_after_discounting, map_after_removing, map_after_removing_entry}
pub use Rattle.sponsor_rules.specs.Removing.{map_without_charge}
pub use Rattle.trade_cross.proofs.legal_rules_proofs.Changed.{IsPoolEntry, line_changed, pool_changed, pool_entry}
pub use Rattle.trade_cross.proofs.legal_rules_proofs.Changed.{with_pool_body, with_pool_is}
pub use Rattle.trade_cross.proofs.legal_rules_proofs.ChargesLeft.{discharged_kept, erased_kept, put_beside}
pub use Rattle.trade_cross.proofs.legal_rules_proofs.Holdings.{put_same, still_holds}
pub use Rattle.trade_cross.proofs.legal_rules_proofs.Leaving.{Leaves, accounts_kept, keeps_both, keeps_then}
pub use Rattle.trade_cross.proofs.legal_rules_proofs.Leaving.{keyed_after, keyed_put, leaves_as, leaves_itself}
pub use Rattle.trade_cross.proofs.legal_rules_proofs.Liable.{IsLineEntry, line_entry, with_line_body}
pub use Rattle.trade_cross.proofs.legal_rules_proofs.LinesLeft.{IsLegalLine, line_kept, line_left, line_legal}
pub use Rattle.trade_cross.proofs.legal_rules_proofs.LinesLeft.{line_named}
pub use Rattle.trade_cross.proofs.legal_rules_proofs.PoolsKept.{pool_erased}
pub use Rattle.trade_cross.proofs.legal_rules_proofs.ShareLinesKept.{params_known, share_line_gone}
pub use Rattle.trade_cross.specs.Holdings.{line_paid, paying}
pub use Rattle.trade_cross.specs.Locations.{DoesFit}
pub use Rattle.trade_cross.specs.entry_sums.Sums.{part}
unfoldable pub use Rattle.trade_cross.specs.entry_sums.Sums.{total}
pub use Rattle.trade_cross.specs.legal_rules.Aggregates.{Kind, ShareLines, Shares, Uses, View, counted, stated}
pub use Rattle.trade_cross.specs.legal_rules.Aggregates.{stated_at}
pub use Rattle.trade_cross.specs.legal_rules.Bounds.{IsFilledOrEmpty}
pub use Rattle.trade_cross.specs.legal_rules.EntryKeys.{for_key, is_key}
pub use Rattle.trade_cross.specs.legal_rules.Holdings.{IsKeyed, IsKeyed as AreKeyed, none_more, under_key}
pub use Rattle.trade_cross.specs.legal_rules.Legal.{pools_in, view}
pub use Rattle.trade_cross.specs.legal_rules.Owing.{AreEntriesLegal, IsEntryLegal, IsLegalOwing, in_aggregate}
pub use Rattle.trade_cross.specs.legal_rules.Owing.{nothing_owed, plus}
pub use Rattle.trade_cross.specs.legal_rules.PoolShares.{Pools, needed_line, pool_named, share_lines, shares_in, uses}
pub use Rattle.trade_cross.specs.legal_rules.PoolShares.{uses_by, uses_of}
pub use Rattle.trade_cross.specs.legal_rules.ShareLaws.{map_with_lines, map_with_share_lines, map_with_uses}
pub use Rattle.trade_cross.specs.legal_rules.ShareLaws.{map_with_uses_at, with_lines, with_uses}
pub use Rattle.trade_cross.specs.legal_rules.Supply.{held, of_line}
