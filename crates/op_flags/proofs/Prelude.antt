-- Names that several proofs of this crate use.
pub use Rattle.std.proofs.Common.{All, Bool, Err, List, None, Ok, OnOk, Option, Result, Some, [], ap, arith, bit_and}
pub use Rattle.std.proofs.Common.{bit_or, bit_xor, cond, drop, drop-cons, false, get_or, inl, inr, is_some, length}
pub use Rattle.std.proofs.Common.{nat_eq, nat_lt, not, of_z, refl, rules, subst, suc, sym, to_z, true, w64, zero, ℕ}
pub use Rattle.std.proofs.Common.{◌%◌, ◌&&◌, ◌*◌, ◌++◌, ◌+◌, ◌<◌, ◌^◌, ◌||◌, ◌∙◌, ◌∷◌, ◌≡◌, ◌≢◌, ◌≤◌, ◌⊎◌}
pub use Rattle.std.proofs.lemmas.Bool.{ltb-false, or_left, or_parts, or_right}
pub use Rattle.std.proofs.lemmas.Int.{ints}
pub use Rattle.std.proofs.lemmas.List.{drop_all}
pub use Rattle.std.proofs.lemmas.List.Elements.{All-cons, All-filter, All-head, All-nil, All-tail, All-weaker}
pub use Rattle.std.specs.FinMap.{entries, get, get-entries}
pub use Rattle.std.specs.List.{cons_option, filter}
pub use Rattle.std.specs.Ordering.{is_eq}
pub use Rattle.std.specs.Prelude.{IfOk, if◌then◌else◌, map, neg_ℤ, pos, ℤ, ◌+ℤ◌, ◌-ℤ◌, ◌≤ℤ◌}
pub use Rattle.entry_map.specs.EntryMap.{EntryMap, put}
pub use Rattle.entry_map.specs.Undo.{Undo, with_current}
pub use Rattle.entry_slots.proofs.ChangedEntries.{balance_under, balances_exact, lines_exact, nothing_under, slot_entry}
pub use Rattle.entry_slots.specs.Accounts.{HasAccount}
unfoldable pub use Rattle.entry_slots.specs.Accounts.{account_at}
pub use Rattle.entry_slots.specs.Balances.{balance_of}
unfoldable pub use Rattle.entry_slots.specs.Balances.{balance_at}
pub use Rattle.entry_slots.specs.EntrySponsor.{sponsor_in, sponsor_of, with_sponsor}
pub use Rattle.entry_slots.specs.LineExtensions.{line_liabilities}
pub use Rattle.entry_slots.specs.Lines.{line_of_slot, line_slot, line_slot_at}
unfoldable pub use Rattle.entry_slots.specs.Lines.{line_at, with_line}
pub use Rattle.entry_slots.specs.Offers.{offer_of}
unfoldable pub use Rattle.entry_slots.specs.Offers.{offer_at}
pub use Rattle.entry_slots.specs.Pools.{pool_of_slot}
unfoldable pub use Rattle.entry_slots.specs.Pools.{pool_at}
pub use Rattle.entry_slots.specs.Tests.{Tests, first_fault}
pub use Rattle.ledger_types.proofs.Arithmetic.{add_neg_self, add_sub_self, add_zero_at_most, at_most_refl}
pub use Rattle.ledger_types.proofs.Arithmetic.{natural_nonnegative, natural_positive, sub_self, zero_add}
pub use Rattle.ledger_types.proofs.KeyOrdering.{same_keys}
pub use Rattle.ledger_types.proofs.Lists.{all_both, if_some_from}
pub use Rattle.ledger_types.specs.KeyOrder.{account_cmp, asset_cmp, key_cmp}
pub use Rattle.ledger_types.specs.Keys.{key_of, key_of_body}
pub use Rattle.ledger_types.specs.declared.account.AccountEntry.{AccountEntry}
pub use Rattle.ledger_types.specs.declared.asset.Asset.{Asset}
pub use Rattle.ledger_types.specs.declared.asset.TrustLineAsset.{TrustLineAsset}
pub use Rattle.ledger_types.specs.declared.claimable_balance.ClaimableBalanceEntry.{ClaimableBalanceEntry}
pub use Rattle.ledger_types.specs.declared.entry.LedgerEntry.{LedgerEntry}
pub use Rattle.ledger_types.specs.declared.entry.LedgerEntryBody.{LedgerEntryBody}
pub use Rattle.ledger_types.specs.declared.ids.AccountId.{AccountId}
pub use Rattle.ledger_types.specs.declared.ids.Hash.{Hash}
pub use Rattle.ledger_types.specs.declared.key.LedgerKey.{LedgerKey}
pub use Rattle.ledger_types.specs.declared.liquidity_pool.LiquidityPoolEntry.{LiquidityPoolEntry}
pub use Rattle.ledger_types.specs.declared.offer.OfferEntry.{OfferEntry}
pub use Rattle.ledger_types.specs.declared.trust_line.TrustLineEntry.{TrustLineEntry}
pub use Rattle.offer_book.specs.Book.{AreNumbered}
unfoldable pub use Rattle.offer_book.specs.Book.{offers_by}
pub use Rattle.op_flags.specs.Existing.{AreExisting, IsThere, map_after_one}
pub use Rattle.op_flags.specs.LineFlags.{AreFlagsFit, is_revoked, map_after_flagging, map_after_revoking, with_flags}
pub use Rattle.op_flags.specs.Outcomes.{IsRevoked, IsUnpaid, UnlessRefused, entries_left, given_by, low_answer}
pub use Rattle.op_flags.specs.RevokedShares.{Given, Revoked, all_revoked, alone, and_then, balance_added, balance_put}
pub use Rattle.op_flags.specs.RevokedShares.{both_left, given_of, left, left_by, map_without_shares, move_to}
pub use Rattle.op_flags.specs.RevokedShares.{payer_of_share, revoked_balance, revoked_id, share_revoked}
pub use Rattle.op_flags.specs.RevokedShares.{share_revoked_by, share_revoked_of, sole_claimant, sponsor_at}
pub use Rattle.op_flags.specs.Revoking.{map_after_cancelling_all, trades_in}
unfoldable pub use Rattle.op_flags.specs.Revoking.{map_without_offers}
pub use Rattle.op_form.specs.Assets.{is_issued_by, is_native, line_asset_of, line_of_asset}
pub use Rattle.op_form.specs.Flags.{flagged_ext, has_any, is_auth_revocable, is_clawback_line}
pub use Rattle.op_form.specs.Steps.{after, after_charge, after_some, unless_refused, unless_result}
pub use Rattle.op_types.specs.declared.operation_result.OperationResult.{OperationResult}
pub use Rattle.pool_shares.proofs.Shared.{line_now, pool_now, shared_fits}
pub use Rattle.pool_shares.proofs.Sharing.{CanShare, sharing_left, sharing_legal}
pub use Rattle.pool_shares.proofs.Sound.{IsLegalPool, entries_sound, first_used, line_exists_so, pool_legal}
pub use Rattle.pool_shares.proofs.Sound.{second_used}
pub use Rattle.pool_shares.specs.Fits.{DoShareLinesFit, DoesPoolFit}
pub use Rattle.pool_shares.specs.Withdrawing.{map_after_withdrawing, part_of, with_change}
pub use Rattle.sponsor_rules.specs.Adding.{map_after_adding, map_after_adding_balance}
pub use Rattle.sponsor_rules.specs.Outcome.{IsRefused}
pub use Rattle.sponsor_rules.specs.Payers.{is_same_account, payer_by, payer_of, payer_tests_at}
unfoldable pub use Rattle.sponsor_rules.specs.Payers.{open_sponsor}
pub use Rattle.sponsor_rules.specs.declared.context.Ctx.{Ctx}
pub use Rattle.sponsor_rules.specs.declared.fault.AddFault.{AddFault}
pub use Rattle.trade_cross.proofs.legal_rules_proofs.Leaving.{Leaves, accounts_kept, keeps_both, keeps_then, keyed_put}
pub use Rattle.trade_cross.proofs.legal_rules_proofs.Leaving.{leaves_itself}
pub use Rattle.trade_cross.proofs.legal_rules_proofs.Legality.{entries_legal}
pub use Rattle.trade_cross.proofs.legal_rules_proofs.Liable.{line_entry, with_line_body}
pub use Rattle.trade_cross.proofs.legal_rules_proofs.LinesLeft.{IsLegalLine, line_legal, line_named}
pub use Rattle.trade_cross.proofs.legal_rules_proofs.Passed.{first_passed, unless_first_ok}
pub use Rattle.trade_cross.specs.Crossable.{IsCrossable}
pub use Rattle.trade_cross.specs.Crossing.{offer_key}
pub use Rattle.trade_cross.specs.Locations.{DoesFit}
pub use Rattle.trade_cross.specs.entry_sums.Sums.{part}
unfoldable pub use Rattle.trade_cross.specs.entry_sums.Sums.{total}
pub use Rattle.trade_cross.specs.legal_rules.Aggregates.{Buying, Kind, Selling, Shares, Uses, View, counted, stated}
pub use Rattle.trade_cross.specs.legal_rules.Aggregates.{stated_at}
pub use Rattle.trade_cross.specs.legal_rules.EntryKeys.{for_key, is_key}
pub use Rattle.trade_cross.specs.legal_rules.Holdings.{IsKeyed, none_more, under_key}
pub use Rattle.trade_cross.specs.legal_rules.Legal.{view}
pub use Rattle.trade_cross.specs.legal_rules.Owing.{AreEntriesLegal, IsBoundRightly, IsEntryLegal, IsLegalOwing, Owed}
pub use Rattle.trade_cross.specs.legal_rules.Owing.{nothing_owed, plus}
pub use Rattle.trade_cross.specs.legal_rules.PoolShares.{needed_line, pool_named}
pub use Rattle.trade_cross.specs.legal_rules.Ranges.{AreClaimantsInRange, AreLineFlags, IsBalanceInRange, IsBodyInRange}
pub use Rattle.trade_cross.specs.legal_rules.Ranges.{IsHeldIn, IsOfferInRange, IsPoolInRange, IsTrustLineInRange}
pub use Rattle.trade_cross.specs.legal_rules.Ranges.{balance_flags}
pub use Rattle.trade_cross.specs.legal_rules.Supply.{held, of_asset, of_line}
