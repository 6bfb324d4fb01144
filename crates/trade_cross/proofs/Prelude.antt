-- Names that several proofs of this crate use.
pub use Rattle.std.proofs.Common.{All, Bool, IfOk, List, None, OnOk, Option, Some, T, [], ap, append-nil, append_assoc}
pub use Rattle.std.proofs.Common.{arith, cond, false, inl, inr, length, option_map, refl, rules, subst, suc, sym, true}
pub use Rattle.std.proofs.Common.{zero, ℕ, ◌%◌, ◌&&◌, ◌++◌, ◌+◌, ◌-◌, ◌<◌, ◌∙◌, ◌∷◌, ◌≡◌, ◌≢◌, ◌≤◌, ◌⊎◌}
pub use Rattle.std.proofs.lemmas.Bool.{and_parts, eq-eqb, eqb-true, leb-true, ltb-true, or_left, or_right}
pub use Rattle.std.proofs.lemmas.Int.{ints}
pub use Rattle.std.proofs.lemmas.List.Elements.{All-cons, All-filter, All-head, All-nil, All-tail, All-weaker}
pub use Rattle.std.proofs.lemmas.List.Elements.{filter_passes}
pub use Rattle.std.specs.FinMap.{entries, entries_sorted, get, get-entries, same_map}
pub use Rattle.std.specs.List.{cons_option, filter}
pub use Rattle.std.specs.Ordering.{eq_by_cmp, int_cmp, is_eq}
pub use Rattle.std.specs.Prelude.{if◌then◌else◌, map, min, nat_eq, nat_le, nat_lt, neg_ℤ, pos, unsigned_abs, ℤ, ◌*ℤ◌}
pub use Rattle.std.specs.Prelude.{◌+ℤ◌, ◌-ℤ◌, ◌<ℤ◌, ◌≤ℤ◌}
pub use Rattle.entry_map.proofs.KeyMaps.{same_itself}
pub use Rattle.entry_map.proofs.Lookups.{erase_elsewhere, erase_get, erase_there, put_elsewhere, put_there}
pub use Rattle.entry_map.specs.Book.{AreApart, AreOffersSound, head, is_of_pair, offer_in, offers_in, offers_of, ranked}
unfoldable pub use Rattle.entry_map.specs.Book.{book_in}
pub use Rattle.entry_map.specs.EntryMap.{EntryMap, erase, put}
pub use Rattle.entry_map.specs.Undo.{Undo, kept, opened, undone, with_current}
pub use Rattle.entry_slots.proofs.ChangedEntries.{IsExact, account_under, accounts_exact, line_under, lines_exact}
pub use Rattle.entry_slots.proofs.ChangedEntries.{of_any, offers_exact, own_key, pools_exact, slot_entry, slot_value}
pub use Rattle.entry_slots.proofs.ChangedEntries.{with_beside, with_found, with_there}
pub use Rattle.entry_slots.specs.AccountExtensions.{account_liabilities, liabilities_in, sponsored_in, sponsoring_in}
pub use Rattle.entry_slots.specs.AccountExtensions.{with_liabilities_in}
pub use Rattle.entry_slots.specs.AccountFacts.{facts_in}
pub use Rattle.entry_slots.specs.Accounts.{account_in, account_of}
unfoldable pub use Rattle.entry_slots.specs.Accounts.{account_at, with_account}
pub use Rattle.entry_slots.specs.EntrySponsor.{sponsor_of}
pub use Rattle.entry_slots.specs.LineExtensions.{line_liabilities, line_liabilities_in, with_line_liabilities_in}
pub use Rattle.entry_slots.specs.Lines.{line_in, line_of}
unfoldable pub use Rattle.entry_slots.specs.Lines.{line_at, with_line}
pub use Rattle.entry_slots.specs.Offers.{offer_of}
unfoldable pub use Rattle.entry_slots.specs.Offers.{offer_at, with_offer}
pub use Rattle.entry_slots.specs.Pools.{entry_of_pool, pool_of_slot, pool_slot, pool_slot_at}
unfoldable pub use Rattle.entry_slots.specs.Pools.{pool_at, with_pool}
pub use Rattle.ledger_types.proofs.Arithmetic.{add_assoc, add_assoc_to, add_change_if, add_natural_nonnegative}
pub use Rattle.ledger_types.proofs.Arithmetic.{add_neg_zero, add_nonnegative, add_sub_first, add_two_zeros, add_zero}
pub use Rattle.ledger_types.proofs.Arithmetic.{add_zero_at_most, at_most_add_natural, at_most_refl, at_most_rest}
pub use Rattle.ledger_types.proofs.Arithmetic.{at_most_trans, fits_after_no_natural, fits_after_sub_natural}
pub use Rattle.ledger_types.proofs.Arithmetic.{fits_after_zero, fits_within_room, int_cmp_same, natural_at_most_trans}
pub use Rattle.ledger_types.proofs.Arithmetic.{natural_nonnegative, natural_zero_add, nonnegative_from_natural}
pub use Rattle.ledger_types.proofs.Arithmetic.{one_not_at_most_zero, room_after_zero, sub_if_zeros}
pub use Rattle.ledger_types.proofs.Arithmetic.{sub_natural_positive, suc_at_most_suc, suc_minus_one}
pub use Rattle.ledger_types.proofs.Arithmetic.{unsigned_abs_natural, unsigned_abs_positive, zero_at_most}
pub use Rattle.ledger_types.proofs.KeyOrdering.{keys_exact, keys_total, same_assets, same_keys}
pub use Rattle.ledger_types.specs.KeyOrder.{asset_cmp, key_cmp}
pub use Rattle.ledger_types.specs.Keys.{key_of, key_of_body}
pub use Rattle.ledger_types.specs.Prices.{IsPriced}
pub use Rattle.ledger_types.specs.declared.account.AccountEntry.{AccountEntry}
pub use Rattle.ledger_types.specs.declared.account.AccountEntryExtensionV1.{AccountEntryExtensionV1}
pub use Rattle.ledger_types.specs.declared.asset.Asset.{Asset}
pub use Rattle.ledger_types.specs.declared.asset.TrustLineAsset.{TrustLineAsset}
pub use Rattle.ledger_types.specs.declared.claim_atom.ClaimAtom.{ClaimAtom}
pub use Rattle.ledger_types.specs.declared.entry.LedgerEntry.{LedgerEntry}
pub use Rattle.ledger_types.specs.declared.entry.LedgerEntryBody.{LedgerEntryBody}
pub use Rattle.ledger_types.specs.declared.ids.AccountId.{AccountId}
pub use Rattle.ledger_types.specs.declared.ids.Hash.{Hash}
pub use Rattle.ledger_types.specs.declared.key.LedgerKey.{LedgerKey}
pub use Rattle.ledger_types.specs.declared.liquidity_pool.LiquidityPoolEntry.{LiquidityPoolEntry}
pub use Rattle.ledger_types.specs.declared.offer.OfferEntry.{OfferEntry}
pub use Rattle.ledger_types.specs.declared.price.Liabilities.{Liabilities}
pub use Rattle.ledger_types.specs.declared.trust_line.TrustLineEntry.{TrustLineEntry}
pub use Rattle.ledger_types.specs.declared.trust_line.TrustLineEntryExtensionV1.{TrustLineEntryExtensionV1}
pub use Rattle.legal_rules.proofs.Bounded.{account_legal}
pub use Rattle.legal_rules.proofs.Changed.{IsPoolEntry, line_changed, pool_changed, pool_entry, with_pool_body}
pub use Rattle.legal_rules.proofs.Changed.{with_pool_is}
pub use Rattle.legal_rules.proofs.ChargesLeft.{discharged_kept, erase_beside, erased_kept, put_beside, releasing_kept}
pub use Rattle.legal_rules.proofs.Covered.{minimum_not_below, not_above_balance}
pub use Rattle.legal_rules.proofs.Holdings.{put_holds, put_same, still_holds}
pub use Rattle.legal_rules.proofs.Indices.{account_after, account_elsewhere, kept_elsewhere}
pub use Rattle.legal_rules.proofs.Leaving.{Leaves, account_changed, account_kept, accounts_kept, keeps_both}
pub use Rattle.legal_rules.proofs.Leaving.{keyed_after, keyed_put, leaves_as, leaves_both, leaves_itself}
pub use Rattle.legal_rules.proofs.Leaving.{no_account_changed}
pub use Rattle.legal_rules.proofs.Liable.{line_entry, line_stored, second, stored}
pub use Rattle.legal_rules.proofs.LinesLeft.{line_kept, line_left, line_legal}
pub use Rattle.legal_rules.proofs.OffersKept.{IsOfferEntry, acquiring_legal, binding_legal, offer_changed, offer_entry}
pub use Rattle.legal_rules.proofs.OffersKept.{unbound_if, with_offer_body, with_offer_is}
pub use Rattle.legal_rules.proofs.Releasing.{bound_in_range, can_release, line_in_range, releasing_legal}
pub use Rattle.legal_rules.proofs.ReservesLeft.{IsCharged, available_still, no_subentry_core, pays_less}
pub use Rattle.legal_rules.proofs.Steps.{account_entry, legal_as}
pub use Rattle.legal_rules.specs.Aggregates.{Kind, ShareLines, Shares, Sponsored, Sponsoring, Subentries, View}
pub use Rattle.legal_rules.specs.Binding.{CanBind, CanBindBoth, acquiring, binding, bound_account, bound_line}
pub use Rattle.legal_rules.specs.Binding.{releasing, risen}
pub use Rattle.legal_rules.specs.Bounds.{IsFilledOrEmpty}
pub use Rattle.legal_rules.specs.ChangeLaws.{KeepsParams, in_shares}
pub use Rattle.legal_rules.specs.EntryKeys.{is_key}
pub use Rattle.legal_rules.specs.EntryLaws.{AreReservesSettled}
pub use Rattle.legal_rules.specs.Holdings.{HoldsMore, Increase, IsKeyed, both_more, more_at, none_more, under_key}
pub use Rattle.legal_rules.specs.OfferLaws.{trade_aggregates}
pub use Rattle.legal_rules.specs.OfferLiabilities.{bound_of}
pub use Rattle.legal_rules.specs.OneMore.{IsOwedRightly}
pub use Rattle.legal_rules.specs.Owing.{IsEntryLegal, IsLegalOwing, Owed, beside_reserves, in_aggregate, less}
pub use Rattle.legal_rules.specs.Owing.{nothing_owed, plus, weighed}
pub use Rattle.legal_rules.specs.Payments.{paid}
pub use Rattle.legal_rules.specs.Ranges.{IsBodyInRange, IsOfferInRange, IsPoolInRange}
pub use Rattle.legal_rules.specs.Supply.{held as held_of, held_in, of_asset, of_line}
pub use Rattle.legal_rules.specs.Trades.{holder}
pub use Rattle.legal_rules.specs.entry_sums.Sums.{part, sum_over}
unfoldable pub use Rattle.legal_rules.specs.entry_sums.Sums.{total}
unfoldable pub use Rattle.offer_book.specs.Book.{best, book}
pub use Rattle.offer_exchange.specs.Exchange.{Amounts, Bounds, offered, unlimited}
unfoldable pub use Rattle.offer_exchange.specs.Exchange.{adjusted, exchanged, liabilities, wheat_stays}
pub use Rattle.offer_exchange.specs.declared.rounding.Rounding.{Rounding}
pub use Rattle.offer_exchange.specs.declared.rounding.Rounding.TheVariants.{Normal, StrictReceive, StrictSend}
pub use Rattle.pool_math.specs.Pools.{greatest}
unfoldable pub use Rattle.pool_math.specs.Pools.{given_for, taken_for}
pub use Rattle.reserve_rules.specs.Reserve.{IsInRange, IsLineInRange, available, greatest_i64, line_available}
pub use Rattle.reserve_rules.specs.Reserve.{line_room, min_balance, room}
pub use Rattle.sponsor_rules.proofs.Ids.{apart_accounts, same_account}
pub use Rattle.sponsor_rules.specs.Counting.{with_less}
pub use Rattle.sponsor_rules.specs.Payers.{is_same_account}
pub use Rattle.sponsor_rules.specs.Paying.{map_after_releasing, without_subentry}
pub use Rattle.sponsor_rules.specs.Removing.{map_after_discounting, map_after_removing, map_after_removing_entry}
pub use Rattle.sponsor_rules.specs.declared.context.Ctx.{Ctx}
pub use Rattle.trade_cross.specs.Accounts.{IsEased, IsHeld, Passes, Related}
pub use Rattle.trade_cross.specs.Amounts.{DoesBondFit, DoesPaymentFit, DoesReleaseFit, bond, payment}
pub use Rattle.trade_cross.specs.Cancelling.{CancelledOffersKeep, map_after_cancelling}
pub use Rattle.trade_cross.specs.Crossable.{IsCrossable}
pub use Rattle.trade_cross.specs.Crossing.{Crossing, Left, Step, amount_at, at_limit, atom_of, converted, ended}
pub use Rattle.trade_cross.specs.Crossing.{is_too_dear, is_used_up, joined, left_after, left_of, map_after_rest}
pub use Rattle.trade_cross.specs.Crossing.{map_after_trade, meeting, offer_key, seller_gives_at, seller_takes_at}
pub use Rattle.trade_cross.specs.Crossing.{step_by, turn_at, with_amount}
unfoldable pub use Rattle.trade_cross.specs.Crossing.{crossed, step, turn}
pub use Rattle.trade_cross.specs.CrossingLaws.{AreTraded, CrossingKeeps, IsOfTrade, bought_in, kept_at, kept_by}
pub use Rattle.trade_cross.specs.CrossingLaws.{kept_in, more_by, more_in, sold_in}
pub use Rattle.trade_cross.specs.Holdings.{account_gives, account_takes, at_least_nothing, line_gives, line_paid}
pub use Rattle.trade_cross.specs.Holdings.{line_takes, most_given, most_taken, paying}
pub use Rattle.trade_cross.specs.Hop.{better_of, can_give, can_take, has_pair, is_cheaper, is_served, is_sheep_first}
pub use Rattle.trade_cross.specs.Hop.{is_trading_disabled, pool_atom, pool_of_pair, served_by, sheep_in, swap_by}
pub use Rattle.trade_cross.specs.Hop.{swap_of, swap_with, swapped, wheat_in, with_reserves, with_swap}
unfoldable pub use Rattle.trade_cross.specs.Hop.{hop}
pub use Rattle.trade_cross.specs.HopCalls.{DoesSwapFit, IsSwapOf, amounts_of, is_cheaper_by, is_served_by, is_served_in}
pub use Rattle.trade_cross.specs.HopCalls.{sheep_reserve, wheat_reserve}
pub use Rattle.trade_cross.specs.Locations.{DoSumsFit, DoesChangeFit, DoesFit, changed_account, changed_line, changing}
pub use Rattle.trade_cross.specs.Locations.{location_key}
pub use Rattle.trade_cross.specs.Plans.{IsCarried, IsPlan, bounds_of, gives_in, giving_change, left_in, map_after_once}
pub use Rattle.trade_cross.specs.Plans.{map_of, map_with_rest, moved_by, price_d, price_n, rest_by, rest_of, takes_in}
pub use Rattle.trade_cross.specs.Plans.{taking_change}
pub use Rattle.trade_cross.specs.Progressing.{Advances, DoesNoteFit, IsCrossing, IsWithin, atom_of_plan, following}
pub use Rattle.trade_cross.specs.Progressing.{in_all, noted}
pub use Rattle.trade_cross.specs.Sides.{IsInRangeAt, facts_give_with, facts_take_with, given_with, line_gives_with}
pub use Rattle.trade_cross.specs.Sides.{line_takes_with, still_most, still_most as still_under, taken_with}
pub use Rattle.trade_cross.specs.Steps.{AreSidesOf, AreSidesReady, IsBoundOf, IsMoved}
pub use Rattle.trade_cross.specs.declared.crossed.CrossEnd.{CrossEnd}
pub use Rattle.trade_cross.specs.declared.crossed.CrossEnd.TheVariants.{BadPrice, Converted, CrossSelf, TooMany}
pub use Rattle.trade_cross.specs.declared.crossed.Crossed.{Crossed}
pub use Rattle.trade_cross.specs.declared.holding.Change.{Change}
pub use Rattle.trade_cross.specs.declared.plan.Plan.{Plan}
pub use Rattle.trade_cross.specs.declared.pool_swap.Swap.{Swap}
pub use Rattle.trade_cross.specs.declared.trade.Trade.{Trade}
pub use Rattle.trade_cross.specs.declared.turn.Turn.{Turn}
pub use Rattle.trade_cross.specs.declared.turn.Turn.TheVariants.{Ends, Meets}
