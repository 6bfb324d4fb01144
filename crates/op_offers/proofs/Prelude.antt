-- Names that several proofs of this crate use.
pub use Rattle.std.proofs.Common.{Bool, Err, None, Ok, Option, Some, [], add-zero, ap, arith, bit_and, false, nat_eq}
pub use Rattle.std.proofs.Common.{not, refl, rules, subst, suc, sym, true, zero, ℕ, ◌%◌, ◌&&◌, ◌+◌, ◌-◌, ◌||◌, ◌∙◌, ◌∷◌}
pub use Rattle.std.proofs.Common.{◌≡◌, ◌≢◌, ◌≤◌}
pub use Rattle.std.proofs.lemmas.Bool.{not-false, or_parts}
pub use Rattle.std.proofs.lemmas.Int.{ints}
pub use Rattle.std.specs.FinMap.{get}
pub use Rattle.std.specs.Ordering.{int_cmp, int_eq, is_eq}
pub use Rattle.std.specs.Prelude.{Result, if◌then◌else◌, int_le, int_lt, neg_ℤ, pos, unsigned_abs, ℤ, ◌+ℤ◌, ◌-ℤ◌, ◌≤ℤ◌}
pub use Rattle.entry_map.proofs.Lookups.{erase_elsewhere, left_over, put_elsewhere}
pub use Rattle.entry_map.specs.EntryMap.{EntryMap, erase, put}
pub use Rattle.entry_map.specs.Undo.{Undo, opened, with_current}
pub use Rattle.entry_slots.proofs.ChangedEntries.{offers_exact, slot_entry}
pub use Rattle.entry_slots.specs.Accounts.{HasAccount}
unfoldable pub use Rattle.entry_slots.specs.Accounts.{account_at}
pub use Rattle.entry_slots.specs.EntrySponsor.{sponsor_of}
pub use Rattle.entry_slots.specs.Lines.{line_of}
unfoldable pub use Rattle.entry_slots.specs.Lines.{line_at}
pub use Rattle.entry_slots.specs.Offers.{entry_of_offer, offer_of, offer_slot, offer_slot_at}
unfoldable pub use Rattle.entry_slots.specs.Offers.{offer_at}
pub use Rattle.entry_slots.specs.Tests.{Tests, first_fault, unless_fault}
pub use Rattle.ledger_types.proofs.Arithmetic.{add_assoc, add_neg_self, add_to_zero_at_most_one, add_zero}
pub use Rattle.ledger_types.proofs.Arithmetic.{add_zero_at_most, int_cmp_equal, int_cmp_same, int_lt_false}
pub use Rattle.ledger_types.proofs.Arithmetic.{natural_at_most_trans, positive_from_int_le, unsigned_abs_positive}
pub use Rattle.ledger_types.specs.Keys.{key_of, key_of_body}
pub use Rattle.ledger_types.specs.Prices.{IsPriced}
pub use Rattle.ledger_types.specs.declared.account.AccountEntry.{AccountEntry}
pub use Rattle.ledger_types.specs.declared.asset.TrustLineAsset.{TrustLineAsset}
pub use Rattle.ledger_types.specs.declared.entry.LedgerEntry.{LedgerEntry}
pub use Rattle.ledger_types.specs.declared.entry.LedgerEntryBody.{LedgerEntryBody}
pub use Rattle.ledger_types.specs.declared.ids.AccountId.{AccountId}
pub use Rattle.ledger_types.specs.declared.key.LedgerKey.{LedgerKey}
pub use Rattle.ledger_types.specs.declared.offer.OfferEntry.{OfferEntry}
pub use Rattle.offer_exchange.specs.Exchange.{Amounts, unlimited}
unfoldable pub use Rattle.offer_exchange.specs.Exchange.{adjusted, liabilities}
pub use Rattle.op_offers.specs.Asked.{is_malformed, is_no_pair, is_out_of_range}
pub use Rattle.op_offers.specs.Calls.{DoPaymentsFit, DoesRestFit, IsLimitLow, IsLimitOf, IsManageable, IsManaging}
pub use Rattle.op_offers.specs.Calls.{IsSale, IsSellable, IsSold, IsSound, asked_in, end_fault, map_after_settling}
pub use Rattle.op_offers.specs.Managing.{Managed, Removed, Traded, buy_fault, buy_line_fault, changed, drawn, managed}
pub use Rattle.op_offers.specs.Managing.{managed_at, new_asked, old_asked, sell_fault, sell_line_fault}
pub use Rattle.op_offers.specs.Operations.{Answer, answer_of, done_of_managed, success_answer}
pub use Rattle.op_offers.specs.Selling.{Asked, Sold, after_tests, amount_left, by_end, capped, crossed_by, kept}
pub use Rattle.op_offers.specs.Selling.{left_of, map_after_keeping, map_without_offer, offer_left, settled}
pub use Rattle.op_offers.specs.Selling.{source_gives_at, source_takes_at, trade_of, wanted_tests}
unfoldable pub use Rattle.op_offers.specs.Selling.{sold}
pub use Rattle.op_offers.specs.SellingLaws.{IsAskedRightly, OldOffersOut, SellingKeeps}
pub use Rattle.op_offers.specs.declared.ask.Ask.{Ask}
pub use Rattle.op_offers.specs.declared.fault.OfferFault.{OfferFault}
pub use Rattle.sponsor_rules.specs.Adding.{map_after_counting, map_after_counting_subentry, sponsored_entry}
pub use Rattle.sponsor_rules.specs.Paying.{with_subentry, without_subentry}
pub use Rattle.sponsor_rules.specs.declared.context.Ctx.{Ctx}
pub use Rattle.trade_cross.proofs.Binding.{can_buy, can_sell, given_fits, giving_takes, held_bound, held_paid, no_less}
pub use Rattle.trade_cross.proofs.Binding.{offer_beside, selling_takes, taken_fits}
pub use Rattle.trade_cross.proofs.Cancelled.{cancelled_keeps, release_fits}
pub use Rattle.trade_cross.proofs.CrossedLegal.{crossed_legal, crossing_keeps}
pub use Rattle.trade_cross.proofs.Left.{buying_left, giving_left, removing_left, selling_left, taking_left}
pub use Rattle.trade_cross.proofs.Passing.{IsOwnKey, holder_own}
pub use Rattle.trade_cross.proofs.StepLegal.{IsOpen, lets, release_open, settled_then, still_held}
pub use Rattle.trade_cross.proofs.entry_sums_proofs.Summing.{part_at_most, total_erase, total_none}
pub use Rattle.trade_cross.proofs.legal_rules_proofs.ChargesLeft.{charged_kept, discharged_kept, erase_beside}
pub use Rattle.trade_cross.proofs.legal_rules_proofs.ChargesLeft.{erased_kept, put_beside}
pub use Rattle.trade_cross.proofs.legal_rules_proofs.Freed.{owner, subentries_freed}
pub use Rattle.trade_cross.proofs.legal_rules_proofs.Leaving.{Leaves, accounts_kept, keeps_both, leaves_as, leaves_both}
pub use Rattle.trade_cross.proofs.legal_rules_proofs.MayOwe.{nothing_right, one_more_is_right}
pub use Rattle.trade_cross.proofs.legal_rules_proofs.OffersKept.{acquiring_legal, binding_legal, unbound_if}
pub use Rattle.trade_cross.proofs.legal_rules_proofs.OffersKept.{with_offer_body}
pub use Rattle.trade_cross.proofs.legal_rules_proofs.Passed.{first_passed, unless_first_ok}
pub use Rattle.trade_cross.proofs.legal_rules_proofs.Putting.{erase_legal, legal_wider, offer_with_in_nonnegative}
pub use Rattle.trade_cross.proofs.legal_rules_proofs.Putting.{put_legal}
pub use Rattle.trade_cross.proofs.legal_rules_proofs.Releasing.{still_there}
pub use Rattle.trade_cross.proofs.legal_rules_proofs.Steps.{legal_as}
pub use Rattle.trade_cross.specs.Accounts.{IsEased, IsHeld, Passes, Related}
pub use Rattle.trade_cross.specs.Amounts.{DoesPaymentFit, DoesReleaseFit}
pub use Rattle.trade_cross.specs.Cancelling.{map_after_cancelling}
pub use Rattle.trade_cross.specs.Crossing.{Crossing, converted, left_of as left_of_trade, most_crossings, offer_key}
pub use Rattle.trade_cross.specs.CrossingLaws.{AreTraded, IsCrossed, kept_at, kept_in, more_in}
pub use Rattle.trade_cross.specs.Holdings.{account_gives, account_takes, line_gives, line_takes, most_given, most_taken}
pub use Rattle.trade_cross.specs.Holdings.{paying}
pub use Rattle.trade_cross.specs.Sides.{IsInRangeAt}
pub use Rattle.trade_cross.specs.declared.crossed.CrossEnd.{CrossEnd}
pub use Rattle.trade_cross.specs.declared.crossed.CrossEnd.TheVariants.{BadPrice, Converted, CrossSelf, Partial}
pub use Rattle.trade_cross.specs.declared.crossed.CrossEnd.TheVariants.{TooMany}
pub use Rattle.trade_cross.specs.entry_sums.Sums.{part}
unfoldable pub use Rattle.trade_cross.specs.entry_sums.Sums.{total}
pub use Rattle.trade_cross.specs.legal_rules.Aggregates.{Kind, Sponsored, Sponsoring, Subentries, View}
pub use Rattle.trade_cross.specs.legal_rules.Binding.{CanBind, acquiring, binding, releasing}
pub use Rattle.trade_cross.specs.legal_rules.EntryKeys.{for_account, is_key}
pub use Rattle.trade_cross.specs.legal_rules.Holdings.{HoldsMore, Increase, IsKeyed, both_more, more_at, none_more}
pub use Rattle.trade_cross.specs.legal_rules.OfferIds.{offer_with, offer_with_in}
pub use Rattle.trade_cross.specs.legal_rules.OfferLaws.{trade_aggregates}
pub use Rattle.trade_cross.specs.legal_rules.OfferLiabilities.{bound_of}
pub use Rattle.trade_cross.specs.legal_rules.OneMore.{IsOwedRightly, one_more}
pub use Rattle.trade_cross.specs.legal_rules.Owing.{IsEntryLegal, IsLegalOwing, Owed, less, nothing_owed, plus, weighed}
pub use Rattle.trade_cross.specs.legal_rules.Ranges.{IsBodyInRange, IsOfferInRange}
pub use Rattle.trade_cross.specs.legal_rules.Supply.{held, held as held_of, held_in}
pub use Rattle.trade_cross.specs.legal_rules.Trades.{holder}
pub use Rattle.trade_cross.specs.sponsor_laws.Sums.{is_there}
