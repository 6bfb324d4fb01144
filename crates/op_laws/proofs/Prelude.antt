-- Names that several proofs of this crate use.
pub use Rattle.std.proofs.Common.{All, Bool, Err, List, None, Ok, Option, Result, Some, [], ap, arith, bit_and, bit_or}
pub use Rattle.std.proofs.Common.{bit_xor, cond, drop, false, get_or, inl, inr, insert, is_some, length, map, nat_eq}
pub use Rattle.std.proofs.Common.{nat_le, nat_lt, not, refl, slice_set, subst, suc, sym, take, true, zero, ℕ, ◌%◌, ◌&&◌}
pub use Rattle.std.proofs.Common.{◌*◌, ◌++◌, ◌+◌, ◌-◌, ◌<◌, ◌^◌, ◌||◌, ◌∙◌, ◌∷◌, ◌≡◌, ◌≢◌, ◌≤◌, ◌⊎◌}
pub use Rattle.std.proofs.Math.Nat.{mul-lt-mul_of_pos_right, mul_right_comm, one-le-mul}
pub use Rattle.std.proofs.lemmas.Bool.{and_parts, cases_eq, cases_lt, eqb-true, not-false, or_parts}
pub use Rattle.std.proofs.lemmas.Int.{ints}
pub use Rattle.std.proofs.lemmas.List.{get_or-set_other, get_or-set_same, length-map, length-set}
pub use Rattle.std.proofs.lemmas.List.Elements.{All-append, All-cons, All-drop, All-filter, All-head, All-nil, All-push}
pub use Rattle.std.proofs.lemmas.List.Elements.{All-set, All-tail, All-take, All-weaker, filter_passes}
pub use Rattle.std.proofs.lemmas.List.Quantifiers.{all_pairs_push, all_pairs_remove, position-Some}
pub use Rattle.std.proofs.lemmas.List.Sums.{fails_before_first, position_or_len_is}
pub use Rattle.std.proofs.lemmas.Slice.Eq.{bytes_eq-Decides}
pub use Rattle.std.specs.Cmp.{Equal-is, IsTotalOrder, nat_cmp_is}
pub use Rattle.std.specs.FinMap.{entries, entries_sorted, get, get-entries, int_cmp-IsAntisymmetric}
pub use Rattle.std.specs.List.{AllPairs, cons_option, filter, find, list_any, position_or_len, remove}
pub use Rattle.std.specs.Ordering.{MatchOrdering, eq_by_cmp, int_cmp, int_eq, is_eq, is_lt, nat_cmp, ordering_reverse}
pub use Rattle.std.specs.Ordering.{ordering_then, then_cmp}
pub use Rattle.std.specs.Prelude.{if◌then◌else◌, int_le, int_lt, neg_ℤ, pos, unsigned_abs, unwrap_or, ℤ, ◌*ℤ◌, ◌+ℤ◌}
pub use Rattle.std.specs.Prelude.{◌-ℤ◌, ◌<ℤ◌, ◌≤ℤ◌}
pub use Rattle.std.specs.declared.cmp.Ordering.{Ordering}
pub use Rattle.std.specs.declared.cmp.Ordering.TheVariants.{Equal, Greater, Less}
pub use Rattle.op_account.specs.AccountMerge.{account_merge, map_without_account}
unfoldable pub use Rattle.op_account.specs.AccountMerge.{map_without_signers}
pub use Rattle.op_account.specs.BumpSequence.{bump_sequence}
pub use Rattle.op_flags.specs.entry_slots.AccountExtensions.{with_seq_num_from}
pub use Rattle.op_account.specs.CreateAccount.{create_account, new_account, new_entry}
pub use Rattle.op_claim.specs.Predicates.{fixed_claimant, fixed_level, time_after}
unfoldable pub use Rattle.op_claim.specs.Predicates.{fixed_below}
pub use Rattle.op_flags.proofs.Went.{went_after, went_after_charge, went_after_some, went_on}
pub use Rattle.op_flags.proofs.entry_map_proofs.KeyMaps.{same_itself}
pub use Rattle.op_flags.proofs.entry_map_proofs.Lookups.{erase_get, erase_there, put_elsewhere, put_get, put_there}
pub use Rattle.op_flags.proofs.entry_map_proofs.Ranked.{all_ranked, apart_filter}
pub use Rattle.op_flags.proofs.ledger_types_proofs.Arithmetic.{add_assoc, add_natural_nonnegative, add_neg_self}
pub use Rattle.op_flags.proofs.ledger_types_proofs.Arithmetic.{add_neg_zero, add_nonnegative, add_sub_self}
pub use Rattle.op_flags.proofs.ledger_types_proofs.Arithmetic.{add_two_zeros, add_zero, add_zero_at_most}
pub use Rattle.op_flags.proofs.ledger_types_proofs.Arithmetic.{at_most_add_natural, at_most_rest, at_most_trans}
pub use Rattle.op_flags.proofs.ledger_types_proofs.Arithmetic.{fits_after_no_natural, fits_after_sub_natural}
pub use Rattle.op_flags.proofs.ledger_types_proofs.Arithmetic.{fits_within_room, if_add, if_zero, int_cmp_not_less}
pub use Rattle.op_flags.proofs.ledger_types_proofs.Arithmetic.{int_eq_true, int_lt_false, natural_add_nonnegative}
pub use Rattle.op_flags.proofs.ledger_types_proofs.Arithmetic.{natural_nonnegative, natural_positive_from_unequal}
pub use Rattle.op_flags.proofs.ledger_types_proofs.Arithmetic.{nonnegative_from_int_le, nonnegative_from_positive}
pub use Rattle.op_flags.proofs.ledger_types_proofs.Arithmetic.{positive_from_int_le, sub_self, suc_minus_one}
pub use Rattle.op_flags.proofs.ledger_types_proofs.Arithmetic.{unsigned_abs_nonnegative, unsigned_abs_positive}
pub use Rattle.op_flags.proofs.ledger_types_proofs.Arithmetic.{zero_add, zero_from_own_double, zero_sub_if_zero}
pub use Rattle.op_flags.proofs.ledger_types_proofs.Arithmetic.{zero_sub_zero, zeros_add_to_zero}
pub use Rattle.op_flags.proofs.ledger_types_proofs.Booleans.{is_lt_true_Less, then_not_Equal}
pub use Rattle.op_flags.proofs.ledger_types_proofs.KeyOrdering.{keys_exact, keys_total, same_assets, same_keys}
pub use Rattle.op_flags.proofs.ledger_types_proofs.KeyOrdering.{signer_keys_exact, signer_keys_total}
pub use Rattle.op_flags.proofs.legal_rules_proofs.Bounded.{account_legal}
pub use Rattle.op_flags.proofs.legal_rules_proofs.Changed.{account_changed, line_changed}
pub use Rattle.op_flags.proofs.legal_rules_proofs.ChargesLeft.{IsChargedFrom, charged_at, charged_kept, charging_kept}
pub use Rattle.op_flags.proofs.legal_rules_proofs.ChargesLeft.{charging_left, discharged_kept, erase_beside}
pub use Rattle.op_flags.proofs.legal_rules_proofs.ChargesLeft.{erased_kept, erased_left, exchange_kept, exchanged_kept}
pub use Rattle.op_flags.proofs.legal_rules_proofs.ChargesLeft.{moved_between, next_payer, payers_had, put_beside}
pub use Rattle.op_flags.proofs.legal_rules_proofs.ChargesLeft.{released_at, releasing_kept, sponsor_kept, subentry_kept}
pub use Rattle.op_flags.proofs.legal_rules_proofs.Covered.{account_states, not_above_balance, sponsored_at_most}
pub use Rattle.op_flags.proofs.legal_rules_proofs.Holdings.{account_same, cancelled, erase_holds, holds_as, holds_both}
pub use Rattle.op_flags.proofs.legal_rules_proofs.Holdings.{holds_itself, lumens_there, put_holds, put_same}
pub use Rattle.op_flags.proofs.legal_rules_proofs.Holdings.{still_holds}
pub use Rattle.op_flags.proofs.legal_rules_proofs.Indices.{absent_after, account_after, account_elsewhere}
pub use Rattle.op_flags.proofs.legal_rules_proofs.Indices.{kept_elsewhere}
pub use Rattle.op_flags.proofs.legal_rules_proofs.Kept.{account_added_so, balance_added_so, balance_removed_so}
pub use Rattle.op_flags.proofs.legal_rules_proofs.Kept.{data_settled, entry_moved_so, subentry_added_so}
pub use Rattle.op_flags.proofs.legal_rules_proofs.Leaving.{IsNext, Leaves, account_kept, accounts_kept, is_itself_after}
pub use Rattle.op_flags.proofs.legal_rules_proofs.Leaving.{keeps_both, keeps_then, keyed_put, leaves_as, leaves_both}
pub use Rattle.op_flags.proofs.legal_rules_proofs.Leaving.{leaves_itself, no_account_changed}
pub use Rattle.op_flags.proofs.legal_rules_proofs.LegalConsequences.{sponsors_ready}
pub use Rattle.op_flags.proofs.legal_rules_proofs.Legality.{entries_legal, legal_of, owing_nothing_of, owing_of}
pub use Rattle.op_flags.proofs.legal_rules_proofs.Legality.{view_of}
pub use Rattle.op_flags.proofs.legal_rules_proofs.Liable.{line_entry, with_line_body}
pub use Rattle.op_flags.proofs.legal_rules_proofs.LinesLeft.{IsLegalLine, line_kept, line_legal, of_line_zero}
pub use Rattle.op_flags.proofs.legal_rules_proofs.OffersKept.{IsOfferEntry, offer_entry, with_offer_body, with_offer_is}
pub use Rattle.op_flags.proofs.legal_rules_proofs.PaidFor.{nothing_settled}
pub use Rattle.op_flags.proofs.legal_rules_proofs.Passed.{first_passed, unless_first_ok}
pub use Rattle.op_flags.proofs.legal_rules_proofs.Removing.{owns, subentry_removed}
pub use Rattle.op_flags.proofs.legal_rules_proofs.ReservesLeft.{next_edited, no_subentry_core, paid_more, pays_less}
pub use Rattle.op_flags.proofs.legal_rules_proofs.ReservesLeft.{pays_more, reserves_of, subentry_charged}
pub use Rattle.op_flags.proofs.legal_rules_proofs.SignersKept.{counts_sponsoring, counts_subentry, paid_by_other}
pub use Rattle.op_flags.proofs.legal_rules_proofs.SignersKept.{signer_added, signer_moved as signer_moved_so}
pub use Rattle.op_flags.proofs.legal_rules_proofs.SignersKept.{signer_removed}
pub use Rattle.op_flags.proofs.legal_rules_proofs.Steps.{account_entry, legal_as, replace_legal, same_id_at}
pub use Rattle.op_flags.proofs.legal_rules_proofs.Subentries.{subentry_of}
pub use Rattle.op_flags.proofs.pool_shares_proofs.Counted.{counts_left, no_line_changed}
pub use Rattle.op_flags.proofs.pool_shares_proofs.Gone.{IsLegalNow, gone_legal, when_nothing_owed}
pub use Rattle.op_flags.proofs.pool_shares_proofs.Sharing.{CanShare, both_of, sharing_left, sharing_legal}
pub use Rattle.op_flags.proofs.pool_shares_proofs.Sound.{IsLegalPool, entries_sound, first_used, line_exists_so}
pub use Rattle.op_flags.proofs.pool_shares_proofs.Sound.{pool_legal, second_used, sound_of}
pub use Rattle.op_flags.proofs.sponsor_laws_proofs.SignedAccounts.{index_within_signers}
pub use Rattle.op_flags.proofs.sponsor_rules_proofs.Ids.{apart_accounts, is_itself, same_account}
pub use Rattle.op_flags.proofs.sponsor_rules_proofs.Keeping.{core_kept_twice, counts_edited, with_count_is}
pub use Rattle.op_flags.proofs.sponsor_rules_proofs.Keeping.{with_count_keeps, with_sponsors_core}
pub use Rattle.op_flags.proofs.trade_cross_proofs.Book.{IsInBook, best_exists}
pub use Rattle.op_flags.proofs.trade_cross_proofs.HopsKeep.{hop_keeps, trade_is_of_hop}
pub use Rattle.op_flags.proofs.trade_cross_proofs.Paying.{CanPay, can_give, can_take, paying_legal, within}
pub use Rattle.op_flags.proofs.trade_cross_proofs.StepLegal.{step_legal}
pub use Rattle.op_flags.specs.RevokedShares.{Given, Revoked, all_revoked, given_of, left, map_without_shares, move_to}
pub use Rattle.op_flags.specs.RevokedShares.{payer_of_share, pools_revoked, revoked_id, share_revoked, share_revoked_by}
pub use Rattle.op_flags.specs.RevokedShares.{share_revoked_of}
unfoldable pub use Rattle.op_flags.specs.RevokedShares.{shares_revoked}
pub use Rattle.op_flags.specs.entry_map.Book.{AreApart, AreOffersSound, goes_before, head, inserted, is_of_pair}
pub use Rattle.op_flags.specs.entry_map.Book.{offer_in, offers_in, offers_of, price_cmp, ranked}
unfoldable pub use Rattle.op_flags.specs.entry_map.Book.{book_in}
pub use Rattle.op_flags.specs.entry_map.EntryMap.{EntryMap, IsKeyed as IsOwnKeyed, erase, put}
pub use Rattle.op_flags.specs.entry_slots.AccountExtensions.{account_liabilities, num_sponsored, num_sponsoring}
pub use Rattle.op_flags.specs.entry_slots.AccountExtensions.{second_in, signer_sponsor, sponsorship_in}
pub use Rattle.op_flags.specs.entry_slots.Accounts.{HasAccount, account_in, account_of as account_in_entry}
unfoldable pub use Rattle.op_flags.specs.entry_slots.Accounts.{account_at, with_account}
pub use Rattle.op_flags.specs.entry_slots.Balances.{balance_in, balance_of}
unfoldable pub use Rattle.op_flags.specs.entry_slots.Balances.{balance_at}
pub use Rattle.op_flags.specs.entry_slots.EntrySponsor.{sponsor_of}
pub use Rattle.op_flags.specs.entry_slots.LineExtensions.{line_liabilities, use_count}
pub use Rattle.op_flags.specs.entry_slots.Lines.{line_of}
unfoldable pub use Rattle.op_flags.specs.entry_slots.Lines.{line_at, with_line}
pub use Rattle.op_flags.specs.entry_slots.Offers.{offer_of}
unfoldable pub use Rattle.op_flags.specs.entry_slots.Offers.{offer_at, with_offer}
pub use Rattle.op_flags.specs.entry_slots.Pools.{pool_of}
unfoldable pub use Rattle.op_flags.specs.entry_slots.Pools.{pool_at}
pub use Rattle.op_flags.specs.entry_slots.Tests.{first_fault}
pub use Rattle.op_flags.specs.entry_sums.Sums.{part}
unfoldable pub use Rattle.op_flags.specs.entry_sums.Sums.{total}
pub use Rattle.op_flags.specs.ledger_types.Ids.{account_of}
pub use Rattle.op_flags.specs.ledger_types.KeyOrder.{asset_cmp, key_cmp, signer_key_cmp}
pub use Rattle.op_flags.specs.ledger_types.Keys.{key_of, key_of_body}
pub use Rattle.op_flags.specs.ledger_types.Prices.{IsPriced}
pub use Rattle.op_flags.specs.ledger_types.declared.account.AccountEntry.{AccountEntry}
pub use Rattle.op_flags.specs.ledger_types.declared.asset.Asset.{Asset}
pub use Rattle.op_flags.specs.ledger_types.declared.asset.PoolParams.{PoolParams}
pub use Rattle.op_flags.specs.ledger_types.declared.asset.TrustLineAsset.{TrustLineAsset}
pub use Rattle.op_flags.specs.ledger_types.declared.claim_atom.ClaimAtom.{ClaimAtom}
pub use Rattle.op_flags.specs.ledger_types.declared.claimable_balance.ClaimableBalanceEntry.{ClaimableBalanceEntry}
pub use Rattle.op_flags.specs.ledger_types.declared.entry.LedgerEntry.{LedgerEntry}
pub use Rattle.op_flags.specs.ledger_types.declared.entry.LedgerEntryBody.{LedgerEntryBody}
pub use Rattle.op_flags.specs.ledger_types.declared.ids.AccountId.{AccountId}
pub use Rattle.op_flags.specs.ledger_types.declared.ids.ClaimableBalanceId.{ClaimableBalanceId}
pub use Rattle.op_flags.specs.ledger_types.declared.ids.Hash.{Hash}
pub use Rattle.op_flags.specs.ledger_types.declared.key.LedgerKey.{LedgerKey}
pub use Rattle.op_flags.specs.ledger_types.declared.liquidity_pool.LiquidityPoolEntry.{LiquidityPoolEntry}
pub use Rattle.op_flags.specs.ledger_types.declared.offer.OfferEntry.{OfferEntry}
pub use Rattle.op_flags.specs.ledger_types.declared.signer.Signer.{Signer}
pub use Rattle.op_flags.specs.ledger_types.declared.signer.SignerKey.{SignerKey}
pub use Rattle.op_flags.specs.ledger_types.declared.trust_line.TrustLineEntry.{TrustLineEntry}
pub use Rattle.op_flags.specs.legal_rules.Aggregates.{Buying, Kind, Selling, ShareLines, Shares, Sponsored, Sponsoring}
pub use Rattle.op_flags.specs.legal_rules.Aggregates.{Subentries, Uses, View, stated_at}
pub use Rattle.op_flags.specs.legal_rules.ChangeLaws.{KeepsAggregates, in_shares}
pub use Rattle.op_flags.specs.legal_rules.EntryKeys.{for_key, is_key}
pub use Rattle.op_flags.specs.legal_rules.Holdings.{HoldsMore, Increase, IsAfter, IsCoveredBy, IsKeyed, both_more}
pub use Rattle.op_flags.specs.legal_rules.Holdings.{for_one, more_at, more_at as more_where, none_more, under_key}
pub use Rattle.op_flags.specs.legal_rules.Legal.{pools_in, view}
pub use Rattle.op_flags.specs.legal_rules.OneMore.{IsOwedRightly, one_more}
pub use Rattle.op_flags.specs.legal_rules.Owing.{AreEntriesLegal, IsEntryLegal, IsLegalOwing, Owed, beside_reserves}
pub use Rattle.op_flags.specs.legal_rules.Owing.{nothing_owed, plus, weighed, weight}
pub use Rattle.op_flags.specs.legal_rules.PoolShares.{needed_line, pool_named}
pub use Rattle.op_flags.specs.legal_rules.Ranges.{AreAccountFlags, AreClaimantsInRange, AreLineFlags, AreSignersInRange}
pub use Rattle.op_flags.specs.legal_rules.Ranges.{IsAccountInRange, IsBalanceInRange, IsBodyInRange, IsDataInRange}
pub use Rattle.op_flags.specs.legal_rules.Ranges.{IsHeldIn, IsPoolInRange, IsTrustLineInRange, has_flag}
pub use Rattle.op_flags.specs.legal_rules.Sponsorships.{AreSponsorshipsSound, IsSponsorReady}
pub use Rattle.op_flags.specs.legal_rules.Supply.{held, held as held_of, held_in, lumens_at, lumens_of, of_asset}
pub use Rattle.op_flags.specs.legal_rules.Supply.{of_line}
pub use Rattle.op_flags.specs.legal_rules.Trades.{holder}
unfoldable pub use Rattle.op_flags.specs.offer_book.Book.{best, book}
pub use Rattle.op_flags.specs.op_form.Amounts.{line_debit_tests, map_after_credit, map_after_debit}
pub use Rattle.op_flags.specs.op_form.Amounts.{map_after_line_debit_of}
pub use Rattle.op_flags.specs.op_form.Assets.{is_issued_by, is_native, line_asset_of, line_of_asset}
pub use Rattle.op_flags.specs.op_form.AtomMoves.{atom_moves, moves_of, trade_moves}
pub use Rattle.op_flags.specs.op_form.Done.{Attempt, Done, FeePool, Holder, Move, OfAccount, OfBalance, OfPool, Transit}
pub use Rattle.op_flags.specs.op_form.Done.{done_of}
pub use Rattle.op_flags.specs.op_form.Flags.{flagged_ext, is_account_clawback_enabled, is_auth_required}
pub use Rattle.op_flags.specs.op_form.Lumens.{map_after_lumens_credit, map_after_lumens_debit, with_less_lumens}
pub use Rattle.op_flags.specs.op_form.Lumens.{with_more_lumens}
unfoldable pub use Rattle.op_flags.specs.op_form.Sponsorships.{is_open_sponsor}
pub use Rattle.op_flags.specs.op_form.Steps.{after_charge, success}
pub use Rattle.op_flags.specs.op_types.declared.account_ops.SetOptionsOp.{SetOptionsOp}
pub use Rattle.op_flags.specs.op_types.declared.operation_result.OperationResult.{OperationResult}
pub use Rattle.op_flags.specs.op_types.declared.operation_result.OperationResult.TheVariants.{NoAccount, NotSupported}
pub use Rattle.op_flags.specs.pool_shares.ShareLines.{empty_pool, map_with_pool, map_with_pool_by}
pub use Rattle.op_flags.specs.pool_shares.ShareLines.{map_without_share_line}
pub use Rattle.op_flags.specs.pool_shares.Withdrawing.{Part, map_after_withdrawing, map_with_shares, part_of}
pub use Rattle.op_flags.specs.pool_shares.Withdrawing.{with_change}
pub use Rattle.op_flags.specs.sponsor_rules.Adding.{map_after_adding, map_after_adding_account}
pub use Rattle.op_flags.specs.sponsor_rules.Adding.{map_after_counting_subentry, own_tests, sponsored_account_entry}
pub use Rattle.op_flags.specs.sponsor_rules.Charge.{charge_of, line_multiplicity}
pub use Rattle.op_flags.specs.sponsor_rules.Counting.{count_in, with_less, with_more}
pub use Rattle.op_flags.specs.sponsor_rules.Keeping.{KeepsCore}
pub use Rattle.op_flags.specs.sponsor_rules.Payers.{is_same_account, move_tests_at, payer_of, payer_other_than}
pub use Rattle.op_flags.specs.sponsor_rules.Payers.{payer_tests_at, subentry_tests_at}
unfoldable pub use Rattle.op_flags.specs.sponsor_rules.Payers.{open_sponsor}
pub use Rattle.op_flags.specs.sponsor_rules.Paying.{map_after_charging, map_after_exchange, map_after_releasing}
pub use Rattle.op_flags.specs.sponsor_rules.Paying.{with_other_payer, with_subentry, without_subentry}
pub use Rattle.op_flags.specs.sponsor_rules.Removing.{map_after_discounting, map_after_removing}
pub use Rattle.op_flags.specs.sponsor_rules.Removing.{map_after_removing_entry, map_without_charge}
pub use Rattle.op_flags.specs.sponsor_rules.SignerIndex.{found_at, found_signer, index_for, without_signer}
unfoldable pub use Rattle.op_flags.specs.sponsor_rules.SignerIndex.{index_of}
pub use Rattle.op_flags.specs.sponsor_rules.Signers.{map_after_adding_signer, map_after_moving_found}
pub use Rattle.op_flags.specs.sponsor_rules.Signers.{map_after_moving_signer_between}
pub use Rattle.op_flags.specs.sponsor_rules.Signers.{map_after_removing_signer, map_with_signer, map_without_signer}
pub use Rattle.op_flags.specs.sponsor_rules.Signers.{with_counted_signer, with_moved_signer, without_counted_signer}
pub use Rattle.op_flags.specs.sponsor_rules.declared.context.Ctx.{Ctx}
pub use Rattle.op_flags.specs.sponsor_rules.declared.context.Sponsorship.{Sponsorship}
pub use Rattle.op_flags.specs.trade_cross.Crossing.{Crossing, Left, Step, amount_at, at_limit, atom_of, ended}
pub use Rattle.op_flags.specs.trade_cross.Crossing.{is_too_dear, is_used_up, joined, left_after, map_after_rest}
pub use Rattle.op_flags.specs.trade_cross.Crossing.{map_after_trade, meeting, offer_key, seller_gives_at}
pub use Rattle.op_flags.specs.trade_cross.Crossing.{seller_takes_at, step_by, turn_at, with_amount}
unfoldable pub use Rattle.op_flags.specs.trade_cross.Crossing.{crossed, step, turn}
pub use Rattle.op_flags.specs.trade_cross.CrossingLaws.{AreTraded, IsOfTrade, bought_in, kept_at, kept_by, kept_in}
pub use Rattle.op_flags.specs.trade_cross.CrossingLaws.{more_by as atom_more, more_in, sold_in}
pub use Rattle.op_flags.specs.trade_cross.Holdings.{account_gives, account_has, at_least_nothing, has_at, is_short_of}
pub use Rattle.op_flags.specs.trade_cross.Holdings.{line_gives, line_has, line_paid, line_takes, most_given, most_taken}
pub use Rattle.op_flags.specs.trade_cross.Holdings.{paying}
pub use Rattle.op_flags.specs.trade_cross.HopLaws.{AreHopped, IsHopTrade, IsHopped, IsOfHop}
pub use Rattle.op_flags.specs.trade_cross.declared.trade.Trade.{Trade}
unfoldable pub use Rattle.op_flags.specs.valid_values.Assets.{is_valid_asset}
unfoldable pub use Rattle.op_flags.specs.valid_values.Texts.{is_valid_text}
pub use Rattle.op_laws.specs.CrossedBooks.{CrossedOffersGo, CrossedOffersRest, CrossingFollowsBook, IsRestedBook}
pub use Rattle.op_laws.specs.CrossedBooks.{after_head, turn_over}
unfoldable pub use Rattle.op_laws.specs.CrossedBooks.{crossed_over}
pub use Rattle.op_laws.specs.Laws.{AllLawful, AreClaimantsFew, AreLawful, AreLawfulWhere, IsBumpFit, IsCovered}
pub use Rattle.op_laws.specs.Laws.{IsLawful, IsLimitFit}
pub use Rattle.op_laws.specs.Moves.{AreDescribed, gained_in, held_at, holding, is_holder, is_issuer, is_of_asset}
pub use Rattle.op_laws.specs.Moves.{issued_in, location_of}
unfoldable pub use Rattle.op_laws.specs.Moves.{gained, issued}
pub use Rattle.op_laws.specs.Steps.{FeesSettle, LegalSettles, PreauthsSettle, SeqNumsSettle, SettledAccounts}
pub use Rattle.op_laws.specs.Steps.{SettledAmounts, SettledFew, SettledHeld, SettledInRange, SettledLegal, SettledReady}
pub use Rattle.op_laws.specs.Steps.{SettledSound, UnderwayManageable}
pub use Rattle.op_laws.specs.Underway.{AreDrawn, IsUnderway, KeepsTerms}
pub use Rattle.op_offers.specs.Managing.{Changed, Effect, Made, Managed, Removed, buy_fault, changed, drawn, made}
pub use Rattle.op_offers.specs.Managing.{managed_at, managed_old, new_asked, of_sold, old_asked, sell_fault}
pub use Rattle.op_offers.specs.Managing.{unless_lines, unless_some, with_reserve}
pub use Rattle.op_offers.specs.Operations.{Answer, answer_of, attempt_of, attempt_of_managed, effect_of, success_answer}
unfoldable pub use Rattle.op_offers.specs.Operations.{offers_operation}
pub use Rattle.op_offers.specs.Selling.{Asked, Sold, map_without_offer, source_gives_at, source_takes_at, trade_of}
unfoldable pub use Rattle.op_offers.specs.Selling.{sold}
pub use Rattle.op_offers.specs.offer_exchange.Exchange.{Amounts, Bounds, unlimited}
unfoldable pub use Rattle.op_offers.specs.offer_exchange.Exchange.{exchanged, wheat_stays}
pub use Rattle.op_offers.specs.offer_exchange.declared.rounding.Rounding.{Rounding}
pub use Rattle.op_options.specs.ManageData.{manage_data, name_tests, new_data}
pub use Rattle.op_options.specs.ManageData.{with_value}
pub use Rattle.op_options.specs.OptionSigner.{count_tests, map_after_signer, map_after_weighing, with_signer_set}
pub use Rattle.op_options.specs.OptionTests.{flags_in, has_unknown, is_bad_domain, is_bad_signer}
pub use Rattle.op_options.specs.OptionTests.{is_own_key, new_flags, source_tests}
pub use Rattle.op_options.specs.SetOptions.{set_options, with_options}
pub use Rattle.op_payment.proofs.Amounts.{IsMoved, in_line, line_given, more_of, ok_of}
pub use Rattle.op_payment.proofs.Paying.{IsGiven, IsTaken, credit_is_taken, debit_is_given, given_back, given_left}
pub use Rattle.op_payment.proofs.Paying.{given_legal, taken_left, taken_legal}
pub use Rattle.op_payment.proofs.Shifts.{ShiftsLegal, shifts_as, shifts_both, shifts_nothing, unless_issuer}
pub use Rattle.op_payment.specs.PathPayment.{arrived, path_moves}
pub use Rattle.op_payment.specs.PathReceive.{path_payment_strict_receive}
pub use Rattle.op_payment.specs.PathSend.{path_payment_strict_send}
pub use Rattle.op_payment.specs.Paths.{Carried, after_hop, and_then, by_end, carried_on, hopped, is_same_asset}
pub use Rattle.op_payment.specs.Paths.{needed_before, received, received_hop, receiving, sending, sent, sent_hop}
pub use Rattle.op_payment.specs.Paths.{set_out}
pub use Rattle.op_payment.specs.Payment.{payment}
pub use Rattle.op_payment.specs.Payment.{payment_move, payment_tests}
pub use Rattle.op_payment.specs.declared.hop_fault.HopFault.{HopFault}
pub use Rattle.op_pool.specs.Deposit.{deposit_by, does_pass, given_tests, is_above}
pub use Rattle.op_pool.specs.Deposit.{is_price_bad, is_price_outside}
pub use Rattle.op_pool.specs.Deposit.{liquidity_pool_deposit, map_after_depositing}
pub use Rattle.op_pool.specs.Withdraw.{liquidity_pool_withdraw, map_after_taking, move_of_a, move_of_b}
pub use Rattle.op_pool.specs.Withdraw.{taken_tests}
pub use Rattle.op_pool.specs.reserve_rules.Reserve.{IsLineInRange, available, greatest_i64, line_available, line_room}
pub use Rattle.op_sponsor.specs.RevokeSponsorship.{revoke_sponsorship}
pub use Rattle.op_trust.proofs.Counts.{same_params}
pub use Rattle.op_trust.specs.ChangeTrust.{answer, is_exceeded}
pub use Rattle.op_trust.specs.Operations.{change_trust, trust_in}
unfoldable pub use Rattle.op_trust.specs.Operations.{trust_operation}
pub use Rattle.sponsor_rules.proofs.entry_slots_proofs.ChangedEntries.{IsEntryOf, account_under, accounts_exact}
pub use Rattle.sponsor_rules.proofs.entry_slots_proofs.ChangedEntries.{balances_exact, data_exact, data_under}
pub use Rattle.sponsor_rules.proofs.entry_slots_proofs.ChangedEntries.{entry_found, line_under, lines_exact}
pub use Rattle.sponsor_rules.proofs.entry_slots_proofs.ChangedEntries.{nothing_under, pool_under, pools_exact}
pub use Rattle.sponsor_rules.proofs.entry_slots_proofs.ChangedEntries.{with_beside, with_found}
