-- Names that several proofs of this crate use.
pub use Rattle.std.proofs.Common.{All, Bool, List, None, Ok, Option, Some, [], ap, arith, cond, false, get_or, inl, inr}
pub use Rattle.std.proofs.Common.{length, map, nat_eq, option_map, refl, slice_set, subst, suc, sym, true, zero, ℕ}
pub use Rattle.std.proofs.Common.{◌&&◌, ◌*◌, ◌++◌, ◌+◌, ◌-◌, ◌<◌, ◌||◌, ◌∙◌, ◌∷◌, ◌≡◌, ◌≢◌, ◌≤◌, ◌⊎◌}
pub use Rattle.std.proofs.lemmas.Bool.{and_parts, cases_eq, cases_lt}
pub use Rattle.std.proofs.lemmas.Int.{ints}
pub use Rattle.std.proofs.lemmas.List.{length-set, nil_from_length}
pub use Rattle.std.proofs.lemmas.List.Edits.{get_or-insert_above, get_or-insert_at, get_or-insert_below, length-insert}
pub use Rattle.std.proofs.lemmas.List.Edits.{length-remove}
pub use Rattle.std.proofs.lemmas.List.Elements.{All-append, All-cons, All-head, All-nil, All-set, All-tail}
pub use Rattle.std.proofs.lemmas.List.Sums.{count_by-le-length, get_or-le-sum_by, length-filter, prefix_len-le-length}
pub use Rattle.std.proofs.lemmas.List.Sums.{prefix_len_passes, prefix_len_stops, sum_by-insert, sum_by-remove}
pub use Rattle.std.proofs.lemmas.List.Sums.{sum_by-set}
pub use Rattle.std.specs.FinMap.{empty, get, get-empty}
pub use Rattle.std.specs.List.{AllPairs, count_by, filter, find, flat_map, insert, list_all, remove}
pub use Rattle.std.specs.Option.{option_map}
pub use Rattle.std.specs.Ordering.{eq_by_cmp, int_cmp, int_eq, is_eq, is_lt, ordering_reverse}
pub use Rattle.std.specs.Prelude.{if◌then◌else◌, is_some, neg_ℤ, negsuc, pos, replicate, ℤ, ◌%◌, ◌*ℤ◌, ◌+ℤ◌, ◌-ℤ◌, ◌<ℤ◌}
pub use Rattle.std.specs.Prelude.{◌≤ℤ◌}
pub use Rattle.entry_sums.proofs.Lookups.{erase_each, put_each}
pub use Rattle.entry_sums.proofs.Summing.{part_at_most, total_at_most, total_erase, total_none, total_not_below}
pub use Rattle.entry_sums.proofs.Summing.{total_only, total_plus, total_put, total_same}
pub use Rattle.entry_sums.proofs.entry_map_proofs.KeyMaps.{same_itself}
pub use Rattle.entry_sums.proofs.entry_map_proofs.Lookups.{apart_keys, erase_elsewhere, erase_get, put_elsewhere}
pub use Rattle.entry_sums.proofs.entry_map_proofs.Lookups.{put_get, put_there}
pub use Rattle.entry_sums.specs.Sums.{EachEntry, Weight, part}
unfoldable pub use Rattle.entry_sums.specs.Sums.{total}
pub use Rattle.entry_sums.specs.entry_map.EntryMap.{EntryMap, erase, put}
pub use Rattle.hash_ids.proofs.ledger_types_proofs.Arithmetic.{add_assoc_to, add_change_if, add_natural_nonnegative}
pub use Rattle.hash_ids.proofs.ledger_types_proofs.Arithmetic.{add_neg_self, add_neg_zero, add_nonnegative, add_nothing}
pub use Rattle.hash_ids.proofs.ledger_types_proofs.Arithmetic.{add_positive_first, add_positive_second, add_sub_self}
pub use Rattle.hash_ids.proofs.ledger_types_proofs.Arithmetic.{add_to_zero_at_most_one, add_zero, add_zero_at_most}
pub use Rattle.hash_ids.proofs.ledger_types_proofs.Arithmetic.{at_most_trans, changes_add, fits_after_zero, if_add}
pub use Rattle.hash_ids.proofs.ledger_types_proofs.Arithmetic.{if_zero, if_zeros, indicator_nonnegative, int_cmp_equal}
pub use Rattle.hash_ids.proofs.ledger_types_proofs.Arithmetic.{int_eq_true, natural_nonnegative, natural_positive}
pub use Rattle.hash_ids.proofs.ledger_types_proofs.Arithmetic.{nonnegative_from_positive, one_not_at_most_zero}
pub use Rattle.hash_ids.proofs.ledger_types_proofs.Arithmetic.{sub_if_zero, sub_if_zeros, sub_nonnegative, zero_add}
pub use Rattle.hash_ids.proofs.ledger_types_proofs.Arithmetic.{zero_at_most_one, zero_sub_if_zero, zero_sub_zero}
pub use Rattle.hash_ids.proofs.ledger_types_proofs.Arithmetic.{zeros_add_to_zero}
pub use Rattle.hash_ids.proofs.ledger_types_proofs.KeyOrdering.{same_keys, signer_keys_exact, signer_keys_total}
pub use Rattle.hash_ids.proofs.ledger_types_proofs.Lists.{all_back, all_front, all_insert, all_remove}
pub use Rattle.hash_ids.specs.ledger_types.KeyOrder.{asset_cmp, key_cmp, signer_key_cmp}
pub use Rattle.hash_ids.specs.ledger_types.Keys.{key_of, key_of_body}
pub use Rattle.hash_ids.specs.ledger_types.declared.account.AccountEntry.{AccountEntry}
pub use Rattle.hash_ids.specs.ledger_types.declared.asset.Asset.{Asset}
pub use Rattle.hash_ids.specs.ledger_types.declared.asset.PoolParams.{PoolParams}
pub use Rattle.hash_ids.specs.ledger_types.declared.asset.TrustLineAsset.{TrustLineAsset}
pub use Rattle.hash_ids.specs.ledger_types.declared.claimable_balance.ClaimableBalanceEntry.{ClaimableBalanceEntry}
pub use Rattle.hash_ids.specs.ledger_types.declared.data_entry.DataEntry.{DataEntry}
pub use Rattle.hash_ids.specs.ledger_types.declared.entry.LedgerEntry.{LedgerEntry}
pub use Rattle.hash_ids.specs.ledger_types.declared.entry.LedgerEntryBody.{LedgerEntryBody}
pub use Rattle.hash_ids.specs.ledger_types.declared.header.LedgerHeader.{LedgerHeader}
pub use Rattle.hash_ids.specs.ledger_types.declared.ids.AccountId.{AccountId}
pub use Rattle.hash_ids.specs.ledger_types.declared.ids.Hash.{Hash}
pub use Rattle.hash_ids.specs.ledger_types.declared.key.LedgerKey.{LedgerKey}
pub use Rattle.hash_ids.specs.ledger_types.declared.liquidity_pool.LiquidityPoolEntry.{LiquidityPoolEntry}
pub use Rattle.hash_ids.specs.ledger_types.declared.offer.OfferEntry.{OfferEntry}
pub use Rattle.hash_ids.specs.ledger_types.declared.price.Liabilities.{Liabilities}
pub use Rattle.hash_ids.specs.ledger_types.declared.signer.Signer.{Signer}
pub use Rattle.hash_ids.specs.ledger_types.declared.trust_line.TrustLineEntry.{TrustLineEntry}
pub use Rattle.hash_ids.specs.ledger_types.declared.trust_line.TrustLineEntryExtensionV1.{TrustLineEntryExtensionV1}
pub use Rattle.legal_rules.specs.Aggregates.{Buying, Kind, Selling, ShareLines, Shares, Sponsored, Sponsoring}
pub use Rattle.legal_rules.specs.Aggregates.{Subentries, Uses, View, counted, stated, stated_at}
pub use Rattle.legal_rules.specs.Binding.{CanBind, CanBindBoth, acquiring, binding, bound_account, bound_line}
pub use Rattle.legal_rules.specs.Binding.{releasing, risen}
pub use Rattle.legal_rules.specs.Bounds.{AreSubentriesFew, DoReservesFit, IsFilledOrEmpty}
pub use Rattle.legal_rules.specs.EntryKeys.{for_account, for_key, is_key}
pub use Rattle.legal_rules.specs.EntryLaws.{AccountAdded, AddingDataKeeps, AreReservesSettled, BalanceAdded}
pub use Rattle.legal_rules.specs.EntryLaws.{BalanceRemoved, EntryMoved, IsNewAccount, MergesKeep, MovingKeeps}
pub use Rattle.legal_rules.specs.EntryLaws.{RemovingDataKeeps, SubentryAdded, SubentryRemoved, new_data}
pub use Rattle.legal_rules.specs.FullStates.{BoundsAreRounded, FullStateIsLegal, RulesBind, account_ext, dollars}
pub use Rattle.legal_rules.specs.FullStates.{entry_by, full_entries, full_header, full_list, issuer, issuer_account}
pub use Rattle.legal_rules.specs.FullStates.{line_ext, lost_dollars, lost_pool, lost_promise, lost_sale, lost_signer}
pub use Rattle.legal_rules.specs.FullStates.{note, overfull_owner, own_data, own_promise, owner, owner_account}
pub use Rattle.legal_rules.specs.FullStates.{owner_signed_by, pool, promise, sale, shares, sponsor, sponsor_account}
pub use Rattle.legal_rules.specs.FullStates.{state_of, stranger, two_sales}
unfoldable pub use Rattle.legal_rules.specs.FullStates.{pool_id}
pub use Rattle.legal_rules.specs.Headers.{IsHeaderInRange}
pub use Rattle.legal_rules.specs.Holdings.{HoldsMore, Increase, IsAfter, IsCoveredBy, IsKeyed, both_more, for_one}
pub use Rattle.legal_rules.specs.Holdings.{none_more, under_key}
pub use Rattle.legal_rules.specs.Legal.{AreLinesAuthorized, IsAggregated, IsAuthorized, IsLegal, params_in, params_of}
pub use Rattle.legal_rules.specs.Legal.{pools_in, view}
pub use Rattle.legal_rules.specs.Needs.{account_keys, holding_keys, keys_in, needed_keys, pool_keys, share_keys}
pub use Rattle.legal_rules.specs.OfferIds.{offer_with, offer_with_in}
pub use Rattle.legal_rules.specs.OfferLaws.{AreTradesSettled, ChangedOffersKeep, IsIdLeft, LiabilitiesAcquired}
pub use Rattle.legal_rules.specs.OfferLaws.{LiabilitiesReleased, NewOffersKeep, OfferChanged, new_offer}
pub use Rattle.legal_rules.specs.OfferLaws.{trade_aggregates, with_next_id}
pub use Rattle.legal_rules.specs.OfferLiabilities.{bound_of}
pub use Rattle.legal_rules.specs.OneMore.{IsOwedRightly, OneMoreIsRight, SubentriesCounted, SubentriesFreed, one_more}
pub use Rattle.legal_rules.specs.Owing.{AreEntriesLegal, IsBoundRightly, IsEntryLegal, IsLegalOwing, IsLegalWith, Owed}
pub use Rattle.legal_rules.specs.Owing.{beside_reserves, in_aggregate, less, nothing_owed, plus, weighed, weight}
pub use Rattle.legal_rules.specs.PoolShares.{Pools, needed_line, pool_named, share_lines, shares_in, uses, uses_by}
pub use Rattle.legal_rules.specs.PoolShares.{uses_of}
pub use Rattle.legal_rules.specs.Ranges.{AreAccountFlags, AreSignersInRange, IsAccountInRange, IsBodyInRange}
pub use Rattle.legal_rules.specs.Ranges.{IsEntryInRange, IsOfferInRange, IsPaidRightly, IsPoolInRange}
pub use Rattle.legal_rules.specs.Ranges.{IsTrustLineInRange}
pub use Rattle.legal_rules.specs.Reserves.{for_each, is_for, signer_sponsors_in, sponsored_in_entry, subentries_in}
pub use Rattle.legal_rules.specs.ShareLaws.{AddingShareLinesKeep, HasNeededLines, RemovingShareLinesKeep}
pub use Rattle.legal_rules.specs.ShareLaws.{ShareLineAdded, ShareLineRemoved, map_with_lines, map_with_share_lines}
pub use Rattle.legal_rules.specs.ShareLaws.{map_with_uses, map_with_uses_at, share_aggregates, share_line, with_lines}
pub use Rattle.legal_rules.specs.ShareLaws.{with_uses}
pub use Rattle.legal_rules.specs.SignerLaws.{AddingSignersKeep, IsNewSigner, MovingSignersKeep, RemovingSignersKeep}
pub use Rattle.legal_rules.specs.SignerLaws.{SignerAdded, SignerMoved, SignerRemoved}
pub use Rattle.legal_rules.specs.Sponsorships.{IsSponsorReady}
pub use Rattle.legal_rules.specs.Supply.{held, held as held_of, held_in, lumens_at, lumens_in, lumens_of, of_asset}
pub use Rattle.legal_rules.specs.Supply.{of_line}
pub use Rattle.legal_rules.specs.Trades.{buys, holder, sells}
unfoldable pub use Rattle.offer_exchange.specs.Exchange.{liabilities, wheat_stays}
pub use Rattle.sponsor_laws.proofs.Accounts.{KeepsParts, keeps_all, keeps_twice, with_count-keeps}
pub use Rattle.sponsor_laws.proofs.Bounds.{HavePassed, done_by, have_passed, payer_passed}
pub use Rattle.sponsor_laws.proofs.Moving.{other_is}
pub use Rattle.sponsor_laws.proofs.Parts.{counts_once}
pub use Rattle.sponsor_laws.proofs.SignerLists.{sponsor_at_index, sponsors_inserted, sponsors_removed, sponsors_set}
pub use Rattle.sponsor_laws.proofs.entry_slots_proofs.ChangedEntries.{IsEntryOf, IsExact, account_under, accounts_exact}
pub use Rattle.sponsor_laws.proofs.entry_slots_proofs.ChangedEntries.{either_way, entry_exists, entry_found, line_under}
pub use Rattle.sponsor_laws.proofs.entry_slots_proofs.ChangedEntries.{lines_exact, of_any, offer_found, offers_exact}
pub use Rattle.sponsor_laws.proofs.entry_slots_proofs.ChangedEntries.{own_key, pools_exact, with_beside, with_found}
pub use Rattle.sponsor_laws.proofs.entry_slots_proofs.ChangedEntries.{with_missing, with_there}
pub use Rattle.sponsor_laws.proofs.sponsor_rules_proofs.Ids.{apart_accounts, same_account}
pub use Rattle.sponsor_laws.proofs.sponsor_rules_proofs.Keeping.{at_most, core_kept, core_kept_twice, counts_edited}
pub use Rattle.sponsor_laws.proofs.sponsor_rules_proofs.Keeping.{same_sponsored, same_sponsoring, with_count_core}
pub use Rattle.sponsor_laws.proofs.sponsor_rules_proofs.Keeping.{with_count_is, with_count_keeps, with_new_count_named}
pub use Rattle.sponsor_laws.proofs.sponsor_rules_proofs.Keeping.{with_sponsors_core}
pub use Rattle.sponsor_laws.specs.Laws.{PayerExists}
pub use Rattle.sponsor_laws.specs.Sums.{is_there, signer_sponsors}
pub use Rattle.sponsor_laws.specs.entry_slots.AccountExtensions.{account_liabilities, is_nothing, liabilities_in}
pub use Rattle.sponsor_laws.specs.entry_slots.AccountExtensions.{no_liabilities, num_sponsored, num_sponsoring}
pub use Rattle.sponsor_laws.specs.entry_slots.AccountExtensions.{second_in, signer_sponsor, sponsored_in, sponsoring_in}
pub use Rattle.sponsor_laws.specs.entry_slots.AccountExtensions.{sponsorship_in, with_liabilities_in}
pub use Rattle.sponsor_laws.specs.entry_slots.Accounts.{HasAccount, account_in, account_kind, account_of}
unfoldable pub use Rattle.sponsor_laws.specs.entry_slots.Accounts.{account_at, with_account}
pub use Rattle.sponsor_laws.specs.entry_slots.EntryKinds.{EntryKind, with_entry}
pub use Rattle.sponsor_laws.specs.entry_slots.EntrySponsor.{sponsor_of, with_sponsor}
pub use Rattle.sponsor_laws.specs.entry_slots.LineExtensions.{line_liabilities, line_liabilities_in, line_second_in}
pub use Rattle.sponsor_laws.specs.entry_slots.LineExtensions.{use_count, use_count_in, with_line_liabilities_in}
pub use Rattle.sponsor_laws.specs.entry_slots.LineExtensions.{with_use_count, with_use_count_in, with_use_count_of}
pub use Rattle.sponsor_laws.specs.entry_slots.Lines.{line_in, line_kind, line_of}
unfoldable pub use Rattle.sponsor_laws.specs.entry_slots.Lines.{line_at, with_line}
pub use Rattle.sponsor_laws.specs.entry_slots.Offers.{offer_kind, offer_of}
unfoldable pub use Rattle.sponsor_laws.specs.entry_slots.Offers.{offer_at, with_offer}
pub use Rattle.sponsor_laws.specs.entry_slots.Pools.{pool_in, pool_kind, pool_of}
unfoldable pub use Rattle.sponsor_laws.specs.entry_slots.Pools.{pool_at, with_pool}
pub use Rattle.sponsor_laws.specs.entry_slots.Tests.{Tests, first_fault, unless_first}
pub use Rattle.sponsor_laws.specs.reserve_rules.Reserve.{IsInRange, IsLineInRange, available, greatest_i64, min_balance}
pub use Rattle.sponsor_laws.specs.reserve_rules.Reserve.{room}
pub use Rattle.sponsor_laws.specs.sponsor_rules.Adding.{map_after_adding, map_after_adding_account}
pub use Rattle.sponsor_laws.specs.sponsor_rules.Adding.{map_after_adding_balance, map_after_adding_by}
pub use Rattle.sponsor_laws.specs.sponsor_rules.Adding.{map_after_adding_subentry, map_after_counting}
pub use Rattle.sponsor_laws.specs.sponsor_rules.Adding.{map_after_counting_subentry, own_tests, sponsored_account_entry}
pub use Rattle.sponsor_laws.specs.sponsor_rules.Adding.{sponsored_entry}
pub use Rattle.sponsor_laws.specs.sponsor_rules.Charge.{charge_of, line_multiplicity, multiplicity, multiplicity_in}
pub use Rattle.sponsor_laws.specs.sponsor_rules.Charge.{owner_in, owner_of}
pub use Rattle.sponsor_laws.specs.sponsor_rules.Counting.{count_if, count_in, with_less, with_more, with_new_count}
unfoldable pub use Rattle.sponsor_laws.specs.sponsor_rules.Counting.{with_count}
pub use Rattle.sponsor_laws.specs.sponsor_rules.Keeping.{KeepsCore}
pub use Rattle.sponsor_laws.specs.sponsor_rules.Moving.{map_after_moving, map_after_moving_balance}
pub use Rattle.sponsor_laws.specs.sponsor_rules.Moving.{map_after_moving_between, map_after_moving_by}
pub use Rattle.sponsor_laws.specs.sponsor_rules.Moving.{map_after_moving_entry, map_after_moving_owned}
pub use Rattle.sponsor_laws.specs.sponsor_rules.Moving.{map_with_other_payer, map_with_recorded}
unfoldable pub use Rattle.sponsor_laws.specs.sponsor_rules.Moving.{map_with_sponsor}
pub use Rattle.sponsor_laws.specs.sponsor_rules.Payers.{is_full, is_over, is_same_account, is_short, move_tests_at}
pub use Rattle.sponsor_laws.specs.sponsor_rules.Payers.{payer_by, payer_of, payer_other_than, payer_tests_at}
pub use Rattle.sponsor_laws.specs.sponsor_rules.Payers.{subentry_tests_at}
unfoldable pub use Rattle.sponsor_laws.specs.sponsor_rules.Payers.{open_sponsor}
pub use Rattle.sponsor_laws.specs.sponsor_rules.Paying.{map_after_charging, map_after_exchange, map_after_releasing}
pub use Rattle.sponsor_laws.specs.sponsor_rules.Paying.{with_less_paid, with_more_paid, with_other_payer, with_subentry}
pub use Rattle.sponsor_laws.specs.sponsor_rules.Paying.{without_subentry}
pub use Rattle.sponsor_laws.specs.sponsor_rules.Removing.{map_after_discounting, map_after_removing}
pub use Rattle.sponsor_laws.specs.sponsor_rules.Removing.{map_after_removing_entry, map_without_charge}
pub use Rattle.sponsor_laws.specs.sponsor_rules.SignerIndex.{found_at, found_signer, index_for, with_signer}
pub use Rattle.sponsor_laws.specs.sponsor_rules.SignerIndex.{with_signer_sponsor, with_sponsors, without_signer}
unfoldable pub use Rattle.sponsor_laws.specs.sponsor_rules.SignerIndex.{index_of}
pub use Rattle.sponsor_laws.specs.sponsor_rules.declared.context.Ctx.{Ctx}
pub use Rattle.sponsor_laws.specs.sponsor_rules.declared.count.Count.{Count}
unfoldable pub use Rattle.valid_values.specs.Texts.{is_valid_text}
pub use borrow.Author.Tests.{eqb-true, ltb-false}
