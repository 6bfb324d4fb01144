-- Names that several proofs of this crate use.
pub use Rattle.std.proofs.Common.{All, Bool, IfSome, List, None, OnOk, Option, Some, T, [], add-one, ap, arith, cond}
pub use Rattle.std.proofs.Common.{false, get_or, inl, inr, length, map, min, not, refl, rules, subst, suc, sym, take}
pub use Rattle.std.proofs.Common.{true, unwrap_or, zero, ℕ, ◌*◌, ◌++◌, ◌+◌, ◌-◌, ◌<◌, ◌∙◌, ◌∷◌, ◌≡◌, ◌≢◌, ◌≤◌}
pub use Rattle.std.proofs.lemmas.Int.{ints, to_z-of_z}
pub use Rattle.std.proofs.lemmas.List.{get_or-take, length-map, length-take-le, take_all, take_more}
pub use Rattle.std.proofs.lemmas.List.Elements.{All-append, All-cons, All-from_get_or, All-head, All-map, All-more}
pub use Rattle.std.proofs.lemmas.List.Elements.{All-nil, All-tail, All-weaker}
pub use Rattle.std.proofs.lemmas.Result.{IfOk-weaker, on_ok_weaker}
pub use Rattle.std.specs.Cmp.{int_cmp_total, tied_itself}
pub use Rattle.std.specs.FinMap.{entries, entries_sorted, get, get-entries, values}
pub use Rattle.std.specs.Int.{w64}
pub use Rattle.std.specs.List.{AllPairs, count_by, flat_map, list_any, slice_get}
pub use Rattle.std.specs.Ordering.{eq_by_cmp, int_cmp, is_eq}
pub use Rattle.std.specs.Prelude.{FitsSigned, IfOk, IsTrue, if◌then◌else◌, neg_ℤ, pos, ℤ, ◌+ℤ◌, ◌↔◌, ◌≤ℤ◌}
pub use Rattle.std.specs.declared.cmp.Ordering.TheVariants.{Equal, Less}
pub use Rattle.close_rules.proofs.entry_sums_proofs.Lists.{Pairs, found_later}
pub use Rattle.close_rules.proofs.legal_rules_proofs.First.{count_of_no_sponsors}
pub use Rattle.close_rules.specs.EntryRules.{AreInRange, AreOwned, IsFirstBroken, Keeps}
pub use Rattle.close_rules.specs.entry_sums.Sums.{EachEntry, Weight, part, sum_over}
unfoldable pub use Rattle.close_rules.specs.entry_sums.Sums.{total}
pub use Rattle.close_rules.specs.legal_rules.Aggregates.{View, counted, stated, stated_at}
pub use Rattle.close_rules.specs.legal_rules.EntryKeys.{for_account, for_key, is_key}
pub use Rattle.close_rules.specs.legal_rules.Legal.{AreLinesAuthorized, IsAggregated, pools_in, view}
pub use Rattle.close_rules.specs.legal_rules.Needs.{account_keys, holding_keys, keys_in, needed_keys, pool_keys}
pub use Rattle.close_rules.specs.legal_rules.Needs.{share_keys}
pub use Rattle.close_rules.specs.legal_rules.OfferIds.{AreOffersApart, offer_with, offer_with_in}
pub use Rattle.close_rules.specs.legal_rules.PoolShares.{Pools, needed_line, pool_named, share_lines, shares_in, uses}
pub use Rattle.close_rules.specs.legal_rules.PoolShares.{uses_by, uses_of}
pub use Rattle.close_rules.specs.legal_rules.Ranges.{IsBodyInRange, IsEntryInRange}
pub use Rattle.close_rules.specs.legal_rules.Reserves.{for_each, is_for, signer_sponsors_in, sponsored_in_entry}
pub use Rattle.close_rules.specs.legal_rules.Reserves.{subentries_in}
pub use Rattle.close_rules.specs.legal_rules.Supply.{held, held_in, of_asset}
pub use Rattle.close_rules.specs.legal_rules.Trades.{buys, holder, sells}
pub use Rattle.close_rules.specs.sponsor_laws.Sums.{is_there}
pub use Rattle.entry_map.specs.EntryMap.{EntryMap, IsKeyed}
pub use Rattle.image_rules.specs.Aggregates.{Agrees, AgreesIn, AreCounts, counted_else, counted_itself, itself, kind_of}
pub use Rattle.image_rules.specs.Aggregates.{other_owner, own_count, owner_is_paid, payers_pay}
pub use Rattle.image_rules.specs.Counts.{Adds, CountMap, IsCountOf, count_at, greatest_count}
pub use Rattle.image_rules.specs.OfferSets.{Brings, id_among}
pub use Rattle.image_rules.specs.PoolRanges.{HasPoolId, IsBodyInRangeButId, IsEntryInRangeButId}
pub use Rattle.image_rules.specs.RuleLists.{counted_rules}
pub use Rattle.image_rules.specs.Signers.{ArePayersOthers, IsBelow, IsSignerInRange}
pub use Rattle.image_rules.specs.Tallies.{IsAgreement, StillAgrees, agrees_in, tally_in}
pub use Rattle.image_rules.specs.Terms.{AreTerms}
pub use Rattle.image_rules.specs.declared.aggregates.Aggregate.{Aggregate}
pub use Rattle.image_rules.specs.declared.agreement.Agreement.{Agreement}
pub use Rattle.image_rules.specs.declared.survey.Survey.{Survey}
pub use Rattle.ledger_types.proofs.Arithmetic.{add_assoc, add_nonnegative, add_nothing, add_zero, if_zeros}
pub use Rattle.ledger_types.proofs.Arithmetic.{indicator_at_most_one, int_cmp_equal, nonnegative_from_positive}
pub use Rattle.ledger_types.proofs.Arithmetic.{zero_add, zeros_add_to_zero}
pub use Rattle.ledger_types.proofs.KeyOrdering.{keys_total, same_keys, signer_keys_total}
pub use Rattle.ledger_types.specs.KeyOrder.{asset_cmp, key_cmp}
pub use Rattle.ledger_types.specs.Keys.{key_of, key_of_body}
pub use Rattle.ledger_types.specs.declared.account.AccountEntry.{AccountEntry}
pub use Rattle.ledger_types.specs.declared.asset.Asset.{Asset}
pub use Rattle.ledger_types.specs.declared.asset.TrustLineAsset.{TrustLineAsset}
pub use Rattle.ledger_types.specs.declared.entry.LedgerEntry.{LedgerEntry}
pub use Rattle.ledger_types.specs.declared.entry.LedgerEntryBody.{LedgerEntryBody}
pub use Rattle.ledger_types.specs.declared.header.LedgerHeader.{LedgerHeader}
pub use Rattle.ledger_types.specs.declared.ids.AccountId.{AccountId}
pub use Rattle.ledger_types.specs.declared.ids.Hash.{Hash}
pub use Rattle.ledger_types.specs.declared.key.LedgerKey.{LedgerKey}
pub use Rattle.ledger_types.specs.declared.liquidity_pool.LiquidityPoolEntry.{LiquidityPoolEntry}
pub use Rattle.ledger_types.specs.declared.offer.OfferEntry.{OfferEntry}
pub use Rattle.ledger_types.specs.declared.signer.Signer.{Signer}
pub use Rattle.ledger_types.specs.declared.trust_line.TrustLineEntry.{TrustLineEntry}
