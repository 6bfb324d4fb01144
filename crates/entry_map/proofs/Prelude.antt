-- Names that several proofs of this crate use.
pub use Rattle.std.proofs.Common.{All, Bool, Bor, Contains, Err, IfOk, IfSome, IsSome, List, MatchOption, None, Ok}
pub use Rattle.std.proofs.Common.{OnErr, OnOk, Option, Result, Some, T, [], ap, append-nil, append_assoc, arith, cond}
pub use Rattle.std.proofs.Common.{drop, false, get_or, inl, inr, length, length-append, map, not, option_map}
pub use Rattle.std.proofs.Common.{option_to_list, pos, refl, rules, subst, suc, sym, take, true, zero, ℕ, ℤ, ◌&&◌, ◌*◌}
pub use Rattle.std.proofs.Common.{◌++◌, ◌+◌, ◌-◌, ◌/◌, ◌<◌, ◌||◌, ◌↔◌, ◌∙◌, ◌∷◌, ◌≡◌, ◌≢◌, ◌≤◌, ◌⊎◌}
pub use Rattle.std.proofs.Math.Nat.{div-mul-le_self, le_of_mul-le-mul_right, mul-le-mul, mul-le-mul_right}
pub use Rattle.std.proofs.lemmas.Bool.{and_parts, or_left, or_parts, or_right}
pub use Rattle.std.proofs.lemmas.Grind.{common_steps}
pub use Rattle.std.proofs.lemmas.List.{nil_from_length, take_all, take_more}
pub use Rattle.std.proofs.lemmas.List.Elements.{All-cons, All-contains, All-filter, All-from_recursion, All-head}
pub use Rattle.std.proofs.lemmas.List.Elements.{All-nil, All-tail, All-weaker, Contains-append_cases}
pub use Rattle.std.proofs.lemmas.List.Elements.{Contains-append_left, Contains-append_right, Contains-push}
pub use Rattle.std.proofs.lemmas.List.Elements.{Contains-push_cases, filter_map-append, filter_passes}
pub use Rattle.std.proofs.lemmas.List.Folds.{list_any-append, list_any_none}
pub use Rattle.std.proofs.lemmas.Map.Keys.{IsDistinct-from_sorted, IsDistinct-push}
pub use Rattle.std.proofs.lemmas.Result.{IfOk-weaker, on_ok_weaker}
pub use Rattle.std.specs.Cmp.{Equal-is, IsTotalOrder, eq_by_cmp_equiv, nat_cmp_is, ranked, tied_itself, upto}
pub use Rattle.std.specs.FinMap.{contains_key, contains_key-keys, empty, entries, entries_sorted, find, from_entries}
pub use Rattle.std.specs.FinMap.{from_sorted, get, get-empty, get-entries, get-from_entries, get-from_sorted}
pub use Rattle.std.specs.FinMap.{get-insert, get-remove, insert, int_cmp-IsAntisymmetric, keys, nat_cmp-IsAntisymmetric}
pub use Rattle.std.specs.FinMap.{remove, same_map}
pub use Rattle.std.specs.FinMap.Entries.{is_some-find, is_sorted}
pub use Rattle.std.specs.List.{AllByRecursion, cons_option, filter, list_any}
unfoldable pub use Rattle.std.specs.List.{IsDistinct}
pub use Rattle.std.specs.Map.{keys_of, lookup}
pub use Rattle.std.specs.Option.{is_some, option_copied, option_or, unwrap_or}
pub use Rattle.std.specs.Ordering.{MatchOrdering, bool_cmp, eq_by_cmp, int_cmp, is_eq, is_gt, is_lt, nat_cmp}
pub use Rattle.std.specs.Ordering.{ordering_reverse, ordering_then}
pub use Rattle.std.specs.Prelude.{if◌then◌else◌, nat_eq, unsigned_abs}
pub use Rattle.std.specs.Vec.Iter.{into_iter_items}
pub use Rattle.std.specs.declared.cmp.Ordering.{Ordering}
pub use Rattle.std.specs.declared.cmp.Ordering.TheVariants.{Equal, Greater, Less}
pub use Rattle.entry_map.specs.Batch.{IsBatch, IsChanged, IsGone, IsNew, parts_of}
pub use Rattle.entry_map.specs.Book.{AreApart, AreSound, IsPositionPriced, goes_before, head, inserted, is_after}
pub use Rattle.entry_map.specs.Book.{is_of_pair, left_after, offer_in, offer_of, offers_in, offers_of, price_cmp}
unfoldable pub use Rattle.entry_map.specs.Book.{book_in, next_in}
pub use Rattle.entry_map.specs.EntryMap.{EntryMap, IsKeyed, IsLeastAbove, IsNextAfter, erase, put}
pub use Rattle.entry_map.specs.Indexes.{AreChangedTo, AreIndexes, AreNarrow, AreReplaced, IndexStaysRight, IsIndexOf}
pub use Rattle.entry_map.specs.Indexes.{IsIndexed, IsLastOfPair, IsLastPosition, IsLeastPosition, IsNextOfPair}
pub use Rattle.entry_map.specs.Indexes.{PositionMap, existing, has, index_of, is_among, is_at, is_of_offer, is_old}
pub use Rattle.entry_map.specs.Indexes.{is_taken, offers_after, old_keys, terms_at, without}
unfoldable pub use Rattle.entry_map.specs.Indexes.{with_offers, without_offers}
pub use Rattle.entry_map.specs.KeyMaps.{AreKeysOf, AreRising, IsLeastAt, KeyedMap, NoneAbove}
pub use Rattle.entry_map.specs.Layers.{IsKeyedLayer, IsLeastKey, IsNextKey, LayerMap, change_of, each_under, is_changed}
pub use Rattle.entry_map.specs.Layers.{is_known, lesser_of, newest_change, under, under_one, undo_of, with_changes}
pub use Rattle.entry_map.specs.Noting.{Answers, AreChangedKeys, IsNoted, IsNotedAt, Takes}
unfoldable pub use Rattle.entry_map.specs.Order.{order}
pub use Rattle.entry_map.specs.Positions.{IsNarrow, IsPositionNarrow, key_at, no_seller, offer_with, position_of, rank}
pub use Rattle.entry_map.specs.Positions.{start_of, terms_of}
pub use Rattle.entry_map.specs.Undo.{IsOpen, Undo, kept, opened, started, undone, with_current}
pub use Rattle.entry_map.specs.declared.batch.Batch.{Batch}
pub use Rattle.entry_map.specs.declared.position.BookPosition.{BookPosition}
pub use Rattle.entry_map.specs.declared.position.OfferTerms.{OfferTerms}
pub use Rattle.ledger_types.proofs.Booleans.{is_lt_true_Less, then_Equal_parts, then_not_Equal, then_of_Equal}
pub use Rattle.ledger_types.proofs.KeyOrdering.{assets_compared, assets_exact, assets_total, keys_compared, keys_exact}
pub use Rattle.ledger_types.proofs.KeyOrdering.{keys_total, same_assets, same_keys}
pub use Rattle.ledger_types.proofs.Lists.{all_both, if_some_at, if_some_from, is_some_false, nil_contains_nothing}
pub use Rattle.ledger_types.specs.KeyOrder.{account_cmp, asset_cmp, key_cmp}
pub use Rattle.ledger_types.specs.Keys.{key_of, key_of_body}
pub use Rattle.ledger_types.specs.Prices.{IsPriced}
pub use Rattle.ledger_types.specs.declared.asset.Asset.{Asset}
pub use Rattle.ledger_types.specs.declared.entry.LedgerEntry.{LedgerEntry}
pub use Rattle.ledger_types.specs.declared.key.LedgerKey.{LedgerKey}
pub use Rattle.ledger_types.specs.declared.offer.OfferEntry.{OfferEntry}
pub use Rattle.ledger_types.specs.declared.price.Price.{Price}
pub use Rattle.shared_tree.proofs.Changed.{IsFirst, IsFirstAbove, find_changed, first_is, none_above, rising_changed}
