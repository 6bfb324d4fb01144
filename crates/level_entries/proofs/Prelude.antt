-- Names that several proofs of this crate use.
pub use Rattle.std.proofs.Common.{All, Bool, List, None, Option, Some, [], ap, append-nil, arith}
pub use Rattle.std.proofs.Common.{cond, drop, false, get_or, inl, inr, is_some, length, map, option_map, refl, subst}
pub use Rattle.std.proofs.Common.{suc, sym, take, true, zero, ℕ, ◌++◌, ◌+◌, ◌-◌, ◌<◌, ◌↔◌, ◌∙◌, ◌∷◌, ◌≡◌, ◌≤◌}
pub use Rattle.std.proofs.Common.{◌⊎◌}
pub use Rattle.std.proofs.lemmas.List.{drop_more, get_or-map, length-drop, map-append}
pub use Rattle.std.proofs.lemmas.List.{take_more}
pub use Rattle.std.proofs.lemmas.List.Elements.{All-cons, All-nil}
pub use Rattle.std.proofs.lemmas.Result.{IfOk-weaker}
pub use Rattle.std.specs.Cmp.{tied_itself}
pub use Rattle.std.specs.FinMap.{from_entries, get, get-from_entries}
pub use Rattle.std.specs.FinMap.Entries.{below_all, find}
pub use Rattle.std.specs.List.{AllByRecursion}
pub use Rattle.std.specs.Ordering.{eq_by_cmp, is_eq, is_lt}
pub use Rattle.std.specs.Prelude.{option_and_then}
pub use Rattle.std.specs.declared.cmp.Ordering.{Ordering}
pub use Rattle.std.specs.declared.cmp.Ordering.TheVariants.{Equal, Greater, Less}
pub use Rattle.bucket_core.specs.Bucket.{Change, Contents, Dead, Init, IsUnderKey, Live, change_at, version_of}
pub use Rattle.bucket_items.specs.Item.{item_type}
pub use Rattle.bucket_items.specs.KeyText.{IsKeyText, OrdersKeys}
pub use Rattle.bucket_levels.specs.Levels.{pair_of}
pub use Rattle.bucket_levels.specs.Meaning.{AreWellMarked, MayFollow, Represent, entry_after, entry_by, files_of}
pub use Rattle.bucket_levels.specs.Meaning.{prepended}
unfoldable pub use Rattle.bucket_levels.specs.Meaning.{AreMarkedWell, changes_of}
pub use Rattle.bucket_levels.specs.Pairs.{Pair, empty_pair, pair_at}
pub use Rattle.bucket_levels.specs.entry_map.EntryMap.{EntryMap}
pub use Rattle.bucket_levels.specs.declared.pair.LevelPair.{LevelPair}
pub use Rattle.entry_table.proofs.Passes.{both_passed, newer_passed, older_passed, pass_ended}
pub use Rattle.entry_table.proofs.Turns.{nothing_left, overlaid}
pub use Rattle.entry_table.proofs.Walks.{Above, Sorted, both, first, is_less, less, none_found, second}
pub use Rattle.entry_table.specs.Rows.{IsOverlaid, IsRising, IsTableRow, putting, value_at, with_key}
pub use Rattle.entry_table.specs.shared_tree.Rows.{all_changed}
pub use Rattle.ledger_types.proofs.KeyOrdering.{keys_exact, keys_total}
pub use Rattle.ledger_types.specs.KeyOrder.{key_cmp}
pub use Rattle.ledger_types.specs.Keys.{key_of}
pub use Rattle.ledger_types.specs.declared.bucket.BucketEntry.{BucketEntry}
pub use Rattle.ledger_types.specs.declared.entry.LedgerEntry.{LedgerEntry}
pub use Rattle.ledger_types.specs.declared.key.LedgerKey.{LedgerKey}
pub use Rattle.level_entries.specs.Rows.{IsFileRow, IsLeftToJudge, IsNewestRow, IsPutOver, IsRowOf, MayAllFollow}
pub use Rattle.level_entries.specs.Placed.{ArePlaced, Leaves, left_in, prepended_if}
pub use Rattle.level_entries.specs.Rows.{MayFollowBy, alone}
pub use Rattle.level_entries.specs.Rows.{entries_in, entry_in, newest, prepended_to, stated}
