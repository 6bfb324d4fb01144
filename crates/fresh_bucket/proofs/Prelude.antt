-- Names that several proofs of this crate use.
pub use Rattle.std.proofs.Common.{All, Bool, Contains, IfSome, List, None, Option, Some, [], ap, arith, cond, false}
pub use Rattle.std.proofs.Common.{inl, inr, length, map, option_map, pos, refl, subst, sym, take, true, ℕ, ◌++◌, ◌<◌}
pub use Rattle.std.proofs.Common.{◌^◌, ◌↔◌, ◌∙◌, ◌∷◌, ◌≡◌, ◌≢◌, ◌≤◌}
pub use Rattle.std.proofs.lemmas.List.Elements.{All-from_recursion, All-head, All-tail}
pub use Rattle.std.proofs.lemmas.Result.{IfOk-weaker}
pub use Rattle.std.specs.FinMap.{empty, entries-from_sorted, get, get-empty, get-from_sorted}
pub use Rattle.std.specs.FinMap.Entries.{below_all, find, is_sorted}
pub use Rattle.std.specs.List.{AllByRecursion, flat_map}
pub use Rattle.std.specs.Option.{option_or}
pub use Rattle.std.specs.Ordering.{eq_by_cmp, is_eq, is_lt}
pub use Rattle.bucket_core.specs.Bucket.{Change, Dead, Init, IsUnderKey, Live, change_at, version_of}
pub use Rattle.bucket_core.specs.bucket_items.MarkedItem.{IsEncodable, max_item_len, record_of}
pub use Rattle.bucket_levels.specs.Fresh.{BecameOf, IsFresh}
pub use Rattle.entry_map.specs.EntryMap.{EntryMap, IsKeyed}
pub use Rattle.entry_map.specs.KeyMaps.{AreRising}
pub use Rattle.entry_map.specs.declared.batch.Batch.{Batch}
pub use Rattle.entry_table.proofs.Walks.{Above, Sorted, both, first, is_less, none_found, second}
pub use Rattle.entry_table.specs.Rows.{IsOverlaid, IsRising, value_at}
pub use Rattle.entry_table.specs.entry_changes.Encodable.{AreEncodable, IsEntryEncodable}
pub use Rattle.entry_table.specs.entry_changes.Next.{IsExactBatch}
pub use Rattle.fresh_bucket.specs.ItemRefs.{item_at, items_at}
pub use Rattle.fresh_bucket.specs.Items.{IsItemRow, bucket_of, changed, gone, made, stated}
pub use Rattle.fresh_bucket.specs.declared.item_ref.ItemRef.{ItemRef}
pub use Rattle.ledger_types.proofs.Lists.{contained_in_map, map_contains, nil_contains_nothing}
pub use Rattle.ledger_types.specs.KeyOrder.{key_cmp}
pub use Rattle.ledger_types.specs.Keys.{key_of}
pub use Rattle.ledger_types.specs.declared.bucket.BucketEntry.{BucketEntry}
pub use Rattle.ledger_types.specs.declared.entry.LedgerEntry.{LedgerEntry}
pub use Rattle.ledger_types.specs.declared.key.LedgerKey.{LedgerKey}
