-- Names that several proofs of this crate use.
pub use Rattle.std.proofs.Common.{All, Bool, List, None, Option, Some, T, [], ap, append_assoc, arith, cond, drop, eqb}
pub use Rattle.std.proofs.Common.{false, inl, inr, length, map, max, nat_eq, pos, refl, subst, suc, sym, true, ℕ, ◌++◌}
pub use Rattle.std.proofs.Common.{◌+◌, ◌<◌, ◌∙◌, ◌∷◌, ◌≡◌, ◌≤◌, ◌⊎◌}
pub use Rattle.std.proofs.lemmas.Bool.{cases_lt, ne_eqb, true≢false}
pub use Rattle.std.proofs.lemmas.List.{append-nil, drop_at, length-append, length-map}
pub use Rattle.std.proofs.lemmas.Result.{on_ok_weaker}
pub use Rattle.std.specs.FinMap.Entries.{below_all, find, is_sorted}
pub use Rattle.std.specs.List.{AllByRecursion, flat_map}
pub use Rattle.std.specs.Prelude.{IsSomeAnd, OnOk, Result, if◌then◌else◌, not, option_and_then}
pub use Rattle.std.specs.declared.cmp.Ordering.{Ordering}
pub use Rattle.std.specs.declared.cmp.Ordering.TheVariants.{Equal, Greater, Less}
pub use Rattle.bucket_core.proofs.ledger_types_proofs.KeyOrdering.{keys_exact, keys_total, same_keys}
pub use Rattle.bucket_core.specs.Bucket.{Change, Contents, Dead, Init, IsUnderKey, Live, change_at, version_of}
pub use Rattle.bucket_core.specs.Cursor.{TakesFirst}
pub use Rattle.bucket_core.specs.File.{HasFile, file_of, item_of, items_of}
pub use Rattle.bucket_core.specs.ledger_types.KeyOrder.{key_cmp}
pub use Rattle.bucket_core.specs.ledger_types.declared.bucket.BucketEntry.{BucketEntry}
pub use Rattle.bucket_core.specs.ledger_types.declared.entry.LedgerEntry.{LedgerEntry}
pub use Rattle.bucket_core.specs.ledger_types.declared.key.LedgerKey.{LedgerKey}
unfoldable pub use Rattle.bucket_core.specs.xdr_entries.Entries.{ledger_entry}
unfoldable pub use Rattle.bucket_core.specs.xdr_entries.Keys.{bucket_entry}
pub use Rattle.bucket_items.proofs.Holding.{i32_len}
pub use Rattle.bucket_items.specs.Item.{IsItemText, Shows, item_type}
pub use Rattle.bucket_items.specs.MarkedItem.{IsEncodable, max_item_len, record_of}
pub use Rattle.bucket_items.specs.declared.item.BucketItem.{BucketItem}
pub use Rattle.bucket_merge.specs.Merge.{IsMerge, greater_version, joined, kept, merged_change}
pub use Rattle.bucket_merge.specs.Pending.{GoesTo, Has, States, meta_of, records_of, size_of}
pub use Rattle.bucket_merge.specs.Taking.{Nearer, first_key}
pub use Rattle.bucket_merge.specs.Walk.{Pair, among, by_order, changes_of, filled_with, merge_of, put, rest_kept, walk}
pub use Rattle.bucket_merge.specs.declared.side.Side.{Side}
pub use Rattle.byteorder.specs.Endian.{big_bytes}
unfoldable pub use Rattle.xdr_core.specs.Leaves.{i32, mark, u32}
