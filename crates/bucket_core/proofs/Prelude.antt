-- Names that several proofs of this crate use.
pub use Rattle.std.proofs.Common.{All, Bool, Err, List, None, Ok, Option, Some, T, [], ap, arith, cond, false, get_or}
pub use Rattle.std.proofs.Common.{length, map, negsuc, pos, refl, subst, suc, sym, true, w8, zero, ℕ, ℤ, ◌++◌, ◌+◌, ◌<◌}
pub use Rattle.std.proofs.Common.{◌∙◌, ◌∷◌, ◌≡◌, ◌≤◌}
pub use Rattle.std.proofs.lemmas.List.Elements.{All-from_recursion, All-head, All-nil, All-tail, recursion_from_All}
pub use Rattle.std.proofs.lemmas.Result.{IfOk-weaker, err_from_is_err_and}
pub use Rattle.std.specs.FinMap.{entries, entries-from_sorted, entries_sorted, from_sorted, get, get-entries}
pub use Rattle.std.specs.FinMap.{get-from_sorted, same_entries_map}
pub use Rattle.std.specs.FinMap.Entries.{below_all, find, is_sorted}
pub use Rattle.std.specs.List.{AllByRecursion, flat_map}
pub use Rattle.std.specs.Option.{option_map, option_or}
pub use Rattle.std.specs.Ordering.{eq_by_cmp, is_eq, is_lt}
pub use Rattle.std.specs.Prelude.{IfSome, IsSomeAnd, Result}
pub use Rattle.bucket_core.specs.Bucket.{Change, Changes, Contents, Dead, Init, IsUnderKey, Live, change_at}
pub use Rattle.bucket_core.specs.Cursor.{IsRow, TakesFirst}
pub use Rattle.bucket_core.specs.Faults.{Before, JudgedBy, Meta, Nothing, UpTo, after_item, fault_within, first_fault}
pub use Rattle.bucket_core.specs.Faults.{item_fault, key_in, position_fault, unless_at_end}
unfoldable pub use Rattle.bucket_core.specs.Faults.{fault_from}
pub use Rattle.bucket_core.specs.File.{HasFile, file_of, item_of, items_of}
pub use Rattle.bucket_core.specs.Find.{is_wanted, item_under}
pub use Rattle.bucket_core.specs.Hash.{file_hash}
pub use Rattle.bucket_core.specs.Judge.{NextJudged, NoneYet, OrderedBy}
pub use Rattle.bucket_core.specs.Reading.{IsFile, changes_in, contents_with, item_then, items_within}
unfoldable pub use Rattle.bucket_core.specs.Reading.{contents_of, items_ahead}
pub use Rattle.bucket_core.specs.declared.fault.BucketFault.{BucketFault}
pub use Rattle.bucket_items.proofs.RecordLaws.{after_record, item_shortens, record_is_read, record_is_taken}
pub use Rattle.bucket_items.specs.Item.{IsItemText, Shows}
pub use Rattle.bucket_items.specs.MarkedItem.{IsEncodable, TakesItem, item_at, record_of}
pub use Rattle.bucket_items.specs.declared.item.BucketItem.{BucketItem}
pub use Rattle.ledger_types.proofs.Booleans.{both_true, first_true, is_lt_Less, second_true}
pub use Rattle.ledger_types.proofs.KeyOrdering.{keys_total, same_keys}
pub use Rattle.ledger_types.specs.KeyOrder.{key_cmp}
pub use Rattle.ledger_types.specs.Keys.{key_of}
pub use Rattle.ledger_types.specs.declared.bucket.BucketEntry.{BucketEntry}
pub use Rattle.ledger_types.specs.declared.key.LedgerKey.{LedgerKey}
pub use Rattle.xdr_core.specs.Format.{IsBytes}
pub use Rattle.xdr_core.specs.Position.{Position, Reading, Reads, itself, start_of}
pub use Rattle.xdr_core.specs.ReadFault.{cause_of}
pub use Rattle.xdr_core.specs.declared.fault.XdrFault.{XdrFault}
pub use Rattle.xdr_core.specs.declared.read_fault.ReadFault.{ReadFault}
unfoldable pub use Rattle.xdr_entries.specs.Keys.{bucket_entry, ledger_key}
