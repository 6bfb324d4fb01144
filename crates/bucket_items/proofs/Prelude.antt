-- Names that several proofs of this crate use.
pub use Rattle.std.proofs.Common.{Err, List, Ok, Some, [], ap, append_assoc, arith, drop, get_or, length, negsuc, of_z}
pub use Rattle.std.proofs.Common.{pos, refl, replicate, slice_index, subst, suc, sym, take, to_z, w8, zero, ℕ, ℤ, ◌%◌}
pub use Rattle.std.proofs.Common.{◌*◌, ◌++◌, ◌+◌, ◌/◌, ◌<◌, ◌^◌, ◌∙◌, ◌∷◌, ◌≡◌, ◌≤◌}
pub use Rattle.std.proofs.Math.Facts.{Fits-lt-pow, to_z-of_z}
pub use Rattle.std.proofs.lemmas.List.{append-nil, drop_at, length-append, take_at}
pub use Rattle.std.specs.Int.{byte_at, bytes_high_first, cast_unsigned, w32}
pub use Rattle.std.specs.Ordering.{MatchOrdering, nat_cmp, ordering_then}
pub use Rattle.std.specs.Prelude.{IsSomeAnd, None, Option, Result}
pub use Rattle.std.specs.declared.cmp.Ordering.{Ordering}
pub use Rattle.bucket_items.specs.Item.{BeginsWithItemKey, IsItemText, Shows, ended, ended_by, entire_at}
pub use Rattle.bucket_items.specs.Item.{item_key_text, item_type}
pub use Rattle.bucket_items.specs.Item.{type_with}
pub use Rattle.bucket_items.specs.KeyRef.{key_seen}
pub use Rattle.bucket_items.specs.KeyText.{AreByBytes, BeginsWithKey, IsKeyText}
pub use Rattle.bucket_items.specs.MarkedItem.{IsEncodable, TakesItem, after_mark, item_at, item_in, max_item_len}
pub use Rattle.bucket_items.specs.MarkedItem.{record_of}
pub use Rattle.ledger_types.specs.Bytes.{bytes_cmp}
pub use Rattle.ledger_types.specs.KeyOrder.{account_cmp, hash_cmp, key_cmp, key_kind, line_cmp}
pub use Rattle.ledger_types.specs.Keys.{key_of, key_of_body}
pub use Rattle.ledger_types.specs.declared.asset.TrustLineAsset.{TrustLineAsset}
pub use Rattle.ledger_types.specs.declared.bucket.BucketEntry.{BucketEntry}
pub use Rattle.ledger_types.specs.declared.entry.LedgerEntry.{LedgerEntry}
pub use Rattle.ledger_types.specs.declared.ids.AccountId.{AccountId}
pub use Rattle.ledger_types.specs.declared.key.LedgerKey.{LedgerKey}
pub use Rattle.xdr_core.proofs.Marks.{mark_is_read, mark_lawful, marked_leaves}
pub use Rattle.xdr_core.proofs.Numbers.{IsWide, wide4}
pub use Rattle.xdr_core.specs.Combinators.{Fields, closed, marked, struct_of, ◌⨾◌}
pub use Rattle.xdr_core.specs.Format.{Format, IsBytes, Takes}
pub use Rattle.xdr_core.specs.Leaves.{number, padding_len}
unfoldable pub use Rattle.xdr_core.specs.Leaves.{fixed, i32, i64, mark, u32, var}
pub use Rattle.xdr_core.specs.Position.{Position, Reading, start_of, ◌>>=◌}
pub use Rattle.xdr_core.specs.Xdr.{Xdr, extension_of, list_of, optional, tag}
pub use Rattle.xdr_core.specs.declared.fault.XdrFault.{XdrFault}
pub use Rattle.xdr_entries.proofs.KeyLaws.{bucket_entry_laws, ledger_key_laws}
pub use Rattle.xdr_entries.specs.Basic.{account_id_fields, balance_id_fields, hash_fields}
unfoldable pub use Rattle.xdr_entries.specs.Basic.{account_id, asset, claimable_balance_id, hash, pool_params, price}
unfoldable pub use Rattle.xdr_entries.specs.Basic.{trust_line_asset}
pub use Rattle.xdr_entries.specs.Entries.{account_fields, balance_fields, data_fields, line_fields, offer_fields}
pub use Rattle.xdr_entries.specs.Entries.{pool_fields}
unfoldable pub use Rattle.xdr_entries.specs.Entries.{account_entry, account_head, account_tail, claimable_balance_entry}
unfoldable pub use Rattle.xdr_entries.specs.Entries.{claimable_balance_extension_v1, claimant, data_entry, ledger_entry}
unfoldable pub use Rattle.xdr_entries.specs.Entries.{ledger_entry_body, ledger_entry_extension_v1, liquidity_pool_entry}
unfoldable pub use Rattle.xdr_entries.specs.Entries.{offer_entry, trust_line_entry, trust_line_extension_v1}
unfoldable pub use Rattle.xdr_entries.specs.Keys.{bucket_entry, ledger_key}
