-- Names that several proofs of this crate use.
pub use Rattle.std.proofs.Common.{All, IfOk, List, None, Some, T, [], add-one, ap, append_assoc, arith, cond, drop}
pub use Rattle.std.proofs.Common.{false, get_or, length, length-append, length-drop, length-set, map, pos, refl}
pub use Rattle.std.proofs.Common.{replicate, set, subst, suc, sym, take, true, zero, ℕ, ℤ, ◌&&◌, ◌*◌, ◌++◌, ◌+◌, ◌-◌}
pub use Rattle.std.proofs.Common.{◌<◌, ◌==◌, ◌^◌, ◌||◌, ◌∙◌, ◌∷◌, ◌≡◌, ◌≤◌}
pub use Rattle.std.proofs.lemmas.Fmt.{IsAscii-decimal, length-decimal-le}
pub use Rattle.std.proofs.lemmas.Int.{ints}
pub use Rattle.std.proofs.lemmas.List.{append-nil, length-replicate, length-take-le, take_all, take_more_set}
pub use Rattle.std.proofs.lemmas.List.Elements.{All-append, All-cons, All-drop, All-from_get_or, All-from_recursion}
pub use Rattle.std.proofs.lemmas.List.Elements.{All-head, All-nil, All-tail, All-take}
pub use Rattle.std.specs.FinMap.{entries, entries-insert, entries_sorted, get-from_entries, insert, len-empty}
pub use Rattle.std.specs.FinMap.{len-entries}
pub use Rattle.std.specs.Fmt.{decimal}
pub use Rattle.std.specs.Int.{byte_at, bytes_high_first, cast_unsigned, to_be_bytes, w32, w64}
pub use Rattle.std.specs.List.{AllByRecursion, flat_map, range_with_len}
pub use Rattle.std.specs.Prelude.{FitsSigned, codes, if◌then◌else◌, nat_le, option_map, slice_get, slice_index, ◌%◌}
pub use Rattle.std.specs.Prelude.{◌/◌}
pub use Rattle.bucket_core.specs.bucket_items.MarkedItem.{IsEncodable, record_of}
pub use Rattle.byteorder.specs.Endian.{big_bytes, big_number}
unfoldable pub use Rattle.fee_rules.specs.SetHash.{hash_of_set}
pub use Rattle.ledger_types.proofs.Booleans.{if_either}
pub use Rattle.ledger_types.specs.KeyOrder.{account_cmp, key_cmp}
pub use Rattle.ledger_types.specs.declared.asset.Asset.{Asset}
pub use Rattle.ledger_types.specs.declared.entry.LedgerEntry.{LedgerEntry}
pub use Rattle.ledger_types.specs.declared.header.LedgerHeader.{LedgerHeader}
pub use Rattle.ledger_types.specs.declared.ids.AccountId.{AccountId}
pub use Rattle.ledger_types.specs.declared.ids.Hash.{Hash}
pub use Rattle.op_types.specs.declared.operation.Operation.{Operation}
pub use Rattle.op_types.specs.declared.operation.OperationBody.{OperationBody}
pub use Rattle.sample_ledger.specs.Accounts.{account_entry, account_id, flags_of, key_bytes, ledger_entry, sample_text}
pub use Rattle.sample_ledger.specs.Accounts.{secret, signer_of}
pub use Rattle.sample_ledger.specs.Image.{account_count, first_bucket, first_changes, header_with, new_account}
pub use Rattle.sample_ledger.specs.Image.{zero_hash}
unfoldable pub use Rattle.sample_ledger.specs.Image.{changes_of}
pub use Rattle.sample_ledger.specs.Records.{is_claim, own, payment, signature, usd}
unfoldable pub use Rattle.sample_ledger.specs.Records.{draw, drawn_turn, envelope_of, issuer_operations, issuer_turn}
unfoldable pub use Rattle.sample_ledger.specs.Records.{operations_of, other_operation, signers_of}
pub use Rattle.sample_ledger.specs.Rows.{AreEncodable, as_change}
pub use Rattle.sha2.proofs.Facts256.{length-sha256}
pub use Rattle.sha2.specs.Sha256.{final_hash, initial_hash_256}
unfoldable pub use Rattle.sha2.specs.Sha256.{digest_bytes, sha256}
pub use Rattle.shared_tree.specs.Rows.{IsRising, changed}
pub use Rattle.value_hashes.specs.xdr_tx.Operations.{operation_fields}
unfoldable pub use Rattle.value_hashes.specs.xdr_tx.Operations.{begin_sponsoring_future_reserves_op, change_trust_op}
unfoldable pub use Rattle.value_hashes.specs.xdr_tx.Operations.{claim_claimable_balance_op, clawback_op}
unfoldable pub use Rattle.value_hashes.specs.xdr_tx.Operations.{create_claimable_balance_op, liquidity_pool_deposit_op}
unfoldable pub use Rattle.value_hashes.specs.xdr_tx.Operations.{manage_data_op, manage_sell_offer_op, operation}
unfoldable pub use Rattle.value_hashes.specs.xdr_tx.Operations.{operation_body, path_payment_strict_send_op, payment_op}
unfoldable pub use Rattle.value_hashes.specs.xdr_tx.Operations.{set_options_op}
pub use Rattle.value_hashes.specs.xdr_tx.Transactions.{no_conditions, preconditions_arms, preconditions_part}
pub use Rattle.value_hashes.specs.xdr_tx.Transactions.{envelope_arms, envelope_part, envelope_v1}
pub use Rattle.value_hashes.specs.xdr_tx.Transactions.{memo_arms, memo_none, memo_part, set_fields, signature_fields}
pub use Rattle.value_hashes.specs.xdr_tx.Transactions.{transaction_fields, v1_fields}
unfoldable pub use Rattle.value_hashes.specs.xdr_tx.Transactions.{transaction_tail, decorated_signature, memo}
unfoldable pub use Rattle.value_hashes.specs.xdr_tx.Transactions.{preconditions}
unfoldable pub use Rattle.value_hashes.specs.xdr_tx.Transactions.{transaction, transaction_envelope, transaction_set}
unfoldable pub use Rattle.value_hashes.specs.xdr_tx.Transactions.{transaction_v1_envelope}
pub use Rattle.xdr_core.specs.Combinators.{Arm, Fields, Part, closed, empty, encode_part, entire, marked, part}
pub use Rattle.xdr_core.specs.Combinators.{part_sized, part_within, struct_of, ◌⨾◌}
unfoldable pub use Rattle.xdr_core.specs.Combinators.{constant, extension, list, option, times}
pub use Rattle.xdr_core.specs.Format.{IsBytes}
pub use Rattle.xdr_core.specs.Leaves.{mark_word, padded, padding_len}
unfoldable pub use Rattle.xdr_core.specs.Leaves.{count, fixed, flag, i32, i64, mark, u32, u64, var}
pub use Rattle.xdr_core.specs.Xdr.{Xdr, extension_of, list_of, optional, tag, union_of}
pub use Rattle.xdr_entries.specs.Basic.{account_id_fields, alphanum4, asset_arms, asset_part, hash_fields, muxed_arms}
pub use Rattle.xdr_entries.specs.Basic.{muxed_ed25519, muxed_part, native, price_fields, signer_fields, signer_hash_x}
pub use Rattle.xdr_entries.specs.Basic.{signer_key_arms, signer_key_part}
unfoldable pub use Rattle.xdr_entries.specs.Basic.{change_trust_asset, claimable_balance_id, hash, muxed_account}
unfoldable pub use Rattle.xdr_entries.specs.Basic.{pool_params, price, signer, signer_key}
pub use Rattle.xdr_entries.specs.Entries.{account_fields, claimant_fields, entry_fields}
unfoldable pub use Rattle.xdr_entries.specs.Entries.{account_head, account_tail, claimant, ledger_entry_body}
pub use Rattle.xdr_header.specs.Header.{value_fields}
unfoldable pub use Rattle.xdr_header.specs.Header.{counts, ledger_close_value_signature, ledger_header, limits}
unfoldable pub use Rattle.xdr_header.specs.Header.{stellar_value}
pub use Rattle.xdr_header.specs.Records.{record_fields}
unfoldable pub use Rattle.xdr_header.specs.Records.{close_record}
