-- Names that several proofs of this crate use.
pub use Rattle.std.proofs.Common.{Bool, Err, List, None, Ok, Option, Result, Some, [], ap, arith, codes, false, inl}
pub use Rattle.std.proofs.Common.{inr, min, neg_ℤ, negsuc, not, pos, refl, replicate, suc, sym, true, zero, ℕ, ℤ, ◌&&◌}
pub use Rattle.std.proofs.Common.{◌*◌, ◌+ℤ◌, ◌+◌, ◌-◌, ◌<ℤ◌, ◌<◌, ◌^◌, ◌||◌, ◌↔◌, ◌∙◌, ◌∷◌, ◌≡◌, ◌≤ℤ◌, ◌≤◌, ◌⊎◌}
pub use Rattle.std.proofs.lemmas.Bool.{and_from, and_parts, eqb-true, false≢true, le-leb, leb-true, lt-ltb, ltb-true}
pub use Rattle.std.specs.Bool.{Decides, then_some}
pub use Rattle.std.specs.List.{list_all, slice_get}
pub use Rattle.std.specs.Ordering.{int_eq, is_eq, is_gt, is_lt, nat_cmp}
pub use Rattle.std.specs.Prelude.{SomeIff, drop, if◌then◌else◌, int_le, int_lt, is_none, length, map, nat_eq, nat_le}
pub use Rattle.std.specs.Prelude.{nat_lt, option_map, ⊤, ◌++◌}
pub use Rattle.std.specs.Str.{bytes_eq}
pub use Rattle.std.specs.declared.cmp.Ordering.{Ordering}
pub use Rattle.std.specs.declared.cmp.Ordering.TheVariants.{Equal, Greater, Less}
unfoldable pub use Rattle.bucket_core.specs.Reading.{contents_of, items_ahead}
pub use Rattle.bucket_core.specs.declared.fault.BucketFault.TheVariants.{NoMeta, Order, SecondMeta}
pub use Rattle.ledger_types.specs.KeyOrder.{key_cmp}
pub use Rattle.ledger_types.specs.declared.account.AccountEntry.{AccountEntry}
pub use Rattle.ledger_types.specs.declared.asset.Asset.{Asset}
pub use Rattle.ledger_types.specs.declared.asset.Asset.TheVariants.{Alphanum12, Alphanum4, Native}
pub use Rattle.ledger_types.specs.declared.bucket.BucketEntry.{BucketEntry}
pub use Rattle.ledger_types.specs.declared.data_entry.DataEntry.{DataEntry}
pub use Rattle.ledger_types.specs.declared.header.LedgerHeader.{LedgerHeader}
pub use Rattle.ledger_types.specs.declared.ids.AccountId.{AccountId}
pub use Rattle.ledger_types.specs.declared.ids.Hash.{Hash}
pub use Rattle.ledger_types.specs.declared.key.LedgerKey.{LedgerKey}
pub use Rattle.ledger_types.specs.declared.liquidity_pool.LiquidityPoolEntry.{LiquidityPoolEntry}
pub use Rattle.ledger_types.specs.declared.offer.OfferEntry.{OfferEntry}
pub use Rattle.ledger_types.specs.declared.predicate.ClaimPredicate.TheOpen.{ClaimPredicate-F}
pub use Rattle.ledger_types.specs.declared.predicate.ClaimPredicate.TheViews.{out-roll-ClaimPredicate}
pub use Rattle.ledger_types.specs.declared.predicate.ClaimPredicate.TheViews.{roll-ClaimPredicate}
pub use Rattle.ledger_types.specs.declared.trust_line.TrustLineEntry.{TrustLineEntry}
unfoldable pub use Rattle.sha2.specs.Sha256.{compress, digest_bytes, first_words, hash_after, rounds, schedule, sha256}
pub use Rattle.xdr_core.specs.Combinators.{◌⨾◌}
unfoldable pub use Rattle.xdr_core.specs.Combinators.{constant, extension, list, many_at, option, refused, times}
pub use Rattle.xdr_core.specs.Ending.{EndsAt}
pub use Rattle.xdr_core.specs.Format.{IsBytes, Lawful}
unfoldable pub use Rattle.xdr_core.specs.Leaves.{count, fixed, flag, i32, i64, mark, opaque_at, u32, u64, var}
pub use Rattle.xdr_core.specs.Position.{Position, Reading, onward, start_of}
pub use Rattle.xdr_core.specs.Xdr.{Xdr, extension_of, list_of, optional, tag}
pub use Rattle.xdr_core.specs.declared.fault.XdrFault.{XdrFault}
pub use Rattle.xdr_core.specs.declared.fault.XdrKind.{XdrKind}
pub use Rattle.xdr_core.specs.declared.fault.XdrKind.TheVariants.{BadEnum, BadFlag, BadMark, Padding, Short, TooDeep}
pub use Rattle.xdr_core.specs.declared.fault.XdrKind.TheVariants.{TooLong, Trailing}
unfoldable pub use Rattle.xdr_entries.specs.Basic.{account_id, asset, change_trust_asset, claimable_balance_id, hash}
unfoldable pub use Rattle.xdr_entries.specs.Basic.{liabilities, muxed_account, pool_params, price, signer, signer_key}
unfoldable pub use Rattle.xdr_entries.specs.Basic.{trust_line_asset}
unfoldable pub use Rattle.xdr_entries.specs.Entries.{account_extension_v3}
unfoldable pub use Rattle.xdr_entries.specs.Entries.{account_entry, account_extension_v1, account_extension_v2}
unfoldable pub use Rattle.xdr_entries.specs.Entries.{account_head, account_tail, claimable_balance_entry}
unfoldable pub use Rattle.xdr_entries.specs.Entries.{claimable_balance_extension_v1, claimant, data_entry, ledger_entry}
unfoldable pub use Rattle.xdr_entries.specs.Entries.{ledger_entry_body, ledger_entry_extension_v1, liquidity_pool_entry}
unfoldable pub use Rattle.xdr_entries.specs.Entries.{offer_entry, trust_line_entry, trust_line_extension_v1}
unfoldable pub use Rattle.xdr_entries.specs.Entries.{trust_line_extension_v2}
unfoldable pub use Rattle.xdr_entries.specs.Keys.{bucket_entry, ledger_key}
pub use Rattle.xdr_entries.specs.Predicates.{claim_predicate}
unfoldable pub use Rattle.xdr_entries.specs.Predicates.{predicate_below}
unfoldable pub use Rattle.xdr_header.specs.Header.{counts, ledger_close_value_signature, ledger_header}
unfoldable pub use Rattle.xdr_header.specs.Header.{ledger_header_extension_v1, ledger_upgrade, limits, stellar_value}
unfoldable pub use Rattle.xdr_header.specs.Image.{file, files, start_image}
unfoldable pub use Rattle.xdr_header.specs.Records.{close_record}
unfoldable pub use Rattle.xdr_header.specs.Vouches.{vouch}
unfoldable pub use Rattle.xdr_results.specs.Answers.{account_merge_result, allow_trust_result}
unfoldable pub use Rattle.xdr_results.specs.Answers.{begin_sponsoring_future_reserves_result, bump_sequence_result}
unfoldable pub use Rattle.xdr_results.specs.Answers.{change_trust_result, claim_atom, claim_claimable_balance_result}
unfoldable pub use Rattle.xdr_results.specs.Answers.{clawback_claimable_balance_result, clawback_result}
unfoldable pub use Rattle.xdr_results.specs.Answers.{create_account_result, create_claimable_balance_result}
unfoldable pub use Rattle.xdr_results.specs.Answers.{end_sponsoring_future_reserves_result, inflation_payout}
unfoldable pub use Rattle.xdr_results.specs.Answers.{inflation_result, liquidity_pool_deposit_result}
unfoldable pub use Rattle.xdr_results.specs.Answers.{liquidity_pool_withdraw_result, manage_data_result}
unfoldable pub use Rattle.xdr_results.specs.Answers.{manage_offer_effect, manage_offer_result, manage_offer_success}
unfoldable pub use Rattle.xdr_results.specs.Answers.{path_payment_strict_receive_result}
unfoldable pub use Rattle.xdr_results.specs.Answers.{path_payment_strict_send_result, path_payment_success}
unfoldable pub use Rattle.xdr_results.specs.Answers.{payment_result, revoke_sponsorship_result, set_options_result}
unfoldable pub use Rattle.xdr_results.specs.Answers.{set_trust_line_flags_result, simple_payment_result}
unfoldable pub use Rattle.xdr_results.specs.Results.{inner_transaction_outcome, inner_transaction_result}
unfoldable pub use Rattle.xdr_results.specs.Results.{inner_transaction_result_pair, last_run_arms, operation_result}
unfoldable pub use Rattle.xdr_results.specs.Results.{operation_result_tr, second_run_arms, third_run_arms}
unfoldable pub use Rattle.xdr_results.specs.Results.{transaction_outcome, transaction_result, transaction_result_pair}
unfoldable pub use Rattle.xdr_results.specs.Results.{transaction_result_set}
unfoldable pub use Rattle.xdr_tx.specs.Operations.{account_merge_op, allow_trust_op, asset_code}
unfoldable pub use Rattle.xdr_tx.specs.Operations.{begin_sponsoring_future_reserves_op, bump_sequence_op}
unfoldable pub use Rattle.xdr_tx.specs.Operations.{change_trust_op, claim_claimable_balance_op}
unfoldable pub use Rattle.xdr_tx.specs.Operations.{clawback_claimable_balance_op, clawback_op, create_account_op}
unfoldable pub use Rattle.xdr_tx.specs.Operations.{create_claimable_balance_op, create_passive_sell_offer_op}
unfoldable pub use Rattle.xdr_tx.specs.Operations.{last_body_arms, liquidity_pool_deposit_op}
unfoldable pub use Rattle.xdr_tx.specs.Operations.{liquidity_pool_withdraw_op, manage_buy_offer_op, manage_data_op}
unfoldable pub use Rattle.xdr_tx.specs.Operations.{manage_sell_offer_op, operation, operation_body}
unfoldable pub use Rattle.xdr_tx.specs.Operations.{path_payment_strict_receive_op, path_payment_strict_send_op}
unfoldable pub use Rattle.xdr_tx.specs.Operations.{payment_op, revoke_sponsorship_op, second_body_arms, set_options_op}
unfoldable pub use Rattle.xdr_tx.specs.Operations.{set_trust_line_flags_op, third_body_arms}
unfoldable pub use Rattle.xdr_tx.specs.Transactions.{ledger_bounds, preconditions_v2, preconditions}
unfoldable pub use Rattle.xdr_tx.specs.Transactions.{transaction_tail, decorated_signature, fee_bump_envelope}
unfoldable pub use Rattle.xdr_tx.specs.Transactions.{fee_bump_transaction, memo, time_bounds, transaction}
unfoldable pub use Rattle.xdr_tx.specs.Transactions.{transaction_envelope, transaction_set, transaction_v0}
unfoldable pub use Rattle.xdr_tx.specs.Transactions.{transaction_v0_envelope, transaction_v1_envelope}
