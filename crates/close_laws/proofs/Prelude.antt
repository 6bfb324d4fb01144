-- Names that several proofs of this crate use.
pub use Rattle.std.proofs.Common.{All, Bool, Err, List, None, Ok, Option, Result, Some, T, [], ap, append-nil}
pub use Rattle.std.proofs.Common.{arith, cond, false, get_or, if◌then◌else◌, inl, inr, length, length-append, map}
pub use Rattle.std.proofs.Common.{nat_eq, nat_le, not, refl, replicate, subst, suc, sym, true, zero, ℕ}
pub use Rattle.std.proofs.Common.{◌&&◌, ◌*◌, ◌++◌, ◌+◌, ◌-◌, ◌<◌, ◌^◌, ◌||◌, ◌∙◌, ◌∷◌, ◌≡◌, ◌≤◌, ◌⊎◌}
pub use Rattle.std.proofs.Math.Nat.{mul-le-mul_right}
pub use Rattle.std.proofs.lemmas.Bool.{and_parts, leb-false, ltb-false}
pub use Rattle.std.proofs.lemmas.Int.{ints}
pub use Rattle.std.proofs.lemmas.List.{length-map, length-replicate, same_lists}
pub use Rattle.std.proofs.lemmas.List.Elements.{All-append, All-cons, All-from_recursion, All-head, All-map}
pub use Rattle.std.proofs.lemmas.List.Elements.{All-nil, All-tail, All-weaker}
pub use Rattle.std.specs.FinMap.{entries, entries-from_sorted, entries_sorted, from_sorted, get, get-entries}
pub use Rattle.std.specs.FinMap.{get-from_sorted, same_map}
pub use Rattle.std.specs.Int.{byte_at, bytes_high_first, cast_unsigned, to_be_bytes, w32, w64}
pub use Rattle.std.specs.List.{AllByRecursion, find, flat_map, list_all, range_with_len}
pub use Rattle.std.specs.Option.{option_or}
pub use Rattle.std.specs.Ordering.{eq_by_cmp, is_lt}
pub use Rattle.std.specs.Prelude.{FitsSigned, int_lt, option_map, pos}
pub use Rattle.std.specs.Prelude.{slice_get, slice_index, ℤ, ◌+ℤ◌, ◌≤ℤ◌}
pub use Rattle.bucket_levels.proofs.entry_map_proofs.KeyMaps.{same_itself}
pub use Rattle.bucket_levels.proofs.entry_map_proofs.Lookups.{apart_keys}
pub use Rattle.bucket_levels.specs.Hash.{list_hash}
pub use Rattle.bucket_levels.specs.Pairs.{Pair, empty_pair, pair_at}
pub use Rattle.bucket_levels.specs.Size.{pair_size}
unfoldable pub use Rattle.bucket_levels.specs.Size.{file_total}
pub use Rattle.bucket_levels.specs.bucket_core.Bucket.{Change, Contents, Filled, change_at, version_of}
pub use Rattle.bucket_levels.specs.bucket_core.File.{HasFile, file_of}
pub use Rattle.bucket_levels.specs.entry_map.Batch.{parts_of}
pub use Rattle.bucket_levels.specs.entry_map.EntryMap.{EntryMap}
pub use Rattle.byteorder.specs.Numbers.{length-bytes_high_first}
pub use Rattle.close_laws.specs.Closes.{ClosesAreOne, NextIsClosing, TakenIsClosable}
pub use Rattle.close_laws.specs.Images.{ImagesAreOne, ImagesRepresentStates, IsImageOf}
pub use Rattle.close_laws.specs.Legal.{AreClosed, EntriesStayEncodable, IsClosable, NextIsLegal}
pub use Rattle.close_rules.proofs.ledger_types_proofs.Arithmetic.{add_nonnegative, indicator_at_most_one}
pub use Rattle.close_rules.proofs.ledger_types_proofs.Arithmetic.{less_from_unequal, natural_add_nonnegative}
pub use Rattle.close_rules.proofs.ledger_types_proofs.Arithmetic.{natural_nonnegative}
pub use Rattle.close_rules.proofs.ledger_types_proofs.Arithmetic.{natural_positive_from_unequal, natural_zero_add}
pub use Rattle.close_rules.proofs.ledger_types_proofs.KeyOrdering.{keys_exact, keys_total}
pub use Rattle.close_rules.proofs.tx_apply_proofs.Conserving.{all_at}
pub use Rattle.close_rules.proofs.tx_apply_proofs.Placed.{as_many, same_inside}
pub use Rattle.close_rules.proofs.xdr_header_proofs.HeaderLaws.{ledger_header_laws, ledger_upgrade_laws}
pub use Rattle.close_rules.proofs.xdr_header_proofs.RecordLaws.{close_record_laws}
pub use Rattle.close_rules.specs.Close.{IsClose, IsClosed, PreparedClose, applied_in, filled_header, setting_in}
pub use Rattle.close_rules.specs.Close.{upgraded_header}
pub use Rattle.close_rules.specs.EntryRules.{IsFirstBroken, entry_rules}
pub use Rattle.close_rules.specs.Images.{AreFieldsInRange, AreFilesOf, BreaksEntries, HasEntries, HasFiles, HasHeader}
pub use Rattle.close_rules.specs.Images.{HasLevels, IsJudged, state_of}
unfoldable pub use Rattle.close_rules.specs.Images.{header_in}
pub use Rattle.close_rules.specs.Refusals.{ended, ended_by}
unfoldable pub use Rattle.close_rules.specs.Refusals.{record_fault, record_in, set_fault, term_fault, upgrade_fault}
pub use Rattle.close_rules.specs.State.{ClosingState, IsClosingState, IsEncoded, max_file_total}
pub use Rattle.close_rules.specs.entry_changes.Encodable.{AreEncodable, IsEntryEncodable}
pub use Rattle.close_rules.specs.entry_changes.Next.{AreNextEntries, IsNextAt, stamped}
pub use Rattle.close_rules.specs.entry_slots.AccountExtensions.{account_liabilities, liabilities_in}
pub use Rattle.close_rules.specs.entry_slots.AccountExtensions.{num_sponsored, num_sponsoring, second_in, third_in}
pub use Rattle.close_rules.specs.entry_slots.AccountExtensions.{sponsored_in, sponsoring_in, sponsorship_in}
pub use Rattle.close_rules.specs.entry_slots.Accounts.{account_in}
unfoldable pub use Rattle.close_rules.specs.entry_slots.Accounts.{account_at}
pub use Rattle.close_rules.specs.entry_slots.EntrySponsor.{sponsor_in, sponsor_of}
pub use Rattle.close_rules.specs.entry_slots.LineExtensions.{line_liabilities, line_liabilities_in, line_second_in}
pub use Rattle.close_rules.specs.entry_slots.LineExtensions.{use_count, use_count_in}
pub use Rattle.close_rules.specs.entry_slots.Tests.{Tests, first_fault}
pub use Rattle.close_rules.specs.entry_sums.Sums.{EachEntry, Weight, sum_over}
unfoldable pub use Rattle.close_rules.specs.entry_sums.Sums.{total}
pub use Rattle.close_rules.specs.fee_rules.Turns.{apply_order_of}
pub use Rattle.close_rules.specs.header_chain.SkipList.{finished, hash_at, moves_first, moves_second, moves_third}
pub use Rattle.close_rules.specs.header_chain.SkipList.{sets_first, skip_list_after}
pub use Rattle.close_rules.specs.header_chain.Upgrades.{all_upgraded, first_index, if_complete, is_bad_after, is_bad_at}
pub use Rattle.close_rules.specs.header_chain.Upgrades.{is_bad_value, is_out_of_profile, read_complete, type_before}
pub use Rattle.close_rules.specs.header_chain.Upgrades.{type_of, upgrade_in, upgraded, upgraded_if}
pub use Rattle.close_rules.specs.ledger_types.Ids.{account_of}
pub use Rattle.close_rules.specs.ledger_types.KeyOrder.{key_cmp}
pub use Rattle.close_rules.specs.ledger_types.Keys.{key_of_body}
pub use Rattle.close_rules.specs.ledger_types.declared.account.AccountEntry.{AccountEntry}
pub use Rattle.close_rules.specs.ledger_types.declared.account.AccountEntryExtensionV1.{AccountEntryExtensionV1}
pub use Rattle.close_rules.specs.ledger_types.declared.account.AccountEntryExtensionV2.{AccountEntryExtensionV2}
pub use Rattle.close_rules.specs.ledger_types.declared.account.AccountEntryExtensionV3.{AccountEntryExtensionV3}
pub use Rattle.close_rules.specs.ledger_types.declared.asset.Asset.{Asset}
pub use Rattle.close_rules.specs.ledger_types.declared.asset.PoolParams.{PoolParams}
pub use Rattle.close_rules.specs.ledger_types.declared.asset.TrustLineAsset.{TrustLineAsset}
pub use Rattle.close_rules.specs.ledger_types.declared.claimable_balance.ClaimableBalanceEntry.{ClaimableBalanceEntry}
pub use Rattle.close_rules.specs.ledger_types.declared.claimable_balance.Claimant.{Claimant}
pub use Rattle.close_rules.specs.ledger_types.declared.data_entry.DataEntry.{DataEntry}
pub use Rattle.close_rules.specs.ledger_types.declared.entry.LedgerEntry.{LedgerEntry}
pub use Rattle.close_rules.specs.ledger_types.declared.entry.LedgerEntryBody.{LedgerEntryBody}
pub use Rattle.close_rules.specs.ledger_types.declared.entry.LedgerEntryExtensionV1.{LedgerEntryExtensionV1}
pub use Rattle.close_rules.specs.ledger_types.declared.header.LedgerHeader.{LedgerHeader}
pub use Rattle.close_rules.specs.ledger_types.declared.header.LedgerUpgrade.{LedgerUpgrade}
pub use Rattle.close_rules.specs.ledger_types.declared.ids.AccountId.{AccountId}
pub use Rattle.close_rules.specs.ledger_types.declared.ids.Hash.{Hash}
pub use Rattle.close_rules.specs.ledger_types.declared.ids.MuxedAccount.{MuxedAccount}
pub use Rattle.close_rules.specs.ledger_types.declared.key.LedgerKey.{LedgerKey}
pub use Rattle.close_rules.specs.ledger_types.declared.liquidity_pool.LiquidityPoolEntry.{LiquidityPoolEntry}
pub use Rattle.close_rules.specs.ledger_types.declared.offer.OfferEntry.{OfferEntry}
pub use Rattle.close_rules.specs.ledger_types.declared.predicate.ClaimPredicate.{ClaimPredicate}
pub use Rattle.close_rules.specs.ledger_types.declared.predicate.ClaimPredicate.TheOpen.{ClaimPredicate-F}
pub use Rattle.close_rules.specs.ledger_types.declared.predicate.ClaimPredicate.TheVariants.{Unconditional}
pub use Rattle.close_rules.specs.ledger_types.declared.predicate.ClaimPredicate.TheViews.{out-roll-ClaimPredicate}
unfoldable pub use Rattle.close_rules.specs.ledger_types.declared.predicate.ClaimPredicate.TheViews.{out-ClaimPredicate}
pub use Rattle.close_rules.specs.ledger_types.declared.price.Liabilities.{Liabilities}
pub use Rattle.close_rules.specs.ledger_types.declared.price.Price.{Price}
pub use Rattle.close_rules.specs.ledger_types.declared.signer.Signer.{Signer}
pub use Rattle.close_rules.specs.ledger_types.declared.signer.SignerKey.{SignerKey}
pub use Rattle.close_rules.specs.ledger_types.declared.trust_line.TrustLineEntry.{TrustLineEntry}
pub use Rattle.close_rules.specs.legal_rules.Aggregates.{Buying, Selling, ShareLines, Shares, Subentries, Uses, View}
pub use Rattle.close_rules.specs.legal_rules.Aggregates.{counted, stated, stated_at}
pub use Rattle.close_rules.specs.legal_rules.Bounds.{AreSubentriesFew, DoReservesFit}
pub use Rattle.close_rules.specs.legal_rules.Headers.{IsHeaderInRange, header_flags_in}
pub use Rattle.close_rules.specs.legal_rules.Legal.{IsLegal, params_of, view}
pub use Rattle.close_rules.specs.legal_rules.Owing.{IsEntryLegal}
pub use Rattle.close_rules.specs.legal_rules.Owing.{weight}
pub use Rattle.close_rules.specs.legal_rules.PoolShares.{Pools, needed_line, uses, uses_by, uses_of}
pub use Rattle.close_rules.specs.legal_rules.Ranges.{AreLineFlags, IsAccountInRange, IsBalanceInRange, IsBodyInRange}
pub use Rattle.close_rules.specs.legal_rules.Ranges.{IsPoolInRange, IsTrustLineInRange, balance_flags}
pub use Rattle.close_rules.specs.legal_rules.Supply.{held}
pub use Rattle.close_rules.specs.op_claim.Predicates.{fixed_claimant, fixed_level, max_levels, time_after}
unfoldable pub use Rattle.close_rules.specs.op_claim.Predicates.{fixed_below}
pub use Rattle.close_rules.specs.op_form.declared.levels.ThresholdLevel.TheVariants.{Low}
pub use Rattle.close_rules.specs.op_laws.Laws.{AllLawful, IsFit}
pub use Rattle.close_rules.specs.op_laws.Steps.{LegalSettles, SettledHeld, SettledLegal, TransactionLaws}
pub use Rattle.close_rules.specs.op_laws.Underway.{IsSettled, IsUnderway}
pub use Rattle.close_rules.specs.op_types.declared.operation.Operation.{Operation}
pub use Rattle.close_rules.specs.op_types.declared.operation.OperationBody.{OperationBody}
pub use Rattle.close_rules.specs.op_types.declared.operation_result.OperationResult.{OperationResult}
pub use Rattle.close_rules.specs.op_types.declared.transaction.FeeBumpTransaction.{FeeBumpTransaction}
pub use Rattle.close_rules.specs.op_types.declared.transaction.Transaction.{Transaction}
pub use Rattle.close_rules.specs.op_types.declared.transaction.TransactionEnvelope.{TransactionEnvelope}
pub use Rattle.close_rules.specs.op_types.declared.transaction.TransactionSet.{TransactionSet}
pub use Rattle.close_rules.specs.op_types.declared.transaction.TransactionV1Envelope.{TransactionV1Envelope}
pub use Rattle.close_rules.specs.op_types.declared.transaction_result.TransactionOutcome.{TransactionOutcome}
pub use Rattle.close_rules.specs.reserve_rules.Reserve.{greatest_i64}
pub use Rattle.close_rules.specs.signer_check.declared.held.HeldSignature.{HeldSignature}
pub use Rattle.close_rules.specs.sponsor_rules.Charge.{line_multiplicity, owner_of}
pub use Rattle.close_rules.specs.sponsor_rules.Payers.{IsReadyAccount, is_same_account}
unfoldable pub use Rattle.close_rules.specs.sponsor_rules.Payers.{open_sponsor}
pub use Rattle.close_rules.specs.sponsor_rules.Signers.{map_after_removing_preauth}
pub use Rattle.close_rules.specs.sponsor_rules.declared.context.Ctx.{Ctx}
pub use Rattle.close_rules.specs.tx_apply.Fees.{map_after_fee}
unfoldable pub use Rattle.close_rules.specs.tx_apply.Fees.{fees_taken, sum_of}
pub use Rattle.close_rules.specs.tx_apply.Laws.{AreAllFit, AreFit, CanClose, CanDraw, IsConserved, SetsConserve}
unfoldable pub use Rattle.close_rules.specs.tx_apply.Laws.{operation_total}
pub use Rattle.close_rules.specs.tx_apply.Operations.{operations_of}
pub use Rattle.close_rules.specs.tx_apply.Running.{Ran, done_at, done_by, inserted}
unfoldable pub use Rattle.close_rules.specs.tx_apply.Running.{run}
pub use Rattle.close_rules.specs.tx_apply.Set.{Setting, all_held, ctx_in, envelopes_in_order, fees_taken_of}
pub use Rattle.close_rules.specs.tx_apply.Set.{result_pair, set_done}
unfoldable pub use Rattle.close_rules.specs.tx_apply.Set.{all_applied, envelope_applied}
pub use Rattle.close_rules.specs.tx_apply.Signing.{Auth, Auths, are_used, auth_of, auth_result, source_by, source_of}
unfoldable pub use Rattle.close_rules.specs.tx_apply.Signing.{auth_results, auths_of}
pub use Rattle.close_rules.specs.valid_values.Predicates.{both, is_valid_level, is_valid_stored_predicate}
unfoldable pub use Rattle.close_rules.specs.valid_values.Predicates.{is_valid_below}
pub use Rattle.close_rules.specs.value_hashes.Hashes.{signed_hash_of, transaction_hash_of}
pub use Rattle.close_rules.specs.xdr_core.Combinators.{Fields, closed, entire, marked, struct_of, ◌⨾◌}
unfoldable pub use Rattle.close_rules.specs.xdr_core.Combinators.{constant, extension, list, option, refused, times}
pub use Rattle.close_rules.specs.xdr_core.Format.{IsBytes}
pub use Rattle.close_rules.specs.xdr_core.Leaves.{flag_code, padded, padding_len}
unfoldable pub use Rattle.close_rules.specs.xdr_core.Leaves.{count, fixed, flag, i32, i64, mark, u32, u64, var}
pub use Rattle.close_rules.specs.xdr_core.Position.{Position, Reading, start_of, ◌>>=◌}
pub use Rattle.close_rules.specs.xdr_core.Xdr.{Xdr, extension_of, list_of, optional, tag}
pub use Rattle.close_rules.specs.xdr_core.declared.fault.XdrFault.{XdrFault}
pub use Rattle.close_rules.specs.xdr_entries.Basic.{account_id_fields, hash_fields, liabilities_fields, price_fields}
pub use Rattle.close_rules.specs.xdr_entries.Basic.{signer_fields}
unfoldable pub use Rattle.close_rules.specs.xdr_entries.Basic.{account_id, asset}
unfoldable pub use Rattle.close_rules.specs.xdr_entries.Basic.{claimable_balance_id, hash, liabilities, muxed_account}
unfoldable pub use Rattle.close_rules.specs.xdr_entries.Basic.{signer, signer_key}
pub use Rattle.close_rules.specs.xdr_entries.Entries.{account_fields, account_v1_fields, account_v2_fields}
pub use Rattle.close_rules.specs.xdr_entries.Entries.{account_v3_fields}
pub use Rattle.close_rules.specs.xdr_entries.Entries.{balance_fields, balance_v1_fields, claimant_fields, data_fields}
pub use Rattle.close_rules.specs.xdr_entries.Entries.{entry_fields, entry_v1_fields, line_fields, line_v1_fields}
pub use Rattle.close_rules.specs.xdr_entries.Entries.{line_v2_fields, offer_fields, pool_fields}
unfoldable pub use Rattle.close_rules.specs.xdr_entries.Entries.{account_entry, account_extension_v1}
unfoldable pub use Rattle.close_rules.specs.xdr_entries.Entries.{account_extension_v2, account_extension_v3}
unfoldable pub use Rattle.close_rules.specs.xdr_entries.Entries.{account_head}
unfoldable pub use Rattle.close_rules.specs.xdr_entries.Entries.{account_tail}
unfoldable pub use Rattle.close_rules.specs.xdr_entries.Entries.{claimable_balance_entry}
unfoldable pub use Rattle.close_rules.specs.xdr_entries.Entries.{claimable_balance_extension_v1, claimant, data_entry}
unfoldable pub use Rattle.close_rules.specs.xdr_entries.Entries.{ledger_entry, ledger_entry_body}
unfoldable pub use Rattle.close_rules.specs.xdr_entries.Entries.{ledger_entry_extension_v1, liquidity_pool_entry}
unfoldable pub use Rattle.close_rules.specs.xdr_entries.Entries.{offer_entry, trust_line_entry, trust_line_extension_v1}
unfoldable pub use Rattle.close_rules.specs.xdr_entries.Entries.{trust_line_extension_v2}
pub use Rattle.close_rules.specs.xdr_entries.Predicates.{level}
unfoldable pub use Rattle.close_rules.specs.xdr_entries.Predicates.{predicate_below}
pub use Rattle.close_rules.specs.xdr_header.Header.{counts_fields, header_fields, header_v1_fields, limits_fields}
pub use Rattle.close_rules.specs.xdr_header.Header.{value_fields, value_signature_fields}
unfoldable pub use Rattle.close_rules.specs.xdr_header.Header.{counts, ledger_close_value_signature, ledger_header}
unfoldable pub use Rattle.close_rules.specs.xdr_header.Header.{ledger_header_extension_v1, ledger_upgrade, limits}
unfoldable pub use Rattle.close_rules.specs.xdr_header.Header.{stellar_value}
unfoldable pub use Rattle.close_rules.specs.xdr_header.Records.{close_record}
pub use Rattle.close_rules.specs.xdr_header.declared.image.StartImage.{StartImage}
pub use Rattle.close_rules.specs.xdr_header.declared.record.CloseRecord.{CloseRecord}
unfoldable pub use Rattle.close_rules.specs.xdr_results.Results.{inner_transaction_outcome, inner_transaction_result}
unfoldable pub use Rattle.close_rules.specs.xdr_results.Results.{inner_transaction_result_pair, operation_result}
unfoldable pub use Rattle.close_rules.specs.xdr_results.Results.{operation_result_tr, transaction_outcome}
unfoldable pub use Rattle.close_rules.specs.xdr_results.Results.{transaction_result, transaction_result_pair}
unfoldable pub use Rattle.close_rules.specs.xdr_results.Results.{transaction_result_set}
unfoldable pub use Rattle.close_rules.specs.xdr_tx.Operations.{bump_sequence_op, change_trust_op}
unfoldable pub use Rattle.close_rules.specs.xdr_tx.Operations.{create_claimable_balance_op}
unfoldable pub use Rattle.close_rules.specs.xdr_tx.Operations.{operation}
unfoldable pub use Rattle.close_rules.specs.xdr_tx.Operations.{operation_body}
unfoldable pub use Rattle.close_rules.specs.xdr_tx.Transactions.{fee_bump_envelope, fee_bump_transaction}
unfoldable pub use Rattle.close_rules.specs.xdr_tx.Transactions.{transaction_tail}
unfoldable pub use Rattle.close_rules.specs.xdr_tx.Transactions.{transaction, transaction_envelope, transaction_set}
unfoldable pub use Rattle.close_rules.specs.xdr_tx.Transactions.{transaction_v0, transaction_v0_envelope}
unfoldable pub use Rattle.close_rules.specs.xdr_tx.Transactions.{transaction_v1_envelope}
