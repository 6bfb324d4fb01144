-- Names that several proofs of this crate use.
pub use Rattle.std.proofs.Common.{All, Bool, FitsSigned, IfOk, IsTrue, List, None, OnOk, Option, Some, [], ap}
pub use Rattle.std.proofs.Common.{append_assoc, arith, cond, drop, false, get_or, if◌then◌else◌, is_some, length}
pub use Rattle.std.proofs.Common.{length-append, map, min, nat_eq, neg_ℤ, negsuc, not, pos, refl, rules, subst, suc}
pub use Rattle.std.proofs.Common.{sym, take, true, unsigned_abs, w64, zero, ℕ, ℤ, ◌&&◌, ◌*◌, ◌++◌, ◌+ℤ◌, ◌+◌, ◌-ℤ◌, ◌-◌}
pub use Rattle.std.proofs.Common.{◌<◌, ◌^◌, ◌||◌, ◌↔◌, ◌∙◌, ◌∷◌, ◌≡◌, ◌≢◌, ◌≤ℤ◌, ◌≤◌}
pub use Rattle.std.proofs.lemmas.Int.{ints, to_z-of_z}
pub use Rattle.std.proofs.lemmas.List.{append-nil, drop_all, drop_more, length-map, take_all, take_more}
pub use Rattle.std.proofs.lemmas.List.Elements.{All-append, All-cons, All-drop, All-from_recursion, All-nil, All-take}
pub use Rattle.std.proofs.lemmas.Option.{get_or_from_slice_get, slice_get-get_or, slice_get_within}
pub use Rattle.std.specs.List.{find, flat_map, list_all}
pub use Rattle.std.specs.Ordering.{int_eq, is_eq}
pub use Rattle.std.specs.Prelude.{slice_get}
pub use Rattle.entry_map.specs.EntryMap.{EntryMap}
pub use Rattle.entry_map.specs.Undo.{Undo, with_current}
pub use Rattle.entry_slots.specs.Accounts.{HasAccount}
unfoldable pub use Rattle.entry_slots.specs.Accounts.{account_at, with_account}
pub use Rattle.entry_slots.specs.Tests.{first_fault}
pub use Rattle.fee_rules.proofs.Encoded.{envelopes_within}
pub use Rattle.fee_rules.specs.Envelopes.{fee_source_of, not_below_0}
pub use Rattle.fee_rules.specs.Fees.{fee_charged, set_base_fee}
pub use Rattle.fee_rules.specs.Ranking.{at_most_one, at_rank}
unfoldable pub use Rattle.fee_rules.specs.Ranking.{first_ranked}
pub use Rattle.fee_rules.specs.Turns.{apply_order_of, turn_cmp}
unfoldable pub use Rattle.fee_rules.specs.Turns.{indices_in_order}
pub use Rattle.ledger_types.proofs.Arithmetic.{add_assoc, add_nonnegative, add_zero, int_eq_true, natural_nonnegative}
pub use Rattle.ledger_types.specs.declared.account.AccountEntry.{AccountEntry}
pub use Rattle.ledger_types.specs.declared.header.LedgerHeader.{LedgerHeader}
pub use Rattle.ledger_types.specs.declared.ids.AccountId.{AccountId}
pub use Rattle.ledger_types.specs.declared.ids.Hash.{Hash}
pub use Rattle.op_form.specs.Done.{Done, FeePool, Holder, Move, OfAccount}
pub use Rattle.op_laws.proofs.Described.{account_location, described_at, described_itself, described_twice}
pub use Rattle.op_laws.proofs.Described.{end_describes, gained_twice, more_at}
pub use Rattle.op_laws.proofs.Issued.{issued_after, lumens_not_issued, none_moved}
pub use Rattle.op_laws.proofs.Lawful.{none_drawn}
pub use Rattle.op_laws.specs.Laws.{AllLawful, IsFit, IsLawful}
pub use Rattle.op_laws.specs.Moves.{AreDescribed, holding, is_holder, is_issuer, location_of}
unfoldable pub use Rattle.op_laws.specs.Moves.{gained, issued}
pub use Rattle.op_laws.specs.Steps.{AreSignersFew, LegalSettles, PreauthsSettle, SeqNumsSettle, TransactionLaws}
pub use Rattle.op_laws.specs.Underway.{AreDrawn, IsSettled, IsUnderway, LeavesSettled}
unfoldable pub use Rattle.op_laws.specs.entry_sums.Sums.{total}
pub use Rattle.op_laws.specs.legal_rules.Payments.{paid, with_paid}
pub use Rattle.op_types.specs.declared.operation.Operation.{Operation}
pub use Rattle.op_types.specs.declared.transaction.FeeBumpTransactionEnvelope.{FeeBumpTransactionEnvelope}
pub use Rattle.op_types.specs.declared.transaction.Transaction.{Transaction}
pub use Rattle.op_types.specs.declared.transaction.TransactionEnvelope.{TransactionEnvelope}
pub use Rattle.op_types.specs.declared.transaction.TransactionSet.{TransactionSet}
pub use Rattle.op_types.specs.declared.transaction.TransactionV0.{TransactionV0}
pub use Rattle.op_types.specs.declared.transaction.TransactionV0Envelope.{TransactionV0Envelope}
pub use Rattle.op_types.specs.declared.transaction.TransactionV1Envelope.{TransactionV1Envelope}
pub use Rattle.op_types.specs.declared.transaction_result.TransactionOutcome.{TransactionOutcome}
pub use Rattle.reserve_rules.specs.Reserve.{greatest_i64}
pub use Rattle.signer_check.specs.Checks.{Checks}
pub use Rattle.signer_check.specs.Weight.{held}
pub use Rattle.signer_check.specs.declared.held.HeldSignature.{HeldSignature}
pub use Rattle.sponsor_rules.specs.Signers.{map_after_removing_preauth}
pub use Rattle.sponsor_rules.specs.declared.context.Ctx.{Ctx}
pub use Rattle.tx_apply.specs.Checks.{is_poor, judged, source_account}
unfoldable pub use Rattle.tx_apply.specs.Indices.{envelopes_at}
pub use Rattle.tx_apply.specs.Laws.{AreAllDescribed, AreAllFit, AreFit, AreLawful, CanClose, CanDraw, FeesConserve}
pub use Rattle.tx_apply.specs.Laws.{IsConserved, IsTurnConserved, OperationsAreLawful, SetsConserve}
pub use Rattle.tx_apply.specs.Laws.{TransactionsConserve, Turn, TurnsConserve, holding_with, turns_of}
unfoldable pub use Rattle.tx_apply.specs.Laws.{operation_total, turns}
pub use Rattle.tx_apply.specs.Operations.{operations_of}
pub use Rattle.tx_apply.specs.Running.{Ran, Step, done_at, done_by, inserted}
unfoldable pub use Rattle.tx_apply.specs.Running.{run}
pub use Rattle.tx_apply.specs.Set.{DoneSet, Setting, after_transaction, all_held, ctx_in, envelopes_in_order}
pub use Rattle.tx_apply.specs.Set.{fee_pool_after, fees_taken_of, lacks_fee_source, none_applied, result_pair, set_done}
pub use Rattle.tx_apply.specs.Set.{setting_of}
unfoldable pub use Rattle.tx_apply.specs.Set.{all_applied, envelope_applied, missing_among}
pub use Rattle.tx_apply.specs.Signing.{Auth, are_used, auth_of, source_of}
pub use Rattle.tx_apply.specs.Transaction.{Applied, ended, map_without_used, operations_applied, transaction_applied}
pub use Rattle.tx_apply.specs.Transaction.{undone}
unfoldable pub use Rattle.tx_apply.specs.Transaction.{map_without_preauths}
pub use Rattle.value_hashes.specs.Hashes.{signed_hash_of, transaction_hash_of}
pub use Rattle.value_hashes.specs.xdr_core.Combinators.{Fields, closed, encode_option, entire, marked, struct_of, ◌⨾◌}
unfoldable pub use Rattle.value_hashes.specs.xdr_core.Combinators.{list, option}
unfoldable pub use Rattle.xdr_tx.specs.Operations.{create_claimable_balance_op, operation, operation as format}
unfoldable pub use Rattle.xdr_tx.specs.Operations.{operation_body}
pub use Rattle.xdr_tx.specs.Transactions.{bump_fields, fee_bump_fields, set_fields}
pub use Rattle.xdr_tx.specs.Transactions.{transaction_fields, transaction_v0_fields, v0_fields, v1_fields}
unfoldable pub use Rattle.xdr_tx.specs.Transactions.{transaction_tail, preconditions, decorated_signature}
unfoldable pub use Rattle.xdr_tx.specs.Transactions.{fee_bump_envelope}
unfoldable pub use Rattle.xdr_tx.specs.Transactions.{fee_bump_transaction, memo, time_bounds, transaction}
unfoldable pub use Rattle.xdr_tx.specs.Transactions.{transaction_envelope, transaction_set, transaction_v0}
unfoldable pub use Rattle.xdr_tx.specs.Transactions.{transaction_v0_envelope, transaction_v1_envelope}
