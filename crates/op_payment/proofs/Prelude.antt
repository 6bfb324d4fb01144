-- Names that several proofs of this crate use.
pub use Rattle.std.proofs.Common.{Bool, Err, None, Ok, Option, Result, Some, [], ap, arith, false, inl, inr, length}
pub use Rattle.std.proofs.Common.{not, of_z, refl, rules, subst, sym, to_z, true, w64, ℕ, ◌∙◌, ◌∷◌, ◌≡◌, ◌≢◌, ◌≤◌}
pub use Rattle.std.proofs.lemmas.Int.{ints}
pub use Rattle.std.specs.Ordering.{int_cmp, is_eq, is_lt}
pub use Rattle.std.specs.Prelude.{IfOk, if◌then◌else◌, int_lt, neg_ℤ, pos, unsigned_abs, ℤ, ◌++◌, ◌+ℤ◌, ◌-ℤ◌, ◌-◌, ◌≤ℤ◌}
pub use Rattle.entry_map.specs.EntryMap.{EntryMap}
pub use Rattle.entry_map.specs.Undo.{Undo, with_current}
pub use Rattle.ledger_types.proofs.Arithmetic.{add_assoc, add_nonnegative, add_sub_first, add_zero, int_cmp_not_less}
pub use Rattle.ledger_types.proofs.Arithmetic.{int_lt_false, natural_nonnegative, nonnegative_from_natural}
pub use Rattle.ledger_types.proofs.Arithmetic.{unsigned_abs_nonnegative}
pub use Rattle.ledger_types.specs.declared.asset.Asset.{Asset}
pub use Rattle.ledger_types.specs.declared.ids.AccountId.{AccountId}
pub use Rattle.ledger_types.specs.declared.trust_line.TrustLineEntry.{TrustLineEntry}
pub use Rattle.op_form.specs.Amounts.{line_credit_tests, line_debit_tests, map_after_credit, map_after_debit}
pub use Rattle.op_form.specs.Amounts.{map_after_issued_credit, map_after_issued_debit, map_after_line_credit_of}
pub use Rattle.op_form.specs.Amounts.{map_after_line_debit_of, with_less, with_more}
pub use Rattle.op_form.specs.Assets.{is_issued_by, is_native, line_asset_of}
pub use Rattle.op_form.specs.Lumens.{map_after_lumens_credit, map_after_lumens_credit_of, map_after_lumens_debit}
pub use Rattle.op_form.specs.Lumens.{map_after_lumens_debit_of, with_less_lumens, with_more_lumens}
pub use Rattle.op_form.specs.Premises.{BalancesAreInRange}
pub use Rattle.op_form.specs.Steps.{IsStep, after_step, unless_refused}
pub use Rattle.op_form.specs.declared.amounts.CreditFault.{CreditFault}
pub use Rattle.op_form.specs.declared.amounts.DebitFault.{DebitFault}
pub use Rattle.op_payment.specs.PathCalls.{DoCrossingsFit, IsCarriedSo, IsHopped, IsReceiving, IsSending, IsTried}
pub use Rattle.op_payment.specs.PathCalls.{carried_of, carried_on_of, needed_before_of, set_out_of}
pub use Rattle.op_payment.specs.PathPayment.{arrived, path_moves}
pub use Rattle.op_payment.specs.Paths.{Carried, after_hop, by_end, carried_on, hopped, is_same_asset, needed_before}
pub use Rattle.op_payment.specs.Paths.{received, received_hop, receiving, sending, sent, sent_hop, set_out}
pub use Rattle.op_payment.specs.declared.carried.Carried.{Carried as CarriedOfCall}
pub use Rattle.op_payment.specs.declared.hop_fault.HopFault.{HopFault}
pub use Rattle.sponsor_rules.specs.declared.context.Ctx.{Ctx}
unfoldable pub use Rattle.sponsor_rules.specs.entry_slots.Lines.{line_at, with_line}
pub use Rattle.sponsor_rules.specs.reserve_rules.Reserve.{IsLineInRange, available, line_available, line_room}
pub use Rattle.sponsor_rules.specs.reserve_rules.Reserve.{min_balance, room}
pub use Rattle.trade_cross.proofs.legal_rules_proofs.Bounded.{account_legal}
pub use Rattle.trade_cross.proofs.legal_rules_proofs.Leaving.{Leaves, account_changed, leaves_as, leaves_itself}
pub use Rattle.trade_cross.proofs.legal_rules_proofs.LinesLeft.{line_kept as line_of_any_kept}
pub use Rattle.trade_cross.proofs.legal_rules_proofs.LinesLeft.{line_left as line_of_any_left, line_legal}
pub use Rattle.trade_cross.specs.Crossable.{IsCrossable}
pub use Rattle.trade_cross.specs.Progressing.{AreTradeBounds, IsCrossing}
pub use Rattle.trade_cross.specs.legal_rules.Aggregates.{Kind, Shares, View}
pub use Rattle.trade_cross.specs.legal_rules.Holdings.{Increase, IsKeyed, for_one, none_more, under_key}
pub use Rattle.trade_cross.specs.legal_rules.Legal.{view}
pub use Rattle.trade_cross.specs.legal_rules.Owing.{AreEntriesLegal, IsBoundRightly, IsEntryLegal, IsLegalOwing}
pub use Rattle.trade_cross.specs.legal_rules.Owing.{nothing_owed}
pub use Rattle.trade_cross.specs.legal_rules.Supply.{lumens_of, of_asset, of_line}
