-- Names that several proofs of this crate use.
pub use Rattle.std.proofs.Common.{Bool, None, Option, Some, ap, arith, cond, false, inl, inr, refl, subst, sym, true}
pub use Rattle.std.proofs.Common.{◌∙◌, ◌≡◌, ◌≢◌, ◌⊎◌}
pub use Rattle.std.proofs.lemmas.Int.{ints, to_z-of_z}
pub use Rattle.std.proofs.lemmas.Result.{on_ok_weaker}
pub use Rattle.std.specs.FinMap.{get, get-insert, get-remove}
pub use Rattle.std.specs.Prelude.{if◌then◌else◌, pos, ℤ, ◌+ℤ◌, ◌-ℤ◌, ◌≤ℤ◌}
pub use Rattle.entry_map.specs.EntryMap.{EntryMap, erase, put}
pub use Rattle.entry_slots.proofs.ChangedEntries.{accounts_exact, either_way, entry_exists}
pub use Rattle.entry_slots.specs.AccountExtensions.{account_liabilities}
pub use Rattle.entry_slots.specs.Accounts.{account_in, account_of, account_of_slot}
unfoldable pub use Rattle.entry_slots.specs.Accounts.{account_at, with_account}
pub use Rattle.entry_slots.specs.Lines.{entry_of_line, line_in, line_of, line_of_slot}
unfoldable pub use Rattle.entry_slots.specs.Lines.{line_at}
pub use Rattle.ledger_types.proofs.KeyOrdering.{keys_total}
pub use Rattle.ledger_types.specs.Keys.{key_of}
pub use Rattle.ledger_types.specs.declared.account.AccountEntry.{AccountEntry}
pub use Rattle.ledger_types.specs.declared.entry.LedgerEntry.{LedgerEntry}
pub use Rattle.ledger_types.specs.declared.ids.AccountId.{AccountId}
pub use Rattle.op_form.specs.Lumens.{Gives, map_after_lumens_credit, map_after_lumens_credit_of, with_more_lumens}
pub use Rattle.op_form.specs.Premises.{AccountsAreInRange, AccountsAreReady, BalancesAreInRange, IsInRangeAt}
pub use Rattle.reserve_rules.specs.Reserve.{IsInRange, IsLineInRange, greatest_i64, line_room, room}
pub use Rattle.sponsor_rules.proofs.AccountMaps.{account_of_slot_at, stored_others}
pub use Rattle.sponsor_rules.specs.Keeping.{ChangesAtMost, HasCore, KeepsCore}
