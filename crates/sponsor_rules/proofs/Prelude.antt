-- Names that several proofs of this crate use.
pub use Rattle.std.proofs.Common.{Bool, List, None, Ok, Option, Some, ap, arith, cond, false, inl, inr, length, nat_eq}
pub use Rattle.std.proofs.Common.{refl, rules, subst, sym, true, ℕ, ◌∙◌, ◌≡◌, ◌≢◌, ◌≤◌, ◌⊎◌}
pub use Rattle.std.proofs.lemmas.Result.{on_ok_weaker}
pub use Rattle.std.specs.FinMap.{get, get-insert, get-remove}
pub use Rattle.ledger_types.specs.Keys.{key_of}
pub use Rattle.ledger_types.specs.declared.account.AccountEntry.{AccountEntry}
pub use Rattle.ledger_types.specs.declared.ids.AccountId.{AccountId}
pub use Rattle.reserve_rules.specs.entry_map.EntryMap.{EntryMap, erase, put}
pub use Rattle.reserve_rules.specs.entry_map.Undo.{Undo, with_current}
pub use Rattle.reserve_rules.specs.entry_slots.Accounts.{account_kind, account_of, account_of_slot}
pub use Rattle.reserve_rules.specs.entry_slots.Accounts.{account_slot, account_slot_at, entry_of_account}
unfoldable pub use Rattle.reserve_rules.specs.entry_slots.Accounts.{account_at, with_account}
pub use Rattle.sponsor_rules.specs.Counting.{count_at, count_if, count_in, with_less, with_more, with_new_count}
unfoldable pub use Rattle.sponsor_rules.specs.Counting.{with_count}
pub use Rattle.sponsor_rules.specs.Keeping.{ChangesAtMost, HasCore, IsChangeOf, IsChanged, IsLoaded, KeepsCore}
pub use Rattle.sponsor_rules.specs.Keeping.{KeepsOtherCounts, KeepsOthers, LeavesCore, LeavesOtherCores, RaisesNoCount}
pub use Rattle.sponsor_rules.specs.Keeping.{RaisesNone}
pub use Rattle.sponsor_rules.specs.declared.count.Count.{Count}
pub use Rattle.sponsor_rules.specs.declared.count.Count.TheVariants.{Sponsored, Sponsoring, SubEntries}
