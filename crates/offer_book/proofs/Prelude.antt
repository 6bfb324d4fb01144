-- Names that several proofs of this crate use.
pub use Rattle.std.proofs.Common.{All, Bool, IfSome, List, None, Option, Some, T, [], ap, arith, cond, false, length}
pub use Rattle.std.proofs.Common.{map, pos, refl, subst, sym, true, w64, ℤ, ◌&&◌, ◌++◌, ◌<◌, ◌∙◌, ◌∷◌, ◌≡◌, ◌≢◌, ◌≤ℤ◌}
pub use Rattle.std.specs.Cmp.{int_cmp_is, tied_itself}
pub use Rattle.std.specs.FinMap.{entries, entries_sorted, find, get, get-entries}
pub use Rattle.std.specs.FinMap.Entries.{below_all, is_sorted}
pub use Rattle.std.specs.Ordering.{eq_by_cmp, int_cmp, is_eq, is_lt, ordering_then}
pub use Rattle.std.specs.declared.cmp.Ordering.TheVariants.{Equal, Greater, Less}
pub use Rattle.entry_map.proofs.Aggregates.{found_first, found_later}
pub use Rattle.entry_map.proofs.shared_tree_proofs.Parts.{both, first, greater, is_less, second, turned}
pub use Rattle.entry_map.specs.Book.{offer_in, offers_in}
pub use Rattle.entry_map.specs.EntryMap.{EntryMap, IsKeyed, IsLeastAbove, IsNextAfter}
pub use Rattle.ledger_types.proofs.KeyOrdering.{account_cmp_itself, exact_accounts, keys_exact, keys_total}
pub use Rattle.ledger_types.proofs.KeyOrdering.{same_from_both_orders}
pub use Rattle.ledger_types.specs.KeyOrder.{account_cmp, key_cmp}
pub use Rattle.ledger_types.specs.Keys.{key_of, key_of_body}
pub use Rattle.ledger_types.specs.declared.entry.LedgerEntry.{LedgerEntry}
pub use Rattle.ledger_types.specs.declared.key.LedgerKey.{LedgerKey}
pub use Rattle.offer_book.specs.Sold.{IsSoldIn, above, sold_in}
