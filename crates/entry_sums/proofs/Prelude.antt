-- Names that several proofs of this crate use.
pub use Rattle.std.proofs.Common.{Bool, List, None, Option, Some, T, [], ap, arith, cond, false, refl, subst, sym, true}
pub use Rattle.std.proofs.Common.{◌&&◌, ◌∙◌, ◌∷◌, ◌≡◌}
pub use Rattle.std.proofs.lemmas.Int.{ints}
pub use Rattle.std.specs.FinMap.{entries, entries-insert, entries_sorted, get, get-entries, get-insert, insert}
pub use Rattle.std.specs.FinMap.{same_map}
pub use Rattle.std.specs.FinMap.Entries.{below_all, by_order, find, is_sorted, put, put as put_in}
pub use Rattle.std.specs.Ordering.{eq_by_cmp, is_eq, is_lt}
pub use Rattle.std.specs.Prelude.{pos, ℤ, ◌+ℤ◌, ◌≤ℤ◌}
pub use Rattle.entry_map.proofs.Lookups.{erase_get, erase_there, left_over, put_get}
pub use Rattle.entry_map.proofs.ledger_types_proofs.KeyOrdering.{keys_exact, keys_total, same_keys}
pub use Rattle.entry_map.specs.EntryMap.{EntryMap, erase}
pub use Rattle.entry_map.specs.ledger_types.KeyOrder.{key_cmp}
pub use Rattle.entry_map.specs.ledger_types.Keys.{key_of}
pub use Rattle.entry_map.specs.ledger_types.declared.entry.LedgerEntry.{LedgerEntry}
pub use Rattle.entry_map.specs.ledger_types.declared.key.LedgerKey.{LedgerKey}
pub use Rattle.entry_sums.specs.Sums.{EachEntry, Weight, part, sum_over}
unfoldable pub use Rattle.entry_sums.specs.Sums.{total}
