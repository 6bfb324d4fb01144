-- Names that several proofs of this crate use.
pub use Rattle.std.proofs.Common.{All, Bool, Contains, IfSome, List, None, Option, Some, T, [], ap, append-nil}
pub use Rattle.std.proofs.Common.{append_assoc, arith, cond, drop, false, get_or, inl, inr, length, map, option_map}
pub use Rattle.std.proofs.Common.{refl, rules, slice_set, subst, suc, sym, take, true, zero, ℕ, ◌++◌, ◌+◌, ◌<◌, ◌==◌}
pub use Rattle.std.proofs.Common.{◌||◌, ◌↔◌, ◌∙◌, ◌∷◌, ◌≡◌, ◌≢◌, ◌≤◌, ◌⊎◌}
pub use Rattle.std.proofs.lemmas.List.Elements.{All-head, All-tail}
pub use Rattle.std.proofs.lemmas.Option.{get_or_from_slice_get, slice_get-map, slice_get_within}
pub use Rattle.std.proofs.lemmas.Result.{IfOk-weaker}
pub use Rattle.std.specs.Cmp.{Equal-is, eq_by_cmp_equiv, tied_itself}
pub use Rattle.std.specs.FinMap.{entries, entries-from_sorted, from_entries, get, get-from_entries, get-from_sorted}
pub use Rattle.std.specs.FinMap.{insert, same_map, values}
pub use Rattle.std.specs.FinMap.Entries.{below_all, by_order, find, is_sorted}
pub use Rattle.std.specs.List.{slice_get}
pub use Rattle.std.specs.Option.{option_or, unwrap_or}
pub use Rattle.std.specs.Ordering.{eq_by_cmp, is_eq, is_lt}
pub use Rattle.std.specs.declared.cmp.Ordering.{Ordering}
pub use Rattle.std.specs.declared.cmp.Ordering.TheVariants.{Equal, Greater, Less}
pub use Rattle.entry_changes.specs.Next.{AreNextEntries, IsExactBatch, IsNextAt, stamped}
pub use Rattle.entry_map.proofs.KeyMaps.{derived, derived_is, or_or}
pub use Rattle.entry_map.specs.EntryMap.{EntryMap, IsKeyed, IsNextAfter, put}
pub use Rattle.entry_map.specs.Indexes.{IsIndexOf, PositionMap, terms_at}
pub use Rattle.entry_map.specs.KeyMaps.{AreRising}
pub use Rattle.entry_map.specs.declared.batch.Batch.{Batch}
pub use Rattle.entry_table.specs.Rows.{AreOwn, IsOverlaid, IsPassed, IsRising, IsTableRow}
pub use Rattle.entry_table.specs.Rows.{is_among, map_of, putting, value_at, with_key}
pub use Rattle.ledger_types.proofs.KeyOrdering.{keys_compared, keys_exact, keys_total, same_keys}
pub use Rattle.ledger_types.specs.KeyOrder.{key_cmp}
pub use Rattle.ledger_types.specs.Keys.{key_of}
pub use Rattle.ledger_types.specs.declared.entry.LedgerEntry.{LedgerEntry}
pub use Rattle.ledger_types.specs.declared.key.LedgerKey.{LedgerKey}
pub use Rattle.shared_tree.proofs.Changed.{IsFirstAbove, below_less, below_tied, find_all, first_is, none_above}
pub use Rattle.shared_tree.proofs.Changed.{rising_all}
pub use Rattle.shared_tree.proofs.Parts.{greater, turned}
pub use Rattle.shared_tree.specs.Rows.{all_changed, all_put, changed, first_above}
