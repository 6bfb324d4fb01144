-- Names that several proofs of this crate use.
pub use Rattle.std.proofs.Common.{All, Contains, IfSome, List, None, Option, Some, [], ap, append-nil, append_assoc}
pub use Rattle.std.proofs.Common.{arith, false, get_or, inl, inr, length, map, option_to_list, refl, rules, subst, suc}
pub use Rattle.std.proofs.Common.{sym, take, true, zero, ℕ, ◌++◌, ◌+◌, ◌<◌, ◌∙◌, ◌∷◌, ◌≡◌, ◌≢◌, ◌≤◌, ◌⊎◌}
pub use Rattle.std.proofs.lemmas.List.{take_all, take_more}
pub use Rattle.std.proofs.lemmas.List.Elements.{Contains-append_cases, Contains-append_left, Contains-append_right}
pub use Rattle.std.specs.FinMap.{get, same_map}
pub use Rattle.std.specs.List.{cons_option, filter_map}
pub use Rattle.std.specs.Ordering.{eq_by_cmp, is_lt}
pub use Rattle.std.specs.Vec.Iter.{into_iter_items}
pub use Rattle.std.specs.declared.cmp.Ordering.TheVariants.{Equal, Less}
pub use Rattle.entry_map.proofs.KeyMaps.{same_itself}
pub use Rattle.entry_map.proofs.Lists.{map_push}
pub use Rattle.entry_map.proofs.Lookups.{erase_elsewhere, erase_there, put_elsewhere, put_there}
pub use Rattle.entry_map.specs.EntryMap.{EntryMap, IsKeyed, put}
pub use Rattle.entry_map.specs.KeyMaps.{AreRising}
pub use Rattle.entry_map.specs.declared.batch.Batch.{Batch}
pub use Rattle.ledger_types.proofs.KeyOrdering.{keys_exact, keys_total, same_keys}
pub use Rattle.ledger_types.specs.KeyOrder.{key_cmp}
pub use Rattle.ledger_types.specs.Keys.{key_of}
pub use Rattle.ledger_types.specs.declared.entry.LedgerEntry.{LedgerEntry}
pub use Rattle.ledger_types.specs.declared.key.LedgerKey.{LedgerKey}
pub use Rattle.change_stream.specs.Applying.{AreMadeSoFar, IsMade}
pub use Rattle.change_stream.specs.Changes.{Applies, AreChangesOf, Fits, IsChangeOf, changed, inverse, key_in}
pub use Rattle.change_stream.specs.Changes.{reversed}
pub use Rattle.change_stream.specs.Making.{AreSorted, IsKeyedFor, creation, removal_in, update_in}
pub use Rattle.change_stream.specs.declared.change.Change.{Change}
pub use Rattle.change_stream.specs.declared.change.Change.TheVariants.{Created, Removed, Updated}
pub use Rattle.change_stream.specs.declared.sorting.KeyedChange.{KeyedChange}
