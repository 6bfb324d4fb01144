-- Names that several proofs of this crate use.
pub use Rattle.std.proofs.Common.{Bool, List, Option, Some, add-one, ap, arith, drop, false, get_or, length, map}
pub use Rattle.std.proofs.Common.{option_map, refl, rules, sym, ℕ, ◌+◌, ◌-◌, ◌<◌, ◌∙◌, ◌≡◌, ◌≤◌}
pub use Rattle.std.proofs.lemmas.List.{length-map}
pub use Rattle.std.specs.Prelude.{slice_get}
pub use Rattle.header_chain.specs.Upgrades.{all_upgraded, first_index, is_bad_after, is_bad_at, is_out_of_profile}
pub use Rattle.header_chain.specs.Upgrades.{type_at, type_before, upgrade_in}
