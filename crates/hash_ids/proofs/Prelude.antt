-- Names that several proofs of this crate use.
pub use Rattle.std.proofs.Common.{List, Ok, Result, [], ap, map, refl, sym, take, ℕ, ◌++◌, ◌∙◌, ◌∷◌, ◌≡◌}
pub use Rattle.std.specs.List.{flat_map}
