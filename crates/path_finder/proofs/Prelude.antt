-- Names that several proofs of this crate use.
pub use Rattle.std.proofs.Common.{◌≡◌, refl, sym, ap, subst, ◌∙◌, ℕ, ◌+◌, ◌<◌, ◌≤◌, suc, List, [], ◌∷◌, length, get_or}
pub use Rattle.std.proofs.Common.{map, drop, Bool, true, false, true≢false, cond, not, Option, Some, None, ◌⊎◌, inl}
pub use Rattle.std.proofs.Common.{inr, Result, Ok, Err, arith, rules}
pub use Rattle.std.specs.Prelude.{Contains, ℤ, pos, if◌then◌else◌}
unfoldable pub use Rattle.std.specs.List.{IsDistinct}
pub use Rattle.std.specs.Ordering.{nat_cmp, is_lt, ordering_then}
pub use Rattle.ledger_types.proofs.KeyOrdering.{same_assets}
pub use Rattle.ledger_types.specs.declared.asset.Asset.{Asset}
pub use Rattle.ledger_types.specs.declared.asset.Asset.TheVariants.{Native}
pub use Rattle.op_payment.specs.Paths.{is_same_asset}
pub use Rattle.path_finder.specs.Cheapest.{IsPath, position_in, sort_key, is_less, IsCheapest, IsCheapestOrNone}
pub use Rattle.path_finder.specs.Cheapest.{IsCheapestPath}
pub use Rattle.path_finder.specs.Costs.{cost_of}
pub use Rattle.path_finder.specs.Hashing.{same_equivalence}
pub use Rattle.path_finder.specs.Query.{distinct}
pub use Rattle.path_finder.specs.Search.{better, IsPathBefore, IsBestBefore}
pub use Rattle.path_finder.specs.declared.query.Found.{Found}
