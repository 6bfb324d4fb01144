-- Names that several proofs of this crate use.
pub use Rattle.std.proofs.Common.{None, Option, Some, ap, length, map, subst, sym, take, ℕ, ◌∙◌, ◌≡◌}
pub use Rattle.op_claim.specs.Predicates.{fixed_claimant}
unfoldable pub use Rattle.op_claim.specs.Predicates.{fixed_below}
pub use Rattle.op_form.specs.Premises.{BalancesAreInRange}
