-- Names that several proofs of this crate use.
pub use Rattle.std.proofs.Common.{List, None, Option, Some, T, [], ap, arith, cond, length, of_z, refl, rules, subst}
pub use Rattle.std.proofs.Common.{suc, sym, to_z, zero, ℕ, ◌∙◌, ◌∷◌, ◌≡◌, ◌≢◌}
pub use Rattle.std.proofs.lemmas.Int.{ints, to_z-of_z}
pub use Rattle.std.specs.Int.{w128}
pub use Rattle.std.specs.Prelude.{FitsSigned, IfSome, neg_ℤ, negsuc, pos, replicate, ℤ, ◌*◌, ◌+ℤ◌, ◌+◌, ◌<◌, ◌≤ℤ◌}
pub use Rattle.entry_map.specs.EntryMap.{EntryMap, IsKeyed, IsLeastAbove, IsNextAfter}
pub use Rattle.ledger_types.specs.Keys.{key_of, key_of_body}
pub use Rattle.legal_rules.specs.Supply.{held}
pub use Rattle.legal_rules.specs.entry_sums.Sums.{Weight, part, sum_over}
unfoldable pub use Rattle.legal_rules.specs.entry_sums.Sums.{total}
pub use Rattle.tally.specs.Walk.{first_key, sum_after}
