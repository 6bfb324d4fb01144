-- Names that several proofs of this crate use.
pub use Rattle.std.proofs.Common.{Err, List, arith, drop, pos, refl, rules, suc, zero, ℕ, ◌*◌, ◌++◌, ◌+◌, ◌-◌, ◌<◌, ◌≡◌}
pub use Rattle.xdr_core.proofs.FormatLaws.{Laws, arm_laws, closed_laws, empty_laws, entire_laws, extension_laws}
pub use Rattle.xdr_core.proofs.FormatLaws.{faults_located, fixed_laws, found, i32_laws, i64_laws, lawful_of, list_laws}
pub use Rattle.xdr_core.proofs.FormatLaws.{marked_laws, option_laws, struct_laws, tag_laws, too_deep_laws, u32_laws}
pub use Rattle.xdr_core.proofs.FormatLaws.{u64_laws, union_laws, var_laws, written, ◌&◌}
pub use Rattle.xdr_core.proofs.Looping.{fails_at, goes_on, is_done, with_prefix}
pub use Rattle.xdr_core.proofs.Unions.{IsFound}
unfoldable pub use Rattle.xdr_core.specs.Combinators.{many_at, refused}
pub use Rattle.xdr_entries.specs.Predicates.{and_arm, before_absolute_time, before_relative_time, claim_predicate}
pub use Rattle.xdr_entries.specs.Predicates.{level, level_arms, level_fields, level_part, not_arm, or_arm, predicate_of}
pub use Rattle.xdr_entries.specs.Predicates.{unconditional}
unfoldable pub use Rattle.xdr_entries.specs.Predicates.{predicate_below}
