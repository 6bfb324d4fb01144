-- Names that several proofs of this crate use.
pub use Rattle.std.proofs.Common.{Bool, Err, List, Ok, [], ap, append_assoc, arith, cond, drop, false, length, ltb, pos}
pub use Rattle.std.proofs.Common.{refl, subst, suc, sym, true, zero, ℕ, ◌++◌, ◌+◌, ◌-◌, ◌<◌, ◌^◌, ◌∙◌, ◌∷◌, ◌≡◌, ◌≤◌}
pub use Rattle.std.proofs.lemmas.List.{append-nil}
pub use Rattle.std.specs.Prelude.{fold}
pub use Rattle.xdr_core.proofs.FormatLaws.{Laws, arm_laws, closed_laws, entire_laws, extension_laws, faults_located}
pub use Rattle.xdr_core.proofs.FormatLaws.{found, i64_laws, lawful_of, list_laws, mark_laws, marked_laws, struct_laws}
pub use Rattle.xdr_core.proofs.FormatLaws.{tag_laws, times_laws, u32_laws, u64_laws, union_laws, var_laws, written, ◌&◌}
pub use Rattle.xdr_core.proofs.Looping.{with_prefix}
pub use Rattle.xdr_core.specs.Leaves.{bytes_at}
unfoldable pub use Rattle.xdr_core.specs.Leaves.{u64, var}
pub use Rattle.xdr_core.specs.Position.{Position, Reading, end_of, fault_at, followed, ◌>>=◌}
pub use Rattle.xdr_core.specs.declared.fault.XdrFault.{XdrFault}
pub use Rattle.xdr_header.specs.Image.{file_at, image_fields, prefix_fields}
unfoldable pub use Rattle.xdr_header.specs.Image.{file, files, start_image}
