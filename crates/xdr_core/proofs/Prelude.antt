-- Names that several proofs of this crate use.
pub use Rattle.std.proofs.Common.{Bool, Err, List, None, Ok, Option, Result, Some, T, [], add_assoc, ap, append_assoc}
pub use Rattle.std.proofs.Common.{arith, cond, drop, eqb, false, inl, inr, length, ltb, not, pos, refl, replicate}
pub use Rattle.std.proofs.Common.{subst, suc, sym, take, true, zero, ℕ, ℤ, ◌++◌, ◌+◌, ◌-◌, ◌<◌, ◌^◌, ◌∙◌, ◌∷◌, ◌≡◌, ◌≤◌}
pub use Rattle.std.proofs.Common.{◌⊎◌}
pub use Rattle.std.proofs.Math.Facts.{Fits-lt-pow, Fits-of_lt, Fits-of_z, of_z-to_z, sfits_lit, sfits_to_z, to_z-of_z}
pub use Rattle.std.proofs.lemmas.Bool.{cases_lt, eqb-true, le-ltb, ltb-false}
pub use Rattle.std.proofs.lemmas.Bool.Decides.{Decides-int_eq}
pub use Rattle.std.proofs.lemmas.List.{append-nil, drop-drop, drop-take, drop_at, get_or-drop, get_or-take, get_or_past}
pub use Rattle.std.proofs.lemmas.List.{length-append, length-drop, length-replicate, length-take, length-take-le}
pub use Rattle.std.proofs.lemmas.List.{take-append-drop, take-append-le, take_at}
pub use Rattle.std.specs.Int.{Width, cast_signed, cast_unsigned, from_be_bytes, w32, w64}
pub use Rattle.std.specs.List.{AllByRecursion, flat_map, position, prefix_len}
pub use Rattle.std.specs.Ordering.{int_eq}
pub use Rattle.std.specs.Prelude.{FitsSigned, IfSome, fold, ◌≢◌}
pub use Rattle.byteorder.specs.Endian.{big_bytes, big_number}
pub use Rattle.xdr_core.specs.Combinators.{Arm, Fields, Part, arm_at, closed, constant_of, empty, encode_option}
pub use Rattle.xdr_core.specs.Combinators.{encode_part, entire, extended, extension_part, lifted, marked, onto_option}
pub use Rattle.xdr_core.specs.Combinators.{onto_part, option_of, part, part_sized, part_within, pick, struct_of, union}
pub use Rattle.xdr_core.specs.Combinators.{without, ◌⨾◌}
unfoldable pub use Rattle.xdr_core.specs.Combinators.{constant, extension, list, many_at, option, refused, times}
pub use Rattle.xdr_core.specs.Format.{Encodes, FaultsRightly, Format, IsBytes, IsPrefixFree, Lawful, LocatesFaults}
pub use Rattle.xdr_core.specs.Format.{Takes}
pub use Rattle.xdr_core.specs.Leaves.{bounded, bytes_at, flag_code, flag_of, mark_len, mark_word, number, number_at}
pub use Rattle.xdr_core.specs.Leaves.{padded, padding_at, padding_len, padding_of, signed, signed_at}
unfoldable pub use Rattle.xdr_core.specs.Leaves.{count, fixed, flag, i32, i64, mark, opaque_at, u32, u64, var}
pub use Rattle.xdr_core.specs.Position.{Position, Reading, end_of, fault_at, followed, onward, short_at, with_fault}
pub use Rattle.xdr_core.specs.Position.{◌>>=◌}
pub use Rattle.xdr_core.specs.Xdr.{Xdr, as_it_is, extension_of, list_of, no_arm, optional, tag, too_deep, union_of}
pub use Rattle.xdr_core.specs.declared.fault.XdrFault.{XdrFault}
pub use Rattle.xdr_core.specs.declared.fault.XdrKind.TheVariants.{BadEnum, BadFlag, BadMark, Padding, Short, TooDeep}
pub use Rattle.xdr_core.specs.declared.fault.XdrKind.TheVariants.{TooLong}
