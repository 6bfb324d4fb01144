-- Names that several proofs of this crate use.
pub use Rattle.std.proofs.Common.{Err, Fits, List, Ok, [], ap, append_assoc, arith, drop, get_or, length, map, pos}
pub use Rattle.std.proofs.Common.{refl, subst, suc, sym, take, w8, zero, ℕ, ◌++◌, ◌+◌, ◌-◌, ◌<◌, ◌^◌, ◌∙◌, ◌∷◌, ◌≡◌}
pub use Rattle.std.proofs.Common.{◌≤◌}
pub use Rattle.std.proofs.lemmas.List.{drop-drop, drop_at, get_or-drop, length-append, length-drop, length-set}
pub use Rattle.std.proofs.lemmas.List.{map-append, take_all, take_at, take_more_set}
pub use Rattle.std.specs.Prelude.{slice_set}
pub use Rattle.record_stream.specs.Layouts.{AreWithin, IsIn, IsLayout, IsPassed, IsTaken, IsWithin, image_in, len_at}
pub use Rattle.record_stream.specs.Layouts.{piece}
pub use Rattle.record_stream.specs.declared.layout.Layout.{Layout}
pub use Rattle.record_stream.specs.declared.layout.Span.{Span}
pub use Rattle.xdr_core.specs.Leaves.{bytes_at, mark_word}
unfoldable pub use Rattle.xdr_core.specs.Leaves.{mark, u64}
pub use Rattle.xdr_core.specs.Position.{Position, Reading, start_of}
unfoldable pub use Rattle.xdr_header.specs.Image.{file, files as all_files, start_image}
