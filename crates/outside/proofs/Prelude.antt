-- Names that several proofs of this crate use.
pub use Rattle.std.proofs.Common.{Bool, Err, IsTrue, List, Ok, OnErr, OnOk, Result, [], ap, arith, drop, false, get_or}
pub use Rattle.std.proofs.Common.{get_or-set_other, get_or-set_same, if◌then◌else◌, inl, inr, length, length-append}
pub use Rattle.std.proofs.Common.{length-take, min, refl, replicate, set, subst, suc, sym, take, true, zero, ℕ, ◌++◌}
pub use Rattle.std.proofs.Common.{◌+◌, ◌-◌, ◌<◌, ◌==◌, ◌∙◌, ◌∷◌, ◌≡◌, ◌≢◌, ◌≤◌, ◌⊎◌}
pub use Rattle.std.proofs.KnownBytes.{Appends-trans, Consumes-trans}
pub use Rattle.std.proofs.lemmas.Bool.{cases_eq, cases_lt, eq-eqb, ne_eqb}
pub use Rattle.std.proofs.lemmas.List.{append-nil, drop-take, drop_all, get_or_past, length-map, length-replicate}
pub use Rattle.std.proofs.lemmas.List.{map-set, take-append-le, take-take, take_all}
pub use Rattle.std.specs.Io.KnownBytes.{Appends, Consumes}
pub use Rattle.outside.specs.Disk.{CutShort, Disk, Image, InFile, Runs, Same, Stays, Torn, Wrote}
pub use Rattle.outside.specs.MemDisk.{AreOfFiles, DiskState, FileLeft, IsOfFile, Remaining, after_call, after_calls}
pub use Rattle.outside.specs.MemDisk.{at_first, disk_of, fill_call, fill_calls, fill_cut, fill_range, fill_write}
pub use Rattle.outside.specs.MemDisk.{filled, image_of, items_of, now_on_disk, remaining, same_file, with_file, written}
pub use Rattle.outside.specs.MemLaws.{changed, cut_by, length-written, reads_now, torn_piece, uncut, untorn}
pub use Rattle.outside.specs.declared.call.Call.{Call}
pub use Rattle.outside.specs.declared.call.Call.TheVariants.{Cut, Sync, Write}
