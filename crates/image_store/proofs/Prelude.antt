-- Names that several proofs of this crate use.
pub use Rattle.std.proofs.Common.{Bool, Err, List, None, Ok, Option, Result, Some, [], ap, ap₂, arith, drop, false, inl}
pub use Rattle.std.proofs.Common.{inr, length, length-append, nat_eq, refl, rules, subst, suc, sym, take, true, zero, ℕ}
pub use Rattle.std.proofs.Common.{◌++◌, ◌+◌, ◌-◌, ◌<◌, ◌^◌, ◌∙◌, ◌∷◌, ◌≡◌, ◌≢◌, ◌≤◌, ◌⊎◌}
pub use Rattle.std.proofs.Math.Seq.{drop-append_seam, take-append_seam}
pub use Rattle.std.proofs.lemmas.Bool.{cases_eq, cases_lt, cases_order, eq-eqb, eqb-true, le-ltb, lt-ltb, ltb-false}
pub use Rattle.std.proofs.lemmas.Bool.{ltb-true, ne_eqb}
pub use Rattle.std.proofs.lemmas.List.{append-nil, append_assoc, drop-drop, drop-take, drop_at, length-drop}
pub use Rattle.std.proofs.lemmas.List.{nil_from_length, take-append-drop, take-take, take_all, take_at}
pub use Rattle.std.proofs.lemmas.List.Elements.{All-cons, All-nil}
pub use Rattle.std.specs.Prelude.{if◌then◌else◌, nat_lt, pos, slice_index, ◌%◌}
pub use Rattle.byteorder.specs.Endian.{big_bytes, big_number}
pub use Rattle.byteorder.specs.Numbers.{big_number-reads_back, length-bytes_high_first}
pub use Rattle.gate_journal.specs.Calls.{HasEither, JournalState}
pub use Rattle.gate_journal.specs.Records.{BeginWith, HasNoRecords, HasRecords, IsBroken, IsShut, block, blocks}
pub use Rattle.gate_journal.specs.Records.{max_record}
pub use Rattle.gate_journal.specs.declared.fault.StoreFault.{StoreFault}
pub use Rattle.image_store.specs.Calls.{HoldsEither, IsCreated, IsMade, IsSettled, Mounts, first_kept}
pub use Rattle.image_store.specs.ImageFiles.{IsFormed, IsHashed, IsImage, IsNumbered, IsOpen, IsSized, after_gate}
pub use Rattle.image_store.specs.ImageFiles.{digest_in, epoch_in, format_in, head_len, image_in, length_in, network_in}
pub use Rattle.image_store.specs.ImageFiles.{word_in}
unfoldable pub use Rattle.image_store.specs.ImageFiles.{epoch_of, format_of, image_offset, top_bit}
pub use Rattle.image_store.specs.Laws.{EachOpens, OpeningsAreOne}
pub use Rattle.image_store.specs.Opening.{AreFormed, BreaksForm, BreaksImage, BreaksJournal, Holds, HoldsNothing}
pub use Rattle.image_store.specs.Opening.{IsChosen, IsMisformed, IsOpening, Kept, grown, rolled}
pub use Rattle.image_store.specs.Reading.{IsChosenHead, IsHead, IsHeadSized, IsOfFile, IsSaid}
pub use Rattle.image_store.specs.Reading.{ReportsBytes, ReportsChosen, ReportsComplete, ReportsEpoch, ReportsForm}
pub use Rattle.image_store.specs.Reading.{ReportsHead, ReportsImage, ReportsOpenHead, greater_of}
pub use Rattle.image_store.specs.State.{StoreState}
pub use Rattle.image_store.specs.Turning.{HasTurned, IsSameOrNotOpen, IsTurned, IsTurning}
unfoldable pub use Rattle.image_store.specs.Turning.{room}
pub use Rattle.image_store.specs.declared.head.Head.{Head}
pub use Rattle.ledger_types.specs.declared.ids.Hash.{Hash}
pub use Rattle.outside.proofs.Running.{onward, widened}
pub use Rattle.outside.specs.Disk.{Disk, Image, InFile, IsSafe, Runs, Same, Stays}
pub use Rattle.record_stream.specs.Measured.{end_by, image_end}
pub use Rattle.sha2.proofs.Facts256.{length-sha256}
pub use Rattle.sha2.specs.Sha256.{sha256}
pub use Rattle.xdr_core.specs.Format.{Encodes, IsBytes}
pub use Rattle.xdr_core.specs.Position.{Position, Reading, start_of}
pub use Rattle.xdr_core.specs.declared.fault.XdrFault.{XdrFault}
pub use Rattle.xdr_header.proofs.ImageLaws.{start_image_laws}
unfoldable pub use Rattle.xdr_header.specs.Image.{file, files, start_image}
pub use Rattle.xdr_header.specs.declared.image.StartImage.{StartImage}
