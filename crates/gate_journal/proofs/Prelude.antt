-- Names that several proofs of this crate use.
pub use Rattle.std.proofs.Common.{Bool, Err, List, Ok, OnOk, Result, Some, [], ap, append_assoc, arith, drop, false}
pub use Rattle.std.proofs.Common.{get_or, inl, inr, length, length-append, length-drop, min, refl, subst, sym, take}
pub use Rattle.std.proofs.Common.{take-append-drop, ℕ, ◌++◌, ◌+◌, ◌-◌, ◌<◌, ◌∙◌, ◌∷◌, ◌≡◌, ◌≤◌, ◌⊎◌}
pub use Rattle.std.proofs.lemmas.List.{append-nil, drop-drop, drop_at, drop_more, take_all, take_at}
pub use Rattle.std.proofs.lemmas.List.Elements.{All-head, All-nil, All-push, All-tail}
pub use Rattle.std.specs.Prelude.{All}
pub use Rattle.byteorder.specs.Endian.{big_bytes, big_number}
pub use Rattle.byteorder.specs.Numbers.{big_number-reads_back}
pub use Rattle.gate_journal.specs.Calls.{HasEither, HoldsRecords, IsMountFault, IsSettled, JournalState}
pub use Rattle.gate_journal.specs.Reading.{IsOpen, ReportsBroken, ReportsRecord, ReportsRecords}
pub use Rattle.gate_journal.specs.Records.{Appended, BeginWith, HasRecords, IsBroken, IsShut, block, blocks, framed}
pub use Rattle.gate_journal.specs.Records.{max_record}
pub use Rattle.outside.proofs.Running.{onward}
pub use Rattle.outside.specs.Disk.{Disk, Image, InFile, IsSafe, Runs, Same, Stays, Torn, Wrote}
