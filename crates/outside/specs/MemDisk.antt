-- A disk in memory, as the list of its calls: by it the disk reports what a crash might have left at each moment.
use Rattle.std.specs.Prelude.{◌≡◌, ℕ, ◌+◌, ◌-◌, ◌<◌, ◌≤◌, ◌==◌, Bool, true, false, if◌then◌else◌, List, [], ◌∷◌, ◌++◌}
use Rattle.std.specs.Prelude.{length, take, drop, map, slice_index_or, replicate}
use Rattle.std.specs.Global.{Vec}
use Rattle.outside.specs.Disk.{Image, Disk, InFile, Torn, CutShort}
use Rattle.outside.specs.declared.call.Call.{Call}
use Rattle.outside.specs.declared.call.Call.TheVariants.{Write, Cut, Sync}

-- what the files held at first, and the writes, cuts and syncs since
pub record DiskState : Type 0 where
  pub start : List (List ℕ)
  pub log : List Call

abbrev pub items_of : List (Vec ℕ) → List (List ℕ)
items_of files = map (λ file. file.items) files

-- the bytes of each file, none beyond the last
abbrev pub image_of : List (List ℕ) → Image
image_of files = λ k. slice_index_or files k []

-- ---- one call

-- a file after a write, with this byte between where it ended and where the piece begins
abbrev pub written : (gap at : ℕ) (piece old : List ℕ) → List ℕ
written gap at piece old = take at old ++ replicate (at - length old) gap ++ piece ++ drop (at + length piece) old

abbrev pub with_file : (file : ℕ) → (List ℕ → List ℕ) → Image → Image
with_file file change image = λ k. if k == file then change (image k) else image k

-- what is read, and what a crash may leave
pub record Remaining : Type 1 where
  pub reads : Image
  pub may_leave : Image → Type 0

-- a call that failed changes nothing that is read, and counts its range
abbrev pub after_call : Call → Remaining → Remaining
after_call (Write file at piece done) s = record {
  reads = if done then with_file file (written 0 at piece.items) s.reads else s.reads;
  may_leave = λ c. (d : Image) × s.may_leave d × InFile file (Torn at (length piece.items)) d c;
}
after_call (Cut file size done) s = record {
  reads = if done then with_file file (take size) s.reads else s.reads;
  may_leave = λ c. (d : Image) × s.may_leave d × InFile file (CutShort size) d c;
}
after_call Sync s = record { reads = s.reads; may_leave = λ c. c ≡ s.reads }

abbrev pub IsOfFile : Call → Type 0
IsOfFile (Write file at piece done) = file < 4
IsOfFile (Cut file size done) = file < 4
IsOfFile Sync = Unit {0}

abbrev pub AreOfFiles : List Call → Type 0
AreOfFiles [] = Unit {0}
AreOfFiles (call ∷ calls) = IsOfFile call × AreOfFiles calls

-- ---- all calls

abbrev pub after_calls : List Call → Remaining → Remaining
after_calls [] s = s
after_calls (call ∷ calls) s = after_calls calls (after_call call s)

abbrev pub at_first : List (List ℕ) → Remaining
at_first start = record { reads = image_of start; may_leave = λ c. c ≡ image_of start }

-- after the first so many calls
abbrev pub remaining : DiskState → ℕ → Remaining
remaining disk n = after_calls (take n disk.log) (at_first disk.start)

-- after all of them
abbrev pub now_on_disk : DiskState → Remaining
now_on_disk disk = after_calls disk.log (at_first disk.start)

-- a moment is a number of calls
abbrev pub disk_of : DiskState → Disk
disk_of disk = record {
  reads = (now_on_disk disk).reads;
  may_leave = (now_on_disk disk).may_leave;
  moment = length disk.log;
  left_since = λ t c. (n : ℕ) × (t ≤ n) × (n ≤ length disk.log) × (remaining disk n).may_leave c;
}

-- ---- a crash that fills with one byte

-- a file as it is read, and as the crash leaves it
pub record FileLeft : Type 0 where
  pub reads : List ℕ
  pub left : List ℕ

-- n bytes of a file are filled from an offset on
abbrev pub fill_range : (fill at n : ℕ) → List ℕ → List ℕ
fill_range fill at n old = written fill at (replicate n fill) old

-- Filled is all that was written or cut since the last sync, and no file is longer or shorter than it is read.
abbrev pub fill_write : (fill at : ℕ) (piece : List ℕ) (done : Bool) → FileLeft → FileLeft
fill_write fill at piece true f =
    record { reads = written 0 at piece f.reads; left = fill_range fill at (length piece) f.left }
fill_write fill at piece false f =
    record { reads = f.reads; left = take (length f.left) (fill_range fill at (length piece) f.left) }

abbrev pub fill_cut : (fill size : ℕ) (done : Bool) → FileLeft → FileLeft
fill_cut fill size true f = record { reads = take size f.reads; left = take size f.left }
fill_cut fill size false f =
    record { reads = f.reads; left = take (length f.left) (fill_range fill size (length f.left - size) f.left) }

abbrev pub fill_call : (fill file : ℕ) → Call → FileLeft → FileLeft
fill_call fill file (Write other at piece done) f = if file == other then fill_write fill at piece.items done f else f
fill_call fill file (Cut other size done) f = if file == other then fill_cut fill size done f else f
fill_call fill file Sync f = record { reads = f.reads; left = f.reads }

abbrev pub fill_calls : (fill file : ℕ) → List Call → FileLeft → FileLeft
fill_calls fill file [] f = f
fill_calls fill file (call ∷ calls) f = fill_calls fill file calls (fill_call fill file call f)

abbrev pub same_file : List ℕ → FileLeft
same_file bytes = record { reads = bytes; left = bytes }

abbrev pub filled : (fill : ℕ) → DiskState → Image
filled fill disk = λ k. (fill_calls fill k disk.log (same_file (image_of disk.start k))).left
