-- The laws of a disk in memory: what a write or a cut leaves is one of the contents that a crash may leave of it, so
-- what is read is always among them, and the clock counts this moment.
use Rattle.std.proofs.Common.{◌≡◌, ◌≢◌, ℕ, ◌+◌, ◌≤◌, List, [], ◌∷◌, ◌++◌, length, take, refl, sym, ◌∙◌, ap, subst}
use Rattle.std.proofs.Common.{arith, length-append, length-take, length-drop, max, min, drop, replicate, true, false}
use Rattle.std.proofs.Common.{◌-◌}
use Rattle.std.proofs.lemmas.List.{length-replicate, take-append-le, take-take, take_all, drop_at}
use Rattle.std.proofs.lemmas.Bool.Decides.{nat_tests}
use Rattle.outside.specs.Disk.{Image, InFile, Torn, CutShort}
use Rattle.outside.specs.MemDisk.{DiskState, Remaining, written, with_file, after_call, after_calls, at_first}
use Rattle.outside.specs.MemDisk.{now_on_disk, disk_of}
use Rattle.outside.specs.declared.call.Call.{Call}
use Rattle.outside.specs.declared.call.Call.TheVariants.{Write, Cut, Sync}

-- ---- what is read of one file

with_here : (file : ℕ) (change : List ℕ → List ℕ) (image : Image)
    → with_file file change image file ≡ change (image file)
with_here file change image = grind (arith, nat_tests)

with_other : (file : ℕ) (change : List ℕ → List ℕ) (image : Image) (k : ℕ) → k ≢ file
    → with_file file change image k ≡ image k
with_other file change image k other = grind (arith, nat_tests)

-- a file is changed, and the others stay
pub changed : (file : ℕ) (change : List ℕ → List ℕ) (how : List ℕ → List ℕ → Type 0) (old new : Image)
    → new ≡ with_file file change old → how (old file) (change (old file)) → InFile file how old new
changed file change how old new is fact = record {
  here = subst (λ (l : List ℕ).
      how (old file) l) (sym (ap (λ (f : Image). f file) is ∙ with_here file change old)) fact;
  others = λ k other. ap (λ (f : Image). f k) is ∙ with_other file change old k other;
}

-- ---- reflexive steps

pub untorn : (file at n : ℕ) (c : Image) → InFile file (Torn at n) c c
untorn file at n c = record {
  here = record { before = refl; after = refl; no_shorter = omega arith; no_longer = omega arith };
  others = λ k other. refl;
}

pub uncut : (file n : ℕ) (c : Image) → InFile file (CutShort n) c c
uncut file n c = record {
  here = record { before = refl; no_shorter = omega arith; no_longer = omega arith };
  others = λ k other. refl;
}

-- ---- a write or a cut that was done is one that a crash may leave

module _ (gap at : ℕ) (piece old : List ℕ) where
  abbrev pub gaps : List ℕ
  gaps = replicate (at - length old) gap

  abbrev pub following : List ℕ
  following = drop (at + length piece) old

  abbrev pub prefix : List ℕ
  prefix = (take at old ++ gaps) ++ piece

  length-prefix : length prefix ≡ at + length piece
  length-prefix = omega (
    arith,
    length-append (take at old ++ gaps) piece,
    length-append
        (take at old) gaps,
    length-take {A = ℕ},
    length-replicate (at - length old) gap,
  )

  pub length-written : length (written gap at piece old) ≡ max (length old) (at + length piece)
  length-written =
      omega (arith, length-append prefix following, length-prefix, length-drop (at + length piece) old)

  -- the same for any bytes of the piece's length
  pub torn_piece : Torn at (length piece) old (written gap at piece old)
  torn_piece =
      let m = min at (length old) in
      record {
        before = take-append-le m prefix following (omega (arith, length-prefix))
            ∙ take-append-le m (take at old ++ gaps) piece
            (omega (arith, length-append (take at old) gaps, length-take {A = ℕ}))
            ∙ take-append-le m (take at old) gaps (omega (arith, length-take {A = ℕ}))
            ∙ take-take m at old (omega arith);
        after = drop_at prefix following (at + length piece) length-prefix;
        no_shorter = omega (arith, length-written);
        no_longer = omega (arith, length-written);
      }

pub torn_by : (at : ℕ) (piece old : List ℕ) → Torn at (length piece) old (written 0 at piece old)
torn_by at piece old = torn_piece 0 at piece old

pub cut_by : (size : ℕ) (old : List ℕ) → CutShort size old (take size old)
cut_by size old = record {
  before = take-take (min size (length old)) size old (omega arith);
  no_shorter = omega (arith, length-take {A = ℕ});
  no_longer = omega (arith, length-take {A = ℕ});
}

-- ---- what is read is among what a crash may leave

reads_after_call : (call : Call) (s : Remaining) → s.may_leave s.reads
    → (after_call call s).may_leave (after_call call s).reads
reads_after_call (Write file at piece true) s may = (
  s.reads,
  may,
  changed file (written 0 at piece.items) (Torn at (length piece.items)) s.reads _ refl
      (torn_by at piece.items (s.reads file)),
)
reads_after_call (Write file at piece false) s may = (s.reads, may, untorn file at (length piece.items) s.reads)
reads_after_call (Cut file size true) s may =
    (s.reads, may, changed file (take size) (CutShort size) s.reads _ refl (cut_by size (s.reads file)))
reads_after_call (Cut file size false) s may = (s.reads, may, uncut file size s.reads)
reads_after_call Sync s may = refl

reads_after_calls : (calls : List Call) (s : Remaining) → s.may_leave s.reads
    → (after_calls calls s).may_leave (after_calls calls s).reads
reads_after_calls [] s may = may
reads_after_calls (call ∷ calls) s may = reads_after_calls calls (after_call call s) (reads_after_call call s may)

pub reads_now : (disk : DiskState) → (now_on_disk disk).may_leave (now_on_disk disk).reads
reads_now disk = reads_after_calls disk.log (at_first disk.start) refl

-- ---- the laws of the clock

pub now_counts : (disk : DiskState) (t : ℕ) (c : Image) → t ≤ length disk.log → (disk_of disk).may_leave c
    → (disk_of disk).left_since t c
now_counts disk t c before may =
    let entire : take (length disk.log) disk.log ≡ disk.log = take_all (length disk.log) disk.log (omega arith) in (
      length disk.log,
      before,
      omega arith,
      subst (λ (l : List Call). (after_calls l (at_first disk.start)).may_leave c) (sym entire) may,
    )

pub only_now : (disk : DiskState) (c : Image) → (disk_of disk).left_since (length disk.log) c
    → (disk_of disk).may_leave c
only_now disk c (n, from, within, may) =
    subst (λ (l : List Call). (after_calls l (at_first disk.start)).may_leave c) (take_all n disk.log from) may
