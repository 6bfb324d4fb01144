-- A disk in memory after a crash that fills what is pending with one byte.
use Rattle.outside.proofs.Prelude as prelude
use prelude.{◌≡◌, ◌≢◌, ℕ, ◌-◌, ◌≤◌, ◌==◌, if◌then◌else◌, List, [], ◌∷◌, length, take, replicate, Bool, true, false}
use prelude.{zero, suc, refl, sym, ◌∙◌, ap, subst, arith, length-take, length-replicate, get_or_past, eq-eqb, ne_eqb}
use prelude.{Image, InFile, Torn, CutShort, DiskState, Remaining, FileLeft, image_of, written, with_file, fill_range}
use prelude.{fill_write, fill_cut, fill_call, fill_calls, filled, same_file, AreOfFiles, after_call, after_calls}
use prelude.{at_first, now_on_disk, Call, Write, Cut, Sync, torn_piece, cut_by, length-written}
use Rattle.outside.proofs.MemDisk.{torn_within, cut_within}

-- the files as they are read and as the crash leaves them are those of `s`
record Follows (s : Remaining) (f : ℕ → FileLeft) : Type 0 where
  reads : (k : ℕ) → s.reads k ≡ (f k).reads
  may : s.may_leave (λ k. (f k).left)
  long : (k : ℕ) → length (f k).left ≡ length (f k).reads

pick_same : {A : Type 0} (k : ℕ) (x y : A) → (if k == k then x else y) ≡ x
pick_same k x y = ap (λ (b : Bool). if b then x else y) (eq-eqb k k refl)

pick_other : {A : Type 0} (k file : ℕ) (x y : A) → k ≢ file → (if k == file then x else y) ≡ y
pick_other k file x y other = ap (λ (b : Bool). if b then x else y) (ne_eqb k file other)

-- one file is changed, read and left
module _ (file : ℕ) (change : FileLeft → FileLeft) (read : List ℕ → List ℕ) (how : List ℕ → List ℕ → Type 0) where
  abbrev alter : (ℕ → FileLeft) → ℕ → FileLeft
  alter f k = if k == file then change (f k) else f k

  read_alter : (b : Bool) (x : FileLeft) (bytes : List ℕ) → (change x).reads ≡ read x.reads → bytes ≡ x.reads
      → (if b then read bytes else bytes) ≡ (if b then change x else x).reads
  read_alter true x bytes same is = ap read is ∙ sym same
  read_alter false x bytes same is = is

  long_alter : (b : Bool) (x : FileLeft) → length (change x).left ≡ length (change x).reads
      → length x.left ≡ length x.reads
      → length ((if b then change x else x).left) ≡ length ((if b then change x else x).reads)
  long_alter true x after before = after
  long_alter false x after before = before

  altered : (s : Remaining) (f : ℕ → FileLeft) (reads : Image) → Follows s f
      → ((k : ℕ) → reads k ≡ (if k == file then read (s.reads k) else s.reads k))
      → ((x : FileLeft) → (change x).reads ≡ read x.reads)
      → ((x : FileLeft) → how x.left (change x).left)
      → ((x : FileLeft) → length x.left ≡ length x.reads → length (change x).left ≡ length (change x).reads)
      → Follows (record { reads = reads; may_leave = λ c. (d : Image) × s.may_leave d × InFile file how d c }) (alter f)
  altered s f reads h are same step long = record {
    reads = λ k. are k ∙ read_alter (k == file) (f k) (s.reads k) (same (f k)) (h.reads k);
    may = (
      (λ k. (f k).left),
      h.may,
      record {
        here = subst (λ (x : FileLeft).
            how (f file).left x.left) (sym (pick_same file (change (f file)) (f file))) (step (f file));
        others = λ k other. ap (λ (x : FileLeft). x.left) (pick_other k file (change (f k)) (f k) other);
      },
    );
    long = λ k. long_alter (k == file) (f k) (long (f k) (h.long k)) (h.long k);
  }

same_if : (b : Bool) (bytes : List ℕ) → bytes ≡ (if b then bytes else bytes)
same_if true bytes = refl
same_if false bytes = refl

long_filled : (fill at : ℕ) (piece : List ℕ) (x : FileLeft) → length x.left ≡ length x.reads
    → length (fill_range fill at (length piece) x.left) ≡ length (written 0 at piece x.reads)
long_filled fill at piece x same = omega (
  arith,
  length-written fill at (replicate (length piece) fill) x.left,
  length-written 0 at piece x.reads,
  length-replicate (length piece) fill,
)

-- a range may be left with the same byte throughout
torn_filled : (fill at n : ℕ) (old : List ℕ) → Torn at n old (fill_range fill at n old)
torn_filled fill at n old =
    subst (λ (m : ℕ). Torn at m old (fill_range fill at n old)) (length-replicate n fill)
    (torn_piece fill at (replicate n fill) old)

torn_filled_within : (fill at n : ℕ) (old : List ℕ) → Torn at n old (take (length old) (fill_range fill at n old))
torn_filled_within fill at n old =
    subst (λ (m : ℕ). Torn at m old (take (length old) (fill_range fill at n old))) (length-replicate n fill)
    (torn_within fill at (replicate n fill) old)

long_within : (fill at n : ℕ) (x : FileLeft) → length x.left ≡ length x.reads
    → length (take (length x.left) (fill_range fill at n x.left)) ≡ length x.reads
long_within fill at n x same = omega (arith, length-take {A = ℕ}, (torn_filled fill at n x.left).no_shorter)

follow_call : (fill : ℕ) (call : Call) (s : Remaining) (f : ℕ → FileLeft) → Follows s f
    → Follows (after_call call s) (λ k. fill_call fill k call (f k))
follow_call fill (Write file at piece true) s f h =
    altered file (fill_write fill at piece.items true) (written 0 at piece.items) (Torn at (length piece.items)) s f
    (with_file file (written 0 at piece.items) s.reads) h (λ k. refl) (λ x. refl) (λ x.
    torn_filled fill at (length piece.items) x.left)
    (λ x same. long_filled fill at piece.items x same)
follow_call fill (Write file at piece false) s f h =
    altered file (fill_write fill at piece.items false) (λ l. l) (Torn at (length piece.items)) s f s.reads h
    (λ k. same_if (k == file) (s.reads k)) (λ x. refl) (λ x. torn_filled_within fill at (length piece.items) x.left)
    (λ x same. long_within fill at (length piece.items) x same)
follow_call fill (Cut file size true) s f h =
    altered file (fill_cut fill size true) (take size) (CutShort size) s f (with_file file (take size) s.reads) h
    (λ k. refl) (λ x. refl) (λ x. cut_by size x.left) (λ x same. omega (arith, length-take {A = ℕ}))
follow_call fill (Cut file size false) s f h =
    altered file (fill_cut fill size false) (λ l. l) (CutShort size) s f s.reads h
    (λ k. same_if (k == file) (s.reads k)) (λ x. refl) (λ x. cut_within fill size x.left)
    (λ x same. long_within fill size (length x.left - size) x same)
follow_call fill Sync s f h = record { reads = h.reads; may = λ i k. sym (h.reads k) i; long = λ k. refl }

follow_calls : (fill : ℕ) (calls : List Call) (s : Remaining) (f : ℕ → FileLeft) → Follows s f
    → Follows (after_calls calls s) (λ k. fill_calls fill k calls (f k))
follow_calls fill [] s f h = h
follow_calls fill (call ∷ calls) s f h =
    follow_calls fill calls (after_call call s) (λ k. fill_call fill k call (f k)) (follow_call fill call s f h)

follow_all : (fill : ℕ) (disk : DiskState)
    → Follows (now_on_disk disk) (λ k. fill_calls fill k disk.log (same_file (image_of disk.start k)))
follow_all fill disk = follow_calls fill disk.log (at_first disk.start) (λ k. same_file (image_of disk.start k))
    (record { reads = λ k. refl; may = refl; long = λ k. refl })

-- the crash leaves one of the contents that a crash may leave
pub filled_is_left : (fill : ℕ) (disk : DiskState) → (now_on_disk disk).may_leave (filled fill disk)
filled_is_left fill disk = (follow_all fill disk).may

-- with the present lengths
pub length-filled : (fill : ℕ) (disk : DiskState) (k : ℕ)
    → length (filled fill disk k) ≡ length ((now_on_disk disk).reads k)
length-filled fill disk k = let h = follow_all fill disk in h.long k ∙ sym (ap length (h.reads k))

-- no call is of a file beyond the last
untouched : (fill file : ℕ) (calls : List Call) (f : FileLeft) → 4 ≤ file → AreOfFiles calls → f ≡ same_file []
    → fill_calls fill file calls f ≡ same_file []
untouched fill file [] f beyond all is = is
untouched fill file (Write other at piece done ∷ calls) f beyond all is =
    untouched fill file calls (fill_call fill file (Write other at piece done) f) beyond all.1
    (pick_other file other (fill_write fill at piece.items done f) f (λ (e : file ≡ other).
    absurd (omega (arith, all.0))) ∙ is)
untouched fill file (Cut other size done ∷ calls) f beyond all is =
    untouched fill file calls (fill_call fill file (Cut other size done) f) beyond all.1
    (pick_other file other (fill_cut fill size done f) f (λ (e : file ≡ other). absurd (omega (arith, all.0))) ∙ is)
untouched fill file (Sync ∷ calls) f beyond all is =
    untouched fill file calls (fill_call fill file Sync f) beyond all.1 (ap (λ (x : FileLeft). same_file x.reads) is)

other_files_empty : (fill : ℕ) (disk : DiskState) → AreOfFiles disk.log → length disk.start ≡ 4 → (file : ℕ) → 4 ≤ file
    → filled fill disk file ≡ []
other_files_empty fill disk all four file beyond =
    ap (λ (x : FileLeft). x.left) (untouched fill file disk.log (same_file (image_of disk.start file)) beyond all
    (ap same_file (get_or_past disk.start file [] (omega arith))))

-- the files of a disk, each as the crash leaves it
four_left : (fill : ℕ) (disk : DiskState) → AreOfFiles disk.log → length disk.start ≡ 4 → (a b c d : List ℕ)
    → a ≡ filled fill disk 0 → b ≡ filled fill disk 1 → c ≡ filled fill disk 2 → d ≡ filled fill disk 3
    → (k : ℕ) → image_of (a ∷ b ∷ c ∷ d ∷ []) k ≡ filled fill disk k
four_left fill disk all four a b c d p q r s zero = p
four_left fill disk all four a b c d p q r s (suc zero) = q
four_left fill disk all four a b c d p q r s (suc (suc zero)) = r
four_left fill disk all four a b c d p q r s (suc (suc (suc zero))) = s
four_left fill disk all four a b c d p q r s (suc (suc (suc (suc k)))) =
    sym (other_files_empty fill disk all four (suc (suc (suc (suc k)))) (omega arith))

pub crashed_reads : (fill : ℕ) (disk seen : DiskState) (log : List Call) → seen ≡ disk → AreOfFiles seen.log
    → length disk.start ≡ 4
    → log ≡ [] → (a b c d : List ℕ)
    → a ≡ filled fill disk 0 → b ≡ filled fill disk 1 → c ≡ filled fill disk 2 → d ≡ filled fill disk 3
    → (after_calls log (at_first (a ∷ b ∷ c ∷ d ∷ []))).reads ≡ filled fill disk
crashed_reads fill disk seen log same all four none a b c d p q r s =
    let of_files : AreOfFiles disk.log = subst (λ (v : DiskState). AreOfFiles v.log) same all in
    let point = four_left fill disk of_files four a b c d p q r s in
    ap (λ (l : List Call). (after_calls l (at_first (a ∷ b ∷ c ∷ d ∷ []))).reads) none ∙ (λ i k. point k i)
