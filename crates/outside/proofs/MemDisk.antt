-- A disk in memory, one call later.
use Rattle.outside.proofs.Prelude.{◌≡◌, ℕ, ◌+◌, ◌<◌, ◌≤◌, ◌==◌, if◌then◌else◌, List, [], ◌∷◌, ◌++◌, length, take}
use Rattle.outside.proofs.Prelude.{get_or, set, refl, sym, ◌∙◌, ap, subst, inl, inr, ◌⊎◌, arith, length-append}
use Rattle.outside.proofs.Prelude.{length-take, min, drop, replicate, Bool, true, false, ◌-◌, get_or-set_other}
use Rattle.outside.proofs.Prelude.{get_or-set_same, Result, Ok, Err, OnOk, OnErr, IsTrue, map-set, length-map}
use Rattle.outside.proofs.Prelude.{take-append-le, take-take, take_all, drop_all, drop-take, append-nil, cases_eq}
use Rattle.outside.proofs.Prelude.{cases_lt, Image, Runs, Same, Stays, Torn, Wrote, CutShort, DiskState, Remaining}
use Rattle.outside.proofs.Prelude.{items_of, image_of, written, with_file, fill_range, IsOfFile, AreOfFiles, after_call}
use Rattle.outside.proofs.Prelude.{after_calls, at_first, remaining, now_on_disk, disk_of, torn_piece, Call}
use Rattle.std.proofs.Common.{length-drop}
use Rattle.std.proofs.lemmas.Bool.Decides.{nat_tests}
use Rattle.std.specs.Global.{Vec}

-- ---- one call more

after_push : (calls : List Call) (call : Call) (s : Remaining)
    → after_calls (calls ++ call ∷ []) s ≡ after_call call (after_calls calls s)
after_push [] call s = refl
after_push (other ∷ calls) call s = after_push calls call (after_call other s)

pub reads_push : (start : List (List ℕ)) (log : List Call) (call : Call) (after : List Call)
    (value : DiskState) (image : Image)
    → record { start = start; log = log } ≡ value → after ≡ log ++ call ∷ []
    → (after_call call (now_on_disk value)).reads ≡ image
    → (after_calls after (at_first start)).reads ≡ image
reads_push start log call after value image same items h =
    ap (λ (l : List Call). (after_calls l (at_first start)).reads) items
    ∙ ap (λ (s : Remaining). s.reads) (after_push log call (at_first start))
    ∙ ap (λ (v : DiskState). (after_call call (now_on_disk v)).reads) same ∙ h

-- a call that changes nothing that is read
pub noted : (files : Image) (start : List (List ℕ)) (log : List Call) (call : Call) (after : List Call)
    (value : DiskState)
    → record { start = start; log = log } ≡ value → after ≡ log ++ call ∷ []
    → files ≡ (after_calls log (at_first start)).reads
    → (after_call call (now_on_disk value)).reads ≡ (now_on_disk value).reads
    → files ≡ (after_calls after (at_first start)).reads
noted files start log call after value same items is h =
    is ∙ ap (λ (v : DiskState). (now_on_disk v).reads) same
    ∙ sym (reads_push start log call after value _ same items h)

set_at : (files : List (List ℕ)) (k : ℕ) (next : List ℕ) → k < length files → (j : ℕ)
    → get_or (set files k next) j [] ≡ (if j == k then next else get_or files j [])
set_at files k next within j = elim (cases_eq j k) [
  | inl same ↦ let here : get_or (set files k next) j [] ≡ next = ap (λ (n : ℕ). get_or (set files k next) n []) same
      ∙ get_or-set_same files k next [] within in
      grind (arith, nat_tests, here)
  | inr other ↦ let there : get_or (set files k next) j [] ≡ get_or files j [] =
      get_or-set_other files k j next [] other in
      grind (arith, nat_tests, there)
]

-- a file is replaced
pub image_set : (files : List (Vec ℕ)) (k : ℕ) (next : Vec ℕ) → k < length files
    → image_of (items_of (set files k next)) ≡ with_file k (λ _. next.items) (image_of (items_of files))
image_set files k next within =
    let room : k < length (items_of files) = omega (arith, length-map files (λ (file : Vec ℕ). file.items)) in
    let point = λ (j : ℕ).
    ap (λ (l : List (List ℕ)). get_or l j []) (map-set (λ (file : Vec ℕ). file.items) files k next)
    ∙ set_at (items_of files) k next.items room j in
    λ i j. point j i

-- ---- moments

module _ (old : DiskState) (call : Call) where
  abbrev next : DiskState
  next = record old { log = old.log ++ call ∷ [] }

  abbrev first : Remaining
  first = at_first old.start

  took_entire : after_calls (take (length next.log) next.log) first ≡ after_call call (now_on_disk old)
  took_entire = ap (λ (l : List Call). after_calls l first) (take_all (length next.log) next.log (omega arith))
      ∙ after_push old.log call first

  took_old : (n : ℕ) → n ≤ length old.log → remaining next n ≡ remaining old n
  took_old n le = ap (λ (l : List Call). after_calls l first) (take-append-le n old.log (call ∷ []) le)

  since_next : (step : Image → Image → Type 0)
      → ((c : Image) → (after_call call (now_on_disk old)).may_leave c → (d : Image)
      × (now_on_disk old).may_leave d × step d c)
      → (t n : ℕ) (c : Image) → t ≤ n → n ≤ length next.log → (remaining next n).may_leave c
      → (disk_of old).left_since t c ⊎ ((d : Image) × (disk_of old).may_leave d × step d c)
  since_next step h t n c from le may = elim (cases_lt (length old.log) n) [
    | inl following ↦
        let last : n ≡ length next.log = omega (arith, length-append old.log (call ∷ [])) in
        let entire : (after_calls (take (length next.log) next.log) first).may_leave c
        = subst (λ (m : ℕ). (remaining next m).may_leave c) last may in
        inr (h c (subst (λ (s : Remaining). s.may_leave c) took_entire entire))
    | inr before ↦ inl (n, from, before, subst (λ (s : Remaining). s.may_leave c) (took_old n before) may)
  ]

  runs_next : (step : Image → Image → Type 0)
      → ((c : Image) → (after_call call (now_on_disk old)).may_leave c → (d : Image)
      × (now_on_disk old).may_leave d × step d c)
      → Runs step (disk_of old) (disk_of next)
  runs_next step h = record {
    later = omega (arith, length-append old.log (call ∷ []));
    crash = λ c may. h c (subst (λ (s : Remaining). s.may_leave c) (after_push old.log call first) may);
    since = λ t c le (n, from, within, may). since_next step h t n c from within may;
    keeps = λ t c le (n, from, within, may). (
      n,
      from,
      omega (arith, within, length-append old.log (call ∷ [])),
      subst (λ (s : Remaining). s.may_leave c) (sym (took_old n within)) may,
    );
  }

-- a call was noted
pub pushed : (step : Image → Image → Type 0) (old : DiskState) (call : Call) (new : DiskState)
    → new ≡ record old { log = old.log ++ call ∷ [] }
    → ((c : Image) → (after_call call (now_on_disk old)).may_leave c → (d : Image)
    × (now_on_disk old).may_leave d × step d c)
    → Runs step (disk_of old) (disk_of new)
pushed step old call new is h =
    subst (λ (v : DiskState). Runs step (disk_of old) (disk_of v)) (sym is) (runs_next old call step h)

pub reads_pushed : (old : DiskState) (call : Call) (new : DiskState)
    → new ≡ record old { log = old.log ++ call ∷ [] }
    → (now_on_disk new).reads ≡ (after_call call (now_on_disk old)).reads
reads_pushed old call new is = ap (λ (v : DiskState). (now_on_disk v).reads) is
    ∙ ap (λ (s : Remaining). s.reads) (after_push old.log call (at_first old.start))

pub may_pushed : (old : DiskState) (call : Call) (new : DiskState) → new ≡ record old { log = old.log ++ call ∷ [] }
    → (c : Image) → (now_on_disk new).may_leave c → (after_call call (now_on_disk old)).may_leave c
may_pushed old call new is c may =
    subst (λ (s : Remaining). s.may_leave c) (after_push old.log call (at_first old.start))
    (subst (λ (v : DiskState). (now_on_disk v).may_leave c) is may)

-- ---- no call

-- nothing was noted
pub unmoved : (step : Image → Image → Type 0) (old new : DiskState) → new ≡ old → ((c : Image) → step c c)
    → Runs step (disk_of old) (disk_of new)
unmoved step old new is none =
    let still : Runs step (disk_of old) (disk_of old) = record {
      later = omega arith;
      crash = λ c may. (c, may, none c);
      since = λ t c le left. inl left;
      keeps = λ t c le left. left;
    } in
    subst (λ (v : DiskState). Runs step (disk_of old) (disk_of v)) (sym is) still

pub stays : (old new : DiskState) → new ≡ old → Stays (disk_of old) (disk_of new)
stays old new is = record {
  runs = unmoved Same old new is (λ c. refl);
  reads = ap (λ (v : DiskState). (now_on_disk v).reads) is;
}

-- ---- a call that may be refused memory

pub either : {T E : Type 0} (result : Result T E) {P Q R : Type 0} → OnOk result P → OnErr result Q
    → (P → R) → (Q → R) → R
either (Ok value) ok err f g = f ok
either (Err error) ok err f g = g err

pub on_ok : {T E : Type 0} (result : Result T E) {P Q : Type 0} → OnOk result P → (P → Q) → OnOk result Q
on_ok (Ok value) ok f = f ok
on_ok (Err error) ok f = tt

pub if_done : {A : Type 0} (done : Bool) (a b : A) → IsTrue done → (if done then a else b) ≡ a
if_done true a b is = refl
if_done false a b is = absurd (cc is)

-- a piece that begins within a file, or at its end
pub written_within : (at : ℕ) (piece same old : List ℕ) → piece ≡ same → at ≤ length old
    → Wrote at same old (written 0 at piece old)
written_within at piece same old is within =
    let none : at - length old ≡ 0 = omega arith in
    ap (λ (n : ℕ). take at old ++ replicate n 0 ++ piece ++ drop (at + length piece) old) none
    ∙ ap (λ (l : List ℕ). l ++ piece ++ drop (at + length piece) old) (append-nil (take at old))
    ∙ ap (λ (l : List ℕ). take at old ++ l ++ drop (at + length l) old) is

-- ---- a crash that fills with one byte

drop_taken : (k n : ℕ) (xs ys : List ℕ) → length ys ≤ n → drop k xs ≡ drop k ys → drop k (take n xs) ≡ drop k ys
drop_taken k n xs ys short same = elim (cases_lt n k) [
  | inl beyond ↦ drop_all k (take n xs) (omega (arith, length-take {A = ℕ})) ∙ sym (drop_all k ys (omega arith))
  | inr within ↦
      let parts : n ≡ k + (n - k) = omega arith in
      ap (λ (m : ℕ). drop k (take m xs)) parts ∙ drop-take k (n - k) xs ∙ ap (λ (l : List ℕ). take (n - k) l) same
      ∙ take_all (n - k) (drop k ys) (omega (arith, length-drop k ys))
]

-- a write that failed may have left any bytes in its range
pub torn_within : (gap at : ℕ) (piece old : List ℕ)
    → Torn at (length piece) old (take (length old) (written gap at piece old))
torn_within gap at piece old =
    let torn = torn_piece gap at piece old in
    let long : length (take (length old) (written gap at piece old)) ≡ length old =
    omega (arith, length-take {A = ℕ}, torn.no_shorter) in
    record {
      before = take-take (min at (length old)) (length old) (written gap at piece old) (omega arith) ∙ torn.before;
      after = drop_taken (at + length piece) (length old) (written gap at piece old) old (omega arith) torn.after;
      no_shorter = omega (arith, long);
      no_longer = omega (arith, long);
    }

pub cut_within : (fill size : ℕ) (old : List ℕ)
    → CutShort size old (take (length old) (fill_range fill size (length old - size) old))
cut_within fill size old =
    let torn = torn_piece fill size (replicate (length old - size) fill) old in
    let long : length (take (length old) (fill_range fill size (length old - size) old)) ≡ length old =
    omega (arith, length-take {A = ℕ}, torn.no_shorter) in
    record {
      before = take-take (min size (length old)) (length old) (fill_range fill size (length old - size) old)
          (omega arith) ∙ torn.before;
      no_shorter = omega (arith, long);
      no_longer = omega (arith, long);
    }

-- ---- the files of calls

all_push : (calls : List Call) (call : Call) → AreOfFiles calls → IsOfFile call → AreOfFiles (calls ++ call ∷ [])
all_push [] call all one = (one, tt)
all_push (other ∷ calls) call all one = (all.0, all_push calls call all.1 one)

pub of_files_push : (log : List Call) (call : Call) (after : List Call) → after ≡ log ++ call ∷ []
    → AreOfFiles log → IsOfFile call
    → AreOfFiles after
of_files_push log call after is all one = subst (λ (l : List Call). AreOfFiles l) (sym is) (all_push log call all one)
