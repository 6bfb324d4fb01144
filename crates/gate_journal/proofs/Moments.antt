-- What a crash leaves at each moment of an append.
use Rattle.gate_journal.proofs.Prelude.{◌≡◌, ℕ, ◌+◌, ◌≤◌, List, [], ◌∷◌, ◌++◌, length, drop, ◌∙◌, ap, subst, inl, inr}
use Rattle.gate_journal.proofs.Prelude.{◌⊎◌, arith, length-append, Result, Ok, Err, OnOk, Image, Disk, Runs, InFile}
use Rattle.gate_journal.proofs.Prelude.{Torn, Wrote, IsSafe, onward, max_record, blocks, IsShut, BeginWith, HasRecords}
use Rattle.gate_journal.proofs.Prelude.{framed, Appended, HoldsRecords, HasEither}
use Rattle.gate_journal.proofs.Crash.{torn_after, Staged, staged, torn_gate, appended}

-- a step is also a wider one, from what a crash may leave
widen_since : {step wider : Image → Image → Type 0} (old new : Disk) (c : Image) (t : ℕ)
    → ((d e : Image) → old.may_leave d → step d e → wider d e)
    → old.left_since t c ⊎ ((d : Image) × old.may_leave d × step d c)
    → old.left_since t c ⊎ ((d : Image) × old.may_leave d × wider d c)
widen_since old new c t h (inl before) = inl before
widen_since old new c t h (inr (d, may, s)) = inr (d, may, h d c may s)

pub widened_from : {step wider : Image → Image → Type 0} (old new : Disk)
    → ((d e : Image) → old.may_leave d → step d e → wider d e)
    → Runs step old new → Runs wider old new
widened_from {step} {wider} old new h r = record {
  later = r.later;
  crash = λ c may. let x = r.crash c may in (x.0, x.1, h x.0 c x.1 x.2);
  since = λ t c le left. widen_since {step = step} {wider = wider} old new c t h (r.since t c le left);
  keeps = r.keeps;
}

abbrev Either : (file : ℕ) (records : List (List ℕ)) (bytes : List ℕ) → Image → Image → Type 0
Either file records bytes = InFile file (λ _ c. HasEither records bytes c)

pub first_write : (old new : Disk) (file end n : ℕ) (records : List (List ℕ)) (bytes : List ℕ)
    → HoldsRecords old file end records
    → Runs (InFile file (Torn (end + 1) n)) old new → Runs (Either file records bytes) old new
first_write old new file end n records bytes holds_records r =
    widened_from {step = InFile file (Torn (end + 1) n)} {wider = Either file records bytes} old new
    (λ d e may step. record {
      here = inl (torn_after records end n (old.reads file) (e file) holds_records.offset holds_records.holds
          (subst (λ (l : List ℕ). Torn (end + 1) n l (e file)) (holds_records.kept d may) step.here));
      others = step.others;
    }) r

pub both_writes : (old mid new : Disk) (file end : ℕ) (records : List (List ℕ)) (bytes following : List ℕ)
    → length bytes ≤ max_record
    → end ≡ length (blocks records) → Staged records bytes following (mid.reads file) → IsSafe mid
    → Runs (Either file records bytes) old mid → Runs (InFile file (Torn end 1)) mid new
    → Runs (Either file records bytes) old new
both_writes old mid new file end records bytes following fits offset stage safe first second =
    onward {first = Either file records bytes} {second = InFile file (Torn end 1)} {both =
    Either file records bytes} old mid new
    (λ d e f may may_mid one two. record {
      here = torn_gate records bytes following end (mid.reads file) (f file) fits offset stage
          (subst (λ (image : Image). Torn end 1 (image file) (f file)) (safe e may_mid) two.here);
      others = λ k other. two.others k other ∙ one.others k other;
    })
    (λ d e one. one) first second

-- the gate after the records is there
reach_at : (file : List ℕ) (records : List (List ℕ)) (following : List ℕ) (end : ℕ) → end ≡ length (blocks records)
    → BeginWith file records following
    → IsShut following → end + 1 ≤ length file
reach_at file records [] end offset first shut = absurd shut
reach_at file records (gate ∷ rest) end offset first shut =
    omega (arith, offset, ap length first.cut, length-append (blocks records) (gate ∷ rest))

pub reach : (file : List ℕ) (records : List (List ℕ)) (end : ℕ) → end ≡ length (blocks records)
    → HasRecords file records → end + 1 ≤ length file
reach file records end offset (following, first, shut) = reach_at file records following end offset first shut

pub reach_staged : (records : List (List ℕ)) (bytes following mid : List ℕ) (end : ℕ) → end ≡ length (blocks records)
    → Staged records bytes following mid
    → end ≤ length mid
reach_staged records bytes following mid end offset stage =
    omega (
      arith,
      offset,
      ap length stage.entire,
      length-append (blocks records) (stage.gate ∷ (framed bytes ++ following)),
    )

-- what the first write leaves
pub staged_by : (old mid : Disk) (file end : ℕ) (records : List (List ℕ)) (bytes piece : List ℕ) → piece ≡ framed bytes
    → HoldsRecords old file end records
    → InFile file (Wrote (end + 1) piece) old.reads mid.reads
    → Staged records bytes (drop (end + 1 + length (framed bytes)) (old.reads file)) (mid.reads file)
staged_by old mid file end records bytes piece is holds_records wrote =
    staged records bytes end (old.reads file) (mid.reads file) holds_records.offset holds_records.holds
    (subst (λ (l : List ℕ). Wrote (end + 1) l (old.reads file) (mid.reads file)) is wrote.here)

pub appended_by : (old mid new : Disk) (file end : ℕ) (records : List (List ℕ)) (bytes piece : List ℕ)
    → HoldsRecords old file end records
    → Staged records bytes (drop (end + 1 + length (framed bytes)) (old.reads file)) (mid.reads file)
    → InFile file (Wrote (end + 1) piece) old.reads mid.reads → InFile file (Wrote end (1 ∷ [])) mid.reads new.reads
    → InFile file (Appended end bytes) old.reads new.reads
appended_by old mid new file end records bytes piece holds_records stage first second = record {
  here = appended records bytes end (old.reads file) (mid.reads file)
      (new.reads file) holds_records.offset holds_records.holds stage second.here;
  others = λ k other. second.others k other ∙ first.others k other;
}

pub on_ok : {T E : Type 0} (result : Result T E) {P Q : Type 0} → OnOk result P → (P → Q) → OnOk result Q
on_ok (Ok value) ok f = f ok
on_ok (Err error) ok f = tt
