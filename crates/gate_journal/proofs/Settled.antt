-- A journal before and after an append.
use Rattle.gate_journal.proofs.Prelude.{◌≡◌, ℕ, ◌+◌, List, [], ◌∷◌, ◌++◌, length, Bool, false, sym, ap, subst, arith}
use Rattle.gate_journal.proofs.Prelude.{length-append, Image, Disk, Runs, InFile, IsSafe, block, blocks, HasRecords}
use Rattle.gate_journal.proofs.Prelude.{JournalState, HoldsRecords, IsSettled, HasEither}
use Rattle.gate_journal.proofs.Records.{blocks_push}

pub holds_in : (inside journal : JournalState) (disk : Disk) (records : List (List ℕ)) → inside ≡ journal
    → IsSettled journal disk records
    → HoldsRecords disk inside.file inside.end records
holds_in inside journal disk records same settled =
    subst (λ (j : JournalState). HoldsRecords disk j.file j.end records) (sym same) settled.holds_records

pub runs_in : (inside journal : JournalState) (old new : Disk) (records : List (List ℕ)) (bytes : List ℕ)
    → inside ≡ journal
    → Runs (InFile inside.file (λ _ c. HasEither records bytes c)) old new
    → Runs (InFile journal.file (λ _ c. HasEither records bytes c)) old new
runs_in inside journal old new records bytes same r =
    subst (λ (j : JournalState). Runs (InFile j.file (λ _ c. HasEither records bytes c)) old new) same r

pub settled_after : (file end next : ℕ) (failed : Bool) (old new : Disk) (records : List (List ℕ)) (bytes : List ℕ)
    → HoldsRecords old file end records
    → next ≡ end + (5 + length bytes) → failed ≡ false → IsSafe new
    → HasRecords (new.reads file) (records ++ bytes ∷ [])
    → IsSettled (record { file = file; end = next; failed = failed }) new (records ++ bytes ∷ [])
settled_after file end next failed old new records bytes holds_records on working safe holds = record {
  holds_records = record {
    kept = λ c may. ap (λ (image : Image). image file) (safe c may);
    holds = holds;
    offset =
        omega (
          arith,
          on,
          holds_records.offset,
          ap length (blocks_push records bytes),
          length-append
              (blocks records) (block bytes),
        );
  };
  working = working;
}
