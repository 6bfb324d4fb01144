-- What a store keeps where its journal grows, and where the files of another epoch change.
use Rattle.image_store.proofs.Prelude as prelude
use prelude.{◌≡◌, ◌≢◌, refl, sym, ap, subst, ◌∙◌, ℕ, ◌+◌, ◌<◌, List, [], ◌∷◌, ◌++◌, false, inl, inr, arith, ◌%◌, Image}
use prelude.{Disk, Runs, InFile, IsSafe, widened, HasRecords, JournalState, HasEither, IsOpen, format_in, epoch_in}
use prelude.{network_in, image_in, IsFormed, IsImage, Kept, grown, AreFormed, IsChosen, Holds, StoreState, IsSettled}
use prelude.{HoldsEither}
use Rattle.gate_journal.specs.Calls as journal

-- the file of what is kept
pub number_of : (c : Image) (kept : Kept) → (h : Holds c kept) → h.number ≡ kept.epoch % 2
number_of c kept h = sym ((h.formed h.number h.chosen.image_file h.chosen.is_open).numbered.parity)
    ∙ ap (λ n. n % 2) (sym h.epoch)

-- ---- the images stay

module _ (d c : Image) (kept : Kept) (h : Holds d kept) (same : (number : ℕ) → number < 2 → c number ≡ d number) where
  formed_still : AreFormed c
  formed_still number lt opened =
      subst (IsFormed number) (sym (same number lt)) (h.formed number lt (subst IsOpen (same number lt) opened))

  at : c h.number ≡ d h.number
  at = same h.number h.chosen.image_file

  chosen_still : IsChosen c h.number
  chosen_still = record {
    image_file = h.chosen.image_file;
    is_open = subst IsOpen (sym at) h.chosen.is_open;
    greatest = λ other lt opened.
        let le = h.chosen.greatest other lt (subst IsOpen (same other lt) opened) in
        omega (arith, le, ap epoch_in (same other lt), ap epoch_in at);
  }

  pub other_records : (records : List (List ℕ)) → HasRecords (c (2 + h.number)) records
      → Holds c (record kept { records = records })
  other_records records has = record {
    formed = formed_still;
    number = h.number;
    chosen = chosen_still;
    format = h.format ∙ ap format_in (sym at);
    epoch = h.epoch ∙ ap epoch_in (sym at);
    network = h.network ∙ ap network_in (sym at);
    image = subst (λ file. IsImage (image_in file) kept.image) (sym at) h.image;
    journal = has;
  }

-- no image is in the file of a journal
apart : (number n : ℕ) → number < 2 → number ≢ 2 + n
apart number n lt is = omega (arith, lt, is)

module _ (kept : Kept) (bytes : List ℕ) (file : ℕ) (is : file ≡ 2 + kept.epoch % 2) where
  of_journal : (d : Image) → (h : Holds d kept) → file ≡ 2 + h.number
  of_journal d h = is ∙ ap (λ n. 2 + n) (sym (number_of d kept h))

  with_records : (d c : Image) (records : List (List ℕ)) → Holds d kept
      → ((k : ℕ) → k ≢ file → c k ≡ d k) → HasRecords (c file) records → Holds c (record kept { records = records })
  with_records d c records h others has = other_records d c kept h
      (λ number lt. others number (λ e. apart number (kept.epoch % 2) lt (e ∙ is)))
      records (subst (λ k. HasRecords (c k) records) (of_journal d h) has)

  either_kept : (d c : Image) → InFile file (λ _ new. HasEither kept.records bytes new) d c
      → HoldsEither kept (grown kept bytes) d c
  either_kept d c step h = elim step.here [
    | inl before ↦ inl (with_records d c kept.records h step.others before)
    | inr after ↦ inr (with_records d c (kept.records ++ bytes ∷ []) h step.others after)
  ]

  pub append_runs : (old new : Disk)
      → Runs (InFile file (λ _ new. HasEither kept.records bytes new)) old new
      → Runs (HoldsEither kept (grown kept bytes)) old new
  append_runs old new runs =
      widened {step = InFile file (λ _ new. HasEither kept.records bytes new)}
      {wider = HoldsEither kept (grown kept bytes)} old new either_kept runs

-- ---- a store and its journal

pub journal_settled : (j : JournalState) (store : StoreState) (disk : Disk) (kept : Kept)
    → j.file ≡ 2 + store.epoch % 2 → j.end ≡ store.end → j.failed ≡ false → IsSettled store disk kept
    → journal.IsSettled j disk kept.records
journal_settled j store disk kept file end working s = record {
  holds_records = record {
    kept = λ c may. ap (λ (image : Image). image j.file) (s.safe c may);
    holds = subst (λ n. HasRecords (disk.reads n) kept.records)
        (sym (file ∙ ap (λ n. 2 + n % 2) s.epoch ∙ ap (λ n. 2 + n) (sym (number_of disk.reads kept s.holds))))
        s.holds.journal;
    offset = end ∙ s.end;
  };
  working = working;
}

pub grown_settled : (j : JournalState) (store next : StoreState) (old new : Disk) (kept : Kept) (bytes : List ℕ)
    → IsSettled store old kept → j.file ≡ 2 + store.epoch % 2
    → next ≡ record { epoch = store.epoch; end = j.end; network = store.network; failed = false }
    → journal.IsSettled j new (kept.records ++ bytes ∷ []) → IsSafe new
    → ((k : ℕ) → k ≢ j.file → new.reads k ≡ old.reads k) → IsSettled next new (grown kept bytes)
grown_settled j store next old new kept bytes s file is settled safe others =
    subst (λ (x : StoreState). IsSettled x new (grown kept bytes)) (sym is) (record {
      safe = safe;
      holds = with_records kept bytes j.file (file ∙ ap (λ n. 2 + n % 2) s.epoch) old.reads new.reads
          (kept.records ++ bytes ∷ []) s.holds others settled.holds_records.holds;
      epoch = s.epoch;
      end = settled.holds_records.offset;
      network = s.network;
      working = refl;
    })
