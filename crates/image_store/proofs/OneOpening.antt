-- Four files open to at most one thing.
use Rattle.image_store.proofs.Prelude.{◌≡◌, ℕ, ◌+◌, ◌<◌, List, inl, inr, Result, Ok, Err, refl, sym, ◌∙◌, ap, subst}
use Rattle.image_store.proofs.Prelude.{arith, cases_order, XdrFault, Position, start_of, StartImage, start_image, Image}
use Rattle.image_store.proofs.Prelude.{HasRecords, HasNoRecords, StoreFault, image_offset, format_in, epoch_in}
use Rattle.image_store.proofs.Prelude.{network_in, image_in, IsFormed, IsImage, Kept, HoldsNothing, AreFormed, IsChosen}
use Rattle.image_store.proofs.Prelude.{IsMisformed, BreaksForm, IsOpening, OpeningsAreOne}
use Rattle.std.proofs.Common.{◌%◌}
use Rattle.gate_journal.specs.declared.fault.StoreFault.TheVariants as fault
use Rattle.gate_journal.proofs.OneList.{records_are_one, offsets_are_one, never_both}

-- ---- the chosen image

chosen_one : (c : Image) (one other : ℕ) → AreFormed c → IsChosen c one → IsChosen c other → one ≡ other
chosen_one c one other formed first second =
    let below = first.greatest other second.image_file second.is_open in
    let above = second.greatest one first.image_file first.is_open in
    let epoch : epoch_in (c one) ≡ epoch_in (c other) = omega (arith, below, above) in
    sym (formed one first.image_file first.is_open).numbered.parity ∙ ap (λ (n : ℕ). n % 2) epoch
    ∙ (formed other second.image_file second.is_open).numbered.parity

pub reading_one : (bytes : List ℕ) (one other : StartImage × Position) → start_image.read (start_of bytes) ≡ Ok one
    → start_image.read (start_of bytes) ≡ Ok other
    → one ≡ other
reading_one bytes one other reads again = value_is (sym reads ∙ again)
  where
    value_is : ◌≡◌ {A = Result (StartImage × Position) XdrFault} (Ok one) (Ok other) → one ≡ other
    value_is same = cc

pub images_same : (bytes : List ℕ) (one other : StartImage) → IsImage bytes one → IsImage bytes other → one ≡ other
images_same bytes one other (end, reads, none) (offset, again, nil) =
    ap (λ (read : StartImage × Position). read.0) (reading_one bytes (one, end) (other, offset) reads again)

-- ---- the first misformed image

not_misformed : (number : ℕ) (file : List ℕ) (offset : ℕ) → IsFormed number file → IsMisformed number file offset → ⊥
not_misformed number file offset formed (inl (at, wrong)) = wrong formed.numbered
not_misformed number file offset formed (inr (inl (at, numbered, wrong))) = wrong formed.sized
not_misformed number file offset formed (inr (inr (at, numbered, sized, wrong))) = wrong formed.hashed

misformed_one : (number : ℕ) (file : List ℕ) (one other : ℕ) → IsMisformed number file one
    → IsMisformed number file other
    → one ≡ other
misformed_one number file one other (inl (at, wrong)) (inl (there, bad)) = at ∙ sym there
misformed_one number file one other (inl (at, wrong)) (inr (inl (there, numbered, bad))) = absurd (wrong numbered)
misformed_one number file one other (inl (at, wrong)) (inr (inr (there, numbered, sized, bad))) =
    absurd (wrong numbered)
misformed_one number file one other (inr (inl (at, numbered, wrong))) (inl (there, bad)) = absurd (bad numbered)
misformed_one number file one other (inr (inl (at, numbered, wrong))) (inr (inl (there, also, bad))) = at ∙ sym there
misformed_one number file one other (inr (inl (at, numbered, wrong))) (inr (inr (there, also, sized, bad))) =
    absurd (wrong sized)
misformed_one number file one other (inr (inr (at, numbered, sized, wrong))) (inl (there, bad)) = absurd (bad numbered)
misformed_one number file one other (inr (inr (at, numbered, sized, wrong))) (inr (inl (there, also, bad))) =
    absurd (bad sized)
misformed_one number file one other (inr (inr (at, numbered, sized, wrong))) (inr (inr (there, also, same, bad))) =
    at ∙ sym there

not_formed : (c : Image) (file offset : ℕ) → AreFormed c → BreaksForm c file offset → ⊥
not_formed c file offset formed breaks =
    not_misformed file (c file) offset (formed file breaks.image_file breaks.is_open) breaks.wrong

not_before : (c : Image) (file offset other there : ℕ) → BreaksForm c file offset → BreaksForm c other there
    → file < other
    → ⊥
not_before c file offset other there first second less =
    not_misformed file (c file) offset (second.first file less first.is_open) first.wrong

form_one : (c : Image) (file offset other there : ℕ) → BreaksForm c file offset → BreaksForm c other there
    → (file ≡ other) × (offset ≡ there)
form_one c file offset other there first second = elim (cases_order file other) [
  | inl same ↦ (
    same,
    misformed_one other (c other) offset there
        (subst (λ (n : ℕ). IsMisformed n (c n) offset) same first.wrong) second.wrong,
  )
  | inr (inl less) ↦ absurd (not_before c file offset other there first second less)
  | inr (inr more) ↦ absurd (not_before c other there file offset second first more)
]

-- ---- all that a content opens to

-- which it is, where this image is chosen
data Chosen (c : Image) (number : ℕ) : Result Kept StoreFault → Type 0 where
  NoImage : (offset : ℕ) → ((image : StartImage) → IsImage (image_in (c number)) image → ⊥)
      → offset ≡ image_offset (format_in (c number)) → Chosen c number (Err (fault.BadStore number offset))
  NoJournal : (file offset : ℕ) (image : StartImage) → IsImage (image_in (c number)) image → file ≡ 2 + number
      → HasNoRecords (c file) offset → Chosen c number (Err (fault.BadStore file offset))
  Both : (kept : Kept) → kept.format ≡ format_in (c number) → kept.epoch ≡ epoch_in (c number)
      → kept.network ≡ network_in (c number) → IsImage (image_in (c number)) kept.image
      → HasRecords (c (2 + number)) kept.records → Chosen c number (Ok kept)

data Opening (c : Image) : Result Kept StoreFault → Type 0 where
  Nothing : HoldsNothing c → Opening c (Err fault.Missing)
  Misformed : (file offset : ℕ) → BreaksForm c file offset → Opening c (Err (fault.BadStore file offset))
  Formed : (number : ℕ) (opening : Result Kept StoreFault) → AreFormed c → IsChosen c number
      → Chosen c number opening → Opening c opening

opening_of : (c : Image) (opening : Result Kept StoreFault) → IsOpening c opening → Opening c opening
opening_of c (Ok kept) holds =
    Formed holds.number (Ok kept) holds.formed holds.chosen
    (Both kept holds.format holds.epoch holds.network holds.image holds.journal)
opening_of c (Err fault.Missing) nothing = Nothing nothing
opening_of c (Err (fault.BadStore file offset)) (inl breaks) = Misformed file offset breaks
opening_of c (Err (fault.BadStore file offset)) (inr (inl breaks)) =
    Formed file (Err (fault.BadStore file offset)) breaks.formed breaks.chosen (NoImage offset breaks.wrong breaks.at)
opening_of c (Err (fault.BadStore file offset)) (inr (inr breaks)) =
    Formed breaks.number (Err (fault.BadStore file offset)) breaks.formed breaks.chosen
    (NoJournal file offset breaks.image breaks.reads breaks.journal breaks.wrong)
opening_of c (Err other) opens = absurd opens

journal_apart : (c : Image) (number file offset : ℕ) (records : List (List ℕ)) → file ≡ 2 + number
    → HasNoRecords (c file) offset → HasRecords (c (2 + number)) records → ⊥
journal_apart c number file offset records at none has =
    never_both (c (2 + number)) records offset has (subst (λ (n : ℕ). HasNoRecords (c n) offset) at none)

same_fault : (file other offset there : ℕ) → file ≡ other → offset ≡ there
    → ◌≡◌ {A = Result Kept StoreFault} (Err (fault.BadStore file offset)) (Err (fault.BadStore other there))
same_fault file other offset there files offsets = λ i. Err (fault.BadStore (files i) (offsets i))

chosen_opening_one : (c : Image) (number : ℕ) (one other : Result Kept StoreFault) → Chosen c number one
    → Chosen c number other → one ≡ other
chosen_opening_one c number one other (NoImage offset none at) (NoImage there nor is) =
    same_fault number number offset there refl (at ∙ sym is)
chosen_opening_one c number one other (NoImage offset none at) (NoJournal file there image reads is wrong) =
    absurd (none image reads)
chosen_opening_one c number one other (NoImage offset none at) (Both kept format epoch network reads journal) =
    absurd (none kept.image reads)
chosen_opening_one c number one other (NoJournal file offset image reads at wrong) (NoImage there none is) =
    absurd (none image reads)
chosen_opening_one c number one other (NoJournal file offset image reads at wrong)
    (NoJournal journal there again read is bad) =
    let same : file ≡ journal = at ∙ sym is in
    same_fault file journal offset there same
    (offsets_are_one (c journal) offset there (subst (λ (n : ℕ). HasNoRecords (c n) offset) same wrong) bad)
chosen_opening_one c number one other (NoJournal file offset image reads at wrong)
    (Both kept format epoch network read journal) =
    absurd (journal_apart c number file offset kept.records at wrong journal)
chosen_opening_one c number one other (Both kept format epoch network reads journal) (NoImage offset none at) =
    absurd (none kept.image reads)
chosen_opening_one c number one other (Both kept format epoch network reads journal)
    (NoJournal file offset image read at wrong) =
    absurd (journal_apart c number file offset kept.records at wrong journal)
chosen_opening_one c number one other (Both kept format epoch network reads journal) (Both held form at id read has) =
    let formats = format ∙ sym form in
    let epochs = epoch ∙ sym at in
    let networks = network ∙ sym id in
    let images = images_same (image_in (c number)) kept.image held.image reads read in
    let records = records_are_one (c (2 + number)) kept.records held.records journal has in
    λ i. Ok (record {
      format = formats i;
      epoch = epochs i;
      network = networks i;
      image = images i;
      records = records i;
    })

opening_one : (c : Image) (one other : Result Kept StoreFault) → Opening c one → Opening c other → one ≡ other
opening_one c one other (Nothing none) (Nothing nor) = refl
opening_one c one other (Nothing none) (Misformed file offset breaks) =
    absurd (none file breaks.image_file breaks.is_open)
opening_one c one other (Nothing none) (Formed number opening formed chosen opens) =
    absurd (none number chosen.image_file chosen.is_open)
opening_one c one other (Misformed file offset breaks) (Nothing none) =
    absurd (none file breaks.image_file breaks.is_open)
opening_one c one other (Misformed file offset breaks) (Misformed number there wrong) =
    let same = form_one c file offset number there breaks wrong in
    same_fault file number offset there same.0 same.1
opening_one c one other (Misformed file offset breaks) (Formed number opening formed chosen opens) =
    absurd (not_formed c file offset formed breaks)
opening_one c one other (Formed number opening formed chosen opens) (Nothing none) =
    absurd (none number chosen.image_file chosen.is_open)
opening_one c one other (Formed number opening formed chosen opens) (Misformed file offset breaks) =
    absurd (not_formed c file offset formed breaks)
opening_one c one other (Formed number opening formed chosen opens) (Formed again reported same other_chosen reports) =
    chosen_opening_one c again opening reported
    (subst (λ (n : ℕ). Chosen c n opening) (chosen_one c number again formed chosen other_chosen) opens) reports

pub openings_are_one : OpeningsAreOne
openings_are_one c one other first second =
    opening_one c one other (opening_of c one first) (opening_of c other second)
