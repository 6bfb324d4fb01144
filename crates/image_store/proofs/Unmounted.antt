-- Why a volume can't be mounted whose image was chosen.
use Rattle.image_store.proofs.Prelude.{◌≡◌, refl, sym, ap, subst, ◌∙◌, ℕ, ◌+◌, Err, inl, inr, Image, Disk, HasNoRecords}
use Rattle.image_store.proofs.Prelude.{StoreFault, StartImage, Head, image_offset, image_in, IsImage, BreaksImage}
use Rattle.image_store.proofs.Prelude.{BreaksJournal, Mounts, IsChosenHead, ReportsImage}
use Rattle.gate_journal.specs.Calls as journal
use Rattle.gate_journal.specs.declared.fault.StoreFault.TheVariants as fault

module _ (old new : Disk) (number : ℕ) (head : Head) (its : IsChosenHead old.reads number head) (before now : ℕ) where
  breaks_image : (offset : ℕ) → offset ≡ image_offset head.format
      → ((image : StartImage) → IsImage (image_in (old.reads number)) image → ⊥)
      → BreaksImage old.reads number offset
  breaks_image offset at wrong = record {
    formed = its.formed;
    chosen = its.chosen;
    wrong = wrong;
    at = at ∙ ap image_offset its.reads.sized.format;
  }

  pub no_image : (wrong : StoreFault) → new.reads ≡ old.reads
      → ReportsImage number (image_offset head.format) (old.reads number) (Err wrong)
      → journal.IsMountFault before now wrong → Mounts old new (Err wrong)
  no_image (fault.BadStore bad offset) same reported cause = (
    same,
    inr (inl (subst (λ n. BreaksImage old.reads n offset) (sym reported.0)
        (breaks_image offset reported.1 reported.2))),
  )
  no_image fault.NoMemory same reported cause = same
  no_image fault.DiskFault same reported cause = tt
  no_image fault.Failed same reported cause = tt
  no_image fault.AlreadyThere same reported cause = tt
  no_image fault.Missing same reported cause = absurd cause

  module _ (image : StartImage) (reads : IsImage (image_in (old.reads number)) image) where
    breaks_journal : (offset : ℕ) → HasNoRecords (old.reads (2 + number)) offset
        → BreaksJournal old.reads (2 + number) offset
    breaks_journal offset wrong = record {
      formed = its.formed;
      number = number;
      chosen = its.chosen;
      image = image;
      reads = reads;
      journal = refl;
      wrong = wrong;
    }

    pub no_journal : (mid : Disk) → mid.reads ≡ old.reads → (wrong : StoreFault)
        → journal.Mounts (2 + number) mid new (Err wrong) → journal.IsMountFault before now wrong
        → Mounts old new (Err wrong)
    no_journal mid same (fault.BadStore bad offset) reported cause = (
      reported.0 ∙ same,
      inr (inr (subst (λ n. BreaksJournal old.reads n offset) (sym reported.1)
          (breaks_journal offset
          (subst (λ (image : Image). HasNoRecords (image (2 + number)) offset) same reported.2)))),
    )
    no_journal mid same fault.NoMemory reported cause = reported ∙ same
    no_journal mid same fault.DiskFault reported cause = tt
    no_journal mid same fault.Failed reported cause = tt
    no_journal mid same fault.AlreadyThere reported cause = tt
    no_journal mid same fault.Missing reported cause = absurd cause
