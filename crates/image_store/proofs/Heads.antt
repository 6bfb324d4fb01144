-- The head of an image file, by its first 49 bytes.
use Rattle.image_store.proofs.Prelude.{◌≡◌, ◌≢◌, refl, sym, ap, subst, ◌∙◌, ℕ, ◌+◌, ◌<◌, List, length, take, drop, Err}
use Rattle.image_store.proofs.Prelude.{◌⊎◌, inl, inr, arith, drop-take, take-take, ◌%◌, big_number, StoreFault, Head}
use Rattle.image_store.proofs.Prelude.{head_len, top_bit, format_of, epoch_of, image_offset, IsOpen, word_in, format_in}
use Rattle.image_store.proofs.Prelude.{epoch_in, network_in, length_in, IsNumbered, IsSized, IsHashed, IsMisformed}
use Rattle.image_store.proofs.Prelude.{IsSaid, IsHeadSized, IsHead, ReportsForm, ReportsOpenHead, ReportsHead, IsOfFile}
use Rattle.image_store.proofs.Prelude.{ReportsEpoch, Bool, true, false, nat_lt, ltb-true, ltb-false, ◌-◌, ◌≤◌, ◌^◌}
use Rattle.image_store.proofs.Words.{top_is, epoch_below}
use Rattle.gate_journal.specs.declared.fault.StoreFault.TheVariants as fault

-- ---- the first bytes of a file say what the file says

same_word : (file : List ℕ) → word_in (take 49 file) ≡ word_in file
same_word file = ap (λ xs. big_number 8 (take 8 xs)) (drop-take 1 48 file)
    ∙ ap (big_number 8) (take-take 8 48 (drop 1 file) (omega arith))

same_network : (file : List ℕ) → network_in (take 49 file) ≡ network_in file
same_network file =
    ap (λ xs. record { 0 = xs }) (ap (take 32) (drop-take 9 40 file) ∙ take-take 32 40 (drop 9 file) (omega arith))

same_length : (file : List ℕ) → length_in (take 49 file) ≡ length_in file
same_length file = ap (λ xs. big_number 8 (take 8 xs)) (drop-take 41 8 file)
    ∙ ap (big_number 8) (take-take 8 8 (drop 41 file) (omega arith))

-- a file with the word of one that is numbered is numbered
numbered_by : (number : ℕ) (one other : List ℕ) → word_in one ≡ word_in other → IsNumbered number one
    → IsNumbered number other
numbered_by number one other word is = record {
  parity = sym (ap (λ w. epoch_of w % 2) word) ∙ is.parity;
  low = λ first. subst (λ w. epoch_of w + 1 < top_bit) word (is.low (ap format_of word ∙ first));
}

-- ---- an epoch is one of a file's

pub epoch_reported : (number format epoch : ℕ) (t : Bool) → epoch % 2 ≡ number → format ≡ 1
    → nat_lt epoch (2 ^ 63 - 1) ≡ t
    → ReportsEpoch number format epoch t
epoch_reported number format epoch true parity first less = record {
  parity = parity;
  low = λ _. omega (arith, ltb-true epoch (2 ^ 63 - 1) less, top_is);
}
epoch_reported number format epoch false parity first less =
    λ is. let low = is.low first in absurd (omega (arith, low, ltb-false epoch (2 ^ 63 - 1) less, top_is))

module _ (number format epoch : ℕ) (head : List ℕ) (format_is : format ≡ format_in head)
    (epoch_is : epoch ≡ epoch_in head) where
  pub number_of : IsOfFile number format epoch → IsNumbered number head
  number_of is = record {
    parity = ap (λ e. e % 2) (sym epoch_is) ∙ is.parity;
    low = λ first. subst (λ e. e + 1 < top_bit) epoch_is (is.low (format_is ∙ first));
  }

  pub no_number : (IsOfFile number format epoch → ⊥) → IsNumbered number head → ⊥
  no_number wrong is = wrong (record {
    parity = ap (λ e. e % 2) epoch_is ∙ is.parity;
    low = λ first. subst (λ e. e + 1 < top_bit) (sym epoch_is) (is.low (sym format_is ∙ first));
  })

  pub low_epoch : epoch < top_bit
  low_epoch = subst (λ e. e < top_bit) (sym epoch_is) (epoch_below (word_in head))

-- ---- a size is what is said

pub too_short : (size offset len : ℕ) → size < offset → size ≢ offset + len
too_short size offset len short is = omega (arith, short, is)

pub other_len : (size offset len : ℕ) → offset ≤ size → size - offset ≢ len → size ≢ offset + len
other_len size offset len long other is = other (omega (arith, is))

-- ---- what an open image file says

module _ (number : ℕ) (file head : List ℕ) (size : ℕ) (is : head ≡ take 49 file) (opened : IsOpen file)
    (whole : length file ≡ size) where
  word : word_in head ≡ word_in file
  word = ap word_in is ∙ same_word file

  said_len : length_in head ≡ length_in file
  said_len = ap length_in is ∙ same_length file

  said_size : image_offset (format_in head) + length_in head ≡ image_offset (format_in file) + length_in file
  said_size = λ i. image_offset (format_of (word i)) + said_len i

  misformed : (offset : ℕ) → ((offset ≡ 1) × (IsNumbered number head → ⊥))
      ⊎ ((offset ≡ 41) × IsNumbered number head × (size ≢ image_offset (format_in head) + length_in head))
      → IsMisformed number file offset
  misformed offset (inl (at, wrong)) = inl (at, λ numbered. wrong (numbered_by number file head (sym word) numbered))
  misformed offset (inr (at, right, wrong)) = inr (inl (
    at,
    numbered_by number head file word right,
    λ sized. wrong (sym whole ∙ sized ∙ sym said_size),
  ))

  -- the first bytes don't say what an image file does
  pub unsaid : (wrong : StoreFault) → ReportsForm number head size (Err wrong)
      → ReportsOpenHead number file (Err wrong)
  unsaid (fault.BadStore bad offset) reported = (reported.0, opened, misformed offset reported.1)
  unsaid other reported = tt

  module _ (found : Head) (said : IsSaid number head size found) where
    pub head_sized : IsHeadSized file found
    head_sized = record { format = said.format ∙ ap format_of word; size = whole ∙ said.whole }

    sized : IsSized file
    sized = head_sized.size ∙ (λ i. image_offset (head_sized.format i) + (said.len ∙ said_len) i)

    pub hashed_head : IsHashed file → IsHead number file found
    hashed_head hashed = record {
      is_open = opened;
      formed = record { numbered = numbered_by number head file word said.numbered; sized = sized; hashed = hashed };
      sized = head_sized;
      epoch = said.epoch ∙ ap epoch_of word;
      network = said.network ∙ ap network_in is ∙ same_network file;
    }

    pub unhashed_head : (IsHashed file → ⊥) → ReportsOpenHead number file (Err (fault.BadStore number head_len))
    unhashed_head wrong = (
      refl,
      opened,
      inr (inr (refl, numbered_by number head file word said.numbered, sized, wrong)),
    )

pub reported_head : (number : ℕ) (file : List ℕ) (wrong : StoreFault) → ReportsOpenHead number file (Err wrong)
    → ReportsHead number file (Err wrong)
reported_head number file (fault.BadStore bad offset) reported = reported
reported_head number file other reported = tt
