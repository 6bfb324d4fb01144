-- Four files open to something.
use Rattle.image_store.proofs.Prelude.{◌≡◌, ℕ, zero, suc, ◌+◌, ◌<◌, ◌≤◌, List, [], ◌∷◌, length, ◌⊎◌, inl, inr, Result}
use Rattle.image_store.proofs.Prelude.{Ok, Err, refl, sym, ◌∙◌, ap, arith, cases_eq, cases_lt, XdrFault, Position}
use Rattle.image_store.proofs.Prelude.{start_of, StartImage, start_image, Image, HasRecords, HasNoRecords, StoreFault}
use Rattle.image_store.proofs.Prelude.{head_len, top_bit, image_offset, IsOpen, format_in, epoch_in, network_in}
use Rattle.image_store.proofs.Prelude.{length_in, digest_in, image_in, sha256, IsNumbered, IsHashed, IsFormed, IsImage}
use Rattle.image_store.proofs.Prelude.{Kept, AreFormed, IsChosen, IsMisformed, IsOpening, EachOpens}
use Rattle.std.proofs.Common.{◌%◌, slice_index}
use Rattle.gate_journal.specs.declared.fault.StoreFault.TheVariants as fault
use Rattle.image_store.proofs.EachFile.{each_file}
use Rattle.image_store.proofs.OneOpening.{reading_one}
use Rattle.image_store.proofs.Chosen.{each_below_two}
use mathlib.Core.List.{List-discrete}
use native.Mathlib.Decide.{ℕ_discrete}

-- the image that these bytes are, or that they are none
abbrev ImageOrNone : List ℕ → Type 0
ImageOrNone bytes = ((image : StartImage) × IsImage bytes image) ⊎ ((image : StartImage) → IsImage bytes image → ⊥)

-- an image file is formed if it is open, or it is open and misformed at some offset
abbrev FormOrOffset : ℕ → List ℕ → Type 0
FormOrOffset number file =
    (IsOpen file → IsFormed number file) ⊎ (IsOpen file × ((offset : ℕ) × IsMisformed number file offset))

abbrev OpenOrShut : List ℕ → Type 0
OpenOrShut file = IsOpen file ⊎ (IsOpen file → ⊥)

abbrev Opens : Image → Type 0
Opens c = (opening : Result Kept StoreFault) × IsOpening c opening

-- ---- what follows the head

more_after : (bytes : List ℕ) (image : StartImage) (end : Position) (first : ℕ) (rest : List ℕ)
    → start_image.read (start_of bytes) ≡ Ok (image, end) → end.rest ≡ first ∷ rest
    → (other : StartImage) → IsImage bytes other → ⊥
more_after bytes image end first rest reads more other (offset, again, none) =
    let same = ap (λ (l : StartImage × Position). l.1.rest)
    (reading_one bytes (image, end) (other, offset) reads again) in
    omega (arith, ap length (sym more ∙ same ∙ none))

unread : (bytes : List ℕ) (wrong : XdrFault) → start_image.read (start_of bytes) ≡ Err wrong
    → (image : StartImage) → IsImage bytes image → ⊥
unread bytes wrong fails image (end, reads, none) = apart (sym fails ∙ reads)
  where
    apart : ◌≡◌ {A = Result (StartImage × Position) XdrFault} (Err wrong) (Ok (image, end)) → ⊥
    apart h = cc

by_end : (bytes : List ℕ) (image : StartImage) (end : Position) (rest : List ℕ)
    → start_image.read (start_of bytes) ≡ Ok (image, end) → end.rest ≡ rest
    → ImageOrNone bytes
by_end bytes image end [] reads none = inl (image, (end, reads, none))
by_end bytes image end (first ∷ rest) reads more = inr (more_after bytes image end first rest reads more)

by_reading : (bytes : List ℕ) (reading : Result (StartImage × Position) XdrFault)
    → start_image.read (start_of bytes) ≡ reading
    → ImageOrNone bytes
by_reading bytes (Ok (image, end)) reads = by_end bytes image end end.rest reads refl
by_reading bytes (Err wrong) fails = inr (unread bytes wrong fails)

each_image : (bytes : List ℕ) → ImageOrNone bytes
each_image bytes = by_reading bytes (start_image.read (start_of bytes)) refl

-- ---- with a chosen image

by_journal : (c : Image) (number : ℕ) (image : StartImage) → AreFormed c → IsChosen c number
    → IsImage (image_in (c number)) image
    → ((records : List (List ℕ)) × HasRecords (c (2 + number)) records)
    ⊎ ((offset : ℕ) × HasNoRecords (c (2 + number)) offset)
    → Opens c
by_journal c number image formed chosen reads (inl (records, has)) = (
  Ok (record {
    format = format_in (c number);
    epoch = epoch_in (c number);
    network = network_in (c number);
    image = image;
    records = records;
  }),
  record {
    formed = formed;
    number = number;
    chosen = chosen;
    format = refl;
    epoch = refl;
    network = refl;
    image = reads;
    journal = has;
  },
)
by_journal c number image formed chosen reads (inr (offset, none)) = (
  Err (fault.BadStore (2 + number) offset),
  inr (inr (record {
    formed = formed;
    number = number;
    chosen = chosen;
    image = image;
    reads = reads;
    journal = refl;
    wrong = none;
  })),
)

by_image : (c : Image) (number : ℕ) → AreFormed c → IsChosen c number → ImageOrNone (image_in (c number)) → Opens c
by_image c number formed chosen (inl (image, reads)) =
    by_journal c number image formed chosen reads (each_file (c (2 + number)))
by_image c number formed chosen (inr none) = (
  Err (fault.BadStore number (image_offset (format_in (c number)))),
  inr (inl (record { formed = formed; chosen = chosen; wrong = none; at = refl })),
)

with_chosen : (c : Image) (number : ℕ) → AreFormed c → IsChosen c number → Opens c
with_chosen c number formed chosen = by_image c number formed chosen (each_image (image_in (c number)))

-- ---- with formed images

-- what holds of the first image file
below_one : (P : ℕ → Type 0) → P 0 → (number : ℕ) → number < 1 → P number
below_one P first zero less = first
below_one P first (suc number) less = absurd (omega arith)

greatest : (c : Image) (epoch : ℕ) → (IsOpen (c 0) → epoch_in (c 0) ≤ epoch) → (IsOpen (c 1) → epoch_in (c 1) ≤ epoch)
    → (other : ℕ) → other < 2 → IsOpen (c other) → epoch_in (c other) ≤ epoch
greatest c epoch = each_below_two (λ n. IsOpen (c n) → epoch_in (c n) ≤ epoch)

first_chosen : (c : Image) → IsOpen (c 0) → (IsOpen (c 1) → epoch_in (c 1) ≤ epoch_in (c 0)) → IsChosen c 0
first_chosen c opened most = record {
  image_file = omega arith;
  is_open = opened;
  greatest = greatest c (epoch_in (c 0)) (λ _. omega arith) most;
}

second_chosen : (c : Image) → IsOpen (c 1) → (IsOpen (c 0) → epoch_in (c 0) ≤ epoch_in (c 1)) → IsChosen c 1
second_chosen c opened most = record {
  image_file = omega arith;
  is_open = opened;
  greatest = greatest c (epoch_in (c 1)) most (λ _. omega arith);
}

by_open : (c : Image) → AreFormed c → OpenOrShut (c 0) → OpenOrShut (c 1) → Opens c
by_open c formed (inl first) (inl second) = elim (cases_lt (epoch_in (c 0)) (epoch_in (c 1))) [
  | inl less ↦ with_chosen c 1 formed (second_chosen c second (λ _. omega arith))
  | inr most ↦ with_chosen c 0 formed (first_chosen c first (λ _. most))
]
by_open c formed (inl first) (inr shut) =
    with_chosen c 0 formed (first_chosen c first (λ opened. absurd (shut opened)))
by_open c formed (inr shut) (inl second) =
    with_chosen c 1 formed (second_chosen c second (λ opened. absurd (shut opened)))
by_open c formed (inr first) (inr second) = (Err fault.Missing, each_below_two (λ n. IsOpen (c n) → ⊥) first second)

-- ---- the form of each image

open_or_shut : (file : List ℕ) → OpenOrShut file
open_or_shut file = elim (cases_lt (length file) head_len) [
  | inl short ↦ inr (λ opened. let long = opened.long in omega arith)
  | inr long ↦ elim (cases_eq (slice_index file 0) 1) [
    | inl gate ↦ inl (record { long = long; gate = gate })
    | inr shut ↦ inr (λ opened. shut opened.gate)
  ]
]

number_or_none : (number : ℕ) (file : List ℕ) → IsNumbered number file ⊎ (IsNumbered number file → ⊥)
number_or_none number file = elim (cases_eq (epoch_in file % 2) number) [
  | inr other ↦ inr (λ numbered. other numbered.parity)
  | inl parity ↦ elim (cases_eq (format_in file) 1) [
    | inr other ↦ inl (record { parity = parity; low = λ first. absurd (other first) })
    | inl first ↦ elim (cases_lt (epoch_in file + 1) top_bit) [
      | inl low ↦ inl (record { parity = parity; low = λ _. low })
      | inr high ↦ inr (λ numbered. let low = numbered.low first in absurd (omega (arith, low, high)))
    ]
  ]
]

hash_or_none : (file : List ℕ) → IsHashed file ⊎ (IsHashed file → ⊥)
hash_or_none file = elim (cases_eq (format_in file) 2) [
  | inr other ↦ inl (λ second. absurd (other second))
  | inl second ↦ elim (List-discrete ℕ_discrete (digest_in file) (sha256 (image_in file))) [
    | yes same ↦ inl (λ _. same)
    | no other ↦ inr (λ hashed. other (hashed second))
  ]
]

form_or_offset : (number : ℕ) (file : List ℕ) → IsOpen file → FormOrOffset number file
form_or_offset number file opened = elim (number_or_none number file) [
  | inr wrong ↦ inr (opened, (1, inl (refl, wrong)))
  | inl numbered ↦ elim (cases_eq (length file) (image_offset (format_in file) + length_in file)) [
    | inr other ↦ inr (opened, (41, inr (inl (refl, numbered, other))))
    | inl sized ↦ elim (hash_or_none file) [
      | inl hashed ↦ inl (λ _. record { numbered = numbered; sized = sized; hashed = hashed })
      | inr wrong ↦ inr (opened, (49, inr (inr (refl, numbered, sized, wrong))))
    ]
  ]
]

each_form : (number : ℕ) (file : List ℕ) → FormOrOffset number file
each_form number file = elim (open_or_shut file) [
  | inl opened ↦ form_or_offset number file opened
  | inr shut ↦ inl (λ opened. absurd (shut opened))
]

by_form : (c : Image) → FormOrOffset 0 (c 0) → FormOrOffset 1 (c 1) → Opens c
by_form c (inl first) (inl second) =
    by_open c (each_below_two (λ n. IsOpen (c n) → IsFormed n (c n)) first second) (open_or_shut (c 0))
    (open_or_shut (c 1))
by_form c (inl first) (inr (opened, (offset, wrong))) = (
  Err (fault.BadStore 1 offset),
  inl (record {
    image_file = omega arith;
    is_open = opened;
    wrong = wrong;
    first = below_one (λ n. IsOpen (c n) → IsFormed n (c n)) first;
  }),
)
by_form c (inr (opened, (offset, wrong))) second = (
  Err (fault.BadStore 0 offset),
  inl (record { image_file = omega arith; is_open = opened; wrong = wrong; first = λ n less. absurd (omega arith) }),
)

pub each_opens : EachOpens
each_opens c = by_form c (each_form 0 (c 0)) (each_form 1 (c 1))
