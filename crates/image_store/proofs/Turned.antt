-- What files open to where another epoch is written.
use Rattle.image_store.proofs.Prelude.{◌≡◌, ◌≢◌, refl, sym, ap, subst, ◌∙◌, ℕ, ◌+◌, ◌<◌, ◌≤◌, ◌^◌, List, [], ◌∷◌}
use Rattle.image_store.proofs.Prelude.{length, true, false, inl, inr, arith, eqb-true, eq-eqb, append-nil, All-nil, ◌%◌}
use Rattle.image_store.proofs.Prelude.{Hash, Image, max_record, HasRecords, StartImage, start_image, start_image_laws}
use Rattle.image_store.proofs.Prelude.{IsOpen, top_bit, format_in, epoch_in, network_in, image_in, IsFormed, IsImage}
use Rattle.image_store.proofs.Prelude.{after_gate, Kept, Holds, IsSameOrNotOpen, HasTurned}
use Rattle.std.specs.Prelude.{nat_eq}
use Rattle.image_store.proofs.Pieces.{Says, says}

-- what holds of a number and of each other one holds of all
pub by_number : (P : ℕ → Type 0) (number : ℕ) → P number → ((k : ℕ) → k ≢ number → P k) → (k : ℕ) → P k
by_number P number here others k = elim (nat_eq k number) as (λ t. nat_eq k number ≡ t → P k) [
  | true ↦ λ is. subst P (sym (eqb-true k number is)) here
  | false ↦ λ is. others k (λ same. absurd (let yes = eq-eqb k number same in cc))
] refl

-- no image is in the file of a journal
pub no_journal : (number k : ℕ) → k < 2 → k ≢ 2 + number
no_journal number k lt is = omega (arith, lt, is)

-- ---- a new image, after an open gate

no_records : HasRecords (0 ∷ []) []
no_records = (0 ∷ [], record { cut = refl; short = All-nil (λ bytes. length bytes ≤ max_record) }, λ is. absurd (cc))

module _ (image : StartImage) (within : start_image.within image) (sized : start_image.sized image) (epoch : ℕ)
    (network : Hash) (long : length network.0 ≡ 32) (fits : epoch < top_bit)
    (fits_len : length (start_image.encoding image) < 256 ^ 8) (number : ℕ) (lt : number < 2)
    (parity : epoch % 2 ≡ number) where
  abbrev text : List ℕ
  text = start_image.encoding image

  abbrev piece : List ℕ
  piece = after_gate epoch network.0 text

  reads_complete : IsImage text image
  reads_complete = (
    _,
    ap (λ t. start_image.read (record { at = 0; rest = t })) (sym (append-nil text))
        ∙ start_image_laws.lawful.again 0 image [] within sized,
    refl,
  )

  -- the other image file is not open, or has its form and a lesser epoch
  abbrev IsOlder : List ℕ → ℕ → Type 0
  IsOlder file k = IsOpen file → IsFormed k file × (epoch_in file ≤ epoch)

  pub holds_new : (c : Image) → HasTurned number piece c → ((k : ℕ) → k < 2 → k ≢ number → IsOlder (c k) k)
      → Holds c (record { format = 2; epoch = epoch; network = network; image = image; records = [] })
  holds_new c turned older =
      let its : Says epoch network.0 text long (c number) =
      says epoch network.0 text long (c number) turned.image fits fits_len in
      record {
        formed = by_number (λ k. k < 2 → IsOpen (c k) → IsFormed k (c k)) number
            (λ below opened. record {
              numbered = record {
                parity = ap (λ n. n % 2) its.epoch_is ∙ parity;
                low = λ first. absurd (omega (arith, first, its.format_is));
              };
              sized = its.sized;
              hashed = its.hashed;
            })
            (λ k other below opened. (older k below other opened).0);
        number = number;
        chosen = record {
          image_file = lt;
          is_open = its.opened;
          greatest = by_number (λ k. k < 2 → IsOpen (c k) → epoch_in (c k) ≤ epoch_in (c number)) number
              (λ below opened. omega arith)
              (λ k other below opened. let le = (older k below other opened).1 in omega (arith, le, its.epoch_is));
        };
        format = sym its.format_is;
        epoch = sym its.epoch_is;
        network = sym its.network_is;
        image = subst (λ t. IsImage t image) (sym its.image_is) reads_complete;
        journal = subst (λ t. HasRecords t []) (sym turned.journal) no_records;
      }

-- ---- the other file is shut, or as it was

module _ (d c : Image) (kept : Kept) (h : Holds d kept) (number : ℕ) (lt : number < 2) (other : number ≢ h.number)
    (here : IsSameOrNotOpen (d number) (c number))
    (others : (k : ℕ) → k ≢ number → k ≢ 2 + number → c k ≡ d k) where
  apart : h.number ≢ number
  apart is = other (sym is)

  at : c h.number ≡ d h.number
  at = others h.number apart (no_journal number h.number h.chosen.image_file)

  still : (P : List ℕ → Type 0) (k : ℕ) → k < 2 → (IsOpen (d k) → P (d k)) → IsOpen (c k) → P (c k)
  still P k below was = by_number (λ n. n < 2 → (IsOpen (d n) → P (d n)) → IsOpen (c n) → P (c n)) number
      (λ b w opened. elim here [
        | inl same ↦ subst P (sym same) (w (subst IsOpen same opened))
        | inr shut ↦ absurd (shut opened)
      ])
      (λ n far b w opened.
      let same = others n far (no_journal number n b) in subst P (sym same) (w (subst IsOpen same opened)))
      k below was

  pub holds_still : Holds c kept
  holds_still = record {
    formed = λ k below opened. still (IsFormed k) k below (h.formed k below) opened;
    number = h.number;
    chosen = record {
      image_file = h.chosen.image_file;
      is_open = subst IsOpen (sym at) h.chosen.is_open;
      greatest = λ k below opened.
          subst (λ file. epoch_in (c k) ≤ epoch_in file) (sym at)
          (still (λ file. epoch_in file ≤ epoch_in (d h.number)) k below (h.chosen.greatest k below) opened);
    };
    format = h.format ∙ ap format_in (sym at);
    epoch = h.epoch ∙ ap epoch_in (sym at);
    network = h.network ∙ ap network_in (sym at);
    image = subst (λ file. IsImage (image_in file) kept.image) (sym at) h.image;
    journal = subst (λ file. HasRecords file kept.records)
        (sym (others (2 + h.number) (λ is. no_journal h.number number lt (sym is))
        (λ is. apart (omega (arith, is)))))
        h.journal;
  }
