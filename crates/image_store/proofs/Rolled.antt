-- What is kept while a store rolls to the next epoch, and after that.
use Rattle.image_store.proofs.Prelude.{◌≡◌, ◌≢◌, refl, sym, ap, subst, ◌∙◌, ℕ, ◌+◌, ◌-◌, ◌<◌, ◌^◌, List, [], length}
use Rattle.image_store.proofs.Prelude.{false, inl, inr, arith, ◌%◌, Image, Disk, Runs, IsSafe, widened, StartImage}
use Rattle.image_store.proofs.Prelude.{start_image, IsOpen, top_bit, epoch_in, IsFormed, after_gate, Kept, rolled}
use Rattle.image_store.proofs.Prelude.{Holds, StoreState, IsSettled, HoldsEither, HasTurned, IsTurning, IsTurned}
use Rattle.image_store.proofs.Words.{top_is}
use Rattle.image_store.proofs.Keeping.{number_of}
use Rattle.image_store.proofs.Turned.{no_journal, holds_new, holds_still}

mod_two_below_two : (n : ℕ) → n % 2 < 2
mod_two_below_two n = omega arith

other_parity : (n : ℕ) → (n + 1) % 2 ≢ n % 2
other_parity n is = omega (arith, is)

small_epoch : (n : ℕ) → n < 2 ^ 63 - 1 → n + 1 < top_bit
small_epoch n lt = omega (arith, lt, top_is)

module _ (image : StartImage) (within : start_image.within image) (sized : start_image.sized image)
    (fits_len : length (start_image.encoding image) < 256 ^ 8) (store : StoreState) (old new : Disk) (kept : Kept)
    (s : IsSettled store old kept) (long : length store.network.0 ≡ 32) (low : store.epoch < 2 ^ 63 - 1)
    (piece : List ℕ) (is : piece ≡ after_gate (store.epoch + 1) store.network.0 (start_image.encoding image)) where
  abbrev number : ℕ
  number = (store.epoch + 1) % 2

  other : (d : Image) → (h : Holds d kept) → number ≢ h.number
  other d h same = other_parity store.epoch
      (same ∙ number_of d kept h ∙ ap (λ n. n % 2) (sym s.epoch))

  rolled_holds : (d c : Image) → Holds d kept → HasTurned number piece c
      → ((k : ℕ) → k ≢ number → k ≢ 2 + number → c k ≡ d k) → Holds c (rolled kept image)
  rolled_holds d c h turned others =
      subst (Holds c)
      (λ i. record { format = 2; epoch = s.epoch i + 1; network = s.network i; image = image; records = [] })
      (holds_new image within sized (store.epoch + 1) store.network long (small_epoch store.epoch low) fits_len number
      (mod_two_below_two (store.epoch + 1)) refl c (subst (λ p. HasTurned number p c) is turned)
      (λ k below far opened.
      let same : c k ≡ d k = others k far (no_journal number k below) in
      let was = subst (λ file. IsOpen file) same opened in
      let le = h.chosen.greatest k below was in (
        subst (IsFormed k) (sym same) (h.formed k below was),
        omega (arith, le, ap epoch_in same, h.epoch, s.epoch),
      )))

  either : (d c : Image) → IsTurning number piece d c → HoldsEither kept (rolled kept image) d c
  either d c t h = elim t.here [
    | inl here ↦ inl (holds_still d c kept h number (mod_two_below_two (store.epoch + 1)) (other d h) here t.others)
    | inr turned ↦ inr (rolled_holds d c h turned t.others)
  ]

  pub roll_runs : Runs (IsTurning number piece) old new → Runs (HoldsEither kept (rolled kept image)) old new
  roll_runs runs = widened {step = IsTurning number piece} {wider = HoldsEither kept (rolled kept image)} old new either
      runs

  pub roll_settled : (next : StoreState) → IsTurned number piece old.reads new.reads → IsSafe new
      → next ≡ record { epoch = store.epoch + 1; end = 0; network = store.network; failed = false }
      → IsSettled next new (rolled kept image)
  roll_settled next turned safe same =
      subst (λ (x : StoreState). IsSettled x new (rolled kept image)) (sym same) (record {
        safe = safe;
        holds = rolled_holds old.reads new.reads s.holds turned.here turned.others;
        epoch = ap (λ n. n + 1) s.epoch;
        end = refl;
        network = s.network;
        working = refl;
      })
