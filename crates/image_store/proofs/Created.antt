-- What is kept while a store is made, and after that.
use Rattle.image_store.proofs.Prelude.{◌≡◌, ◌≢◌, refl, sym, subst, ◌∙◌, ℕ, ◌<◌, ◌^◌, List, length, false, inl, inr}
use Rattle.image_store.proofs.Prelude.{arith, Hash, Image, Disk, Runs, Same, Stays, IsSafe, widened, onward, StartImage}
use Rattle.image_store.proofs.Prelude.{start_image, IsOpen, after_gate, HoldsNothing, Holds, StoreState, IsSettled}
use Rattle.image_store.proofs.Prelude.{first_kept, IsMade, IsCreated, IsSameOrNotOpen, HasTurned, IsTurning, IsTurned}
use Rattle.image_store.proofs.Words.{top_is}
use Rattle.image_store.proofs.Turned.{by_number, no_journal, holds_new}

-- ---- a sync, and reads

pub same_twice : (old mid new : Disk) → Runs Same old mid → Stays mid new → Runs Same old new
same_twice old mid new first second =
    onward {first = Same} {second = Same} {both = Same} old mid new (λ d e f may may_mid one two. two ∙ one)
    (λ d e one. one) first second.runs

pub safe_still : (mid new : Disk) → IsSafe mid → Stays mid new → IsSafe new
safe_still mid new safe stays c may =
    let was = stays.runs.crash c may in was.2 ∙ safe was.0 was.1 ∙ sym stays.reads

pub created_same : (network : Hash) (image : StartImage) (old new : Disk) → Runs Same old new
    → Runs (IsCreated network image) old new
created_same network image old new runs =
    widened {step = Same} {wider = IsCreated network image} old new (λ d c same. inl same) runs

-- ---- an image where none is open

module _ (image : StartImage) (within : start_image.within image) (sized : start_image.sized image)
    (fits_len : length (start_image.encoding image) < 256 ^ 8) (network : Hash) (long : length network.0 ≡ 32)
    (piece : List ℕ) (is : piece ≡ after_gate 0 network.0 (start_image.encoding image)) where
  first_holds : (d c : Image) → HoldsNothing d → HasTurned 0 piece c
      → ((k : ℕ) → k ≢ 0 → k ≢ 2 → c k ≡ d k) → Holds c (first_kept network image)
  first_holds d c nothing turned others =
      holds_new image within sized 0 network long (omega (arith, top_is)) fits_len 0 (omega arith) refl c
      (subst (λ p. HasTurned 0 p c) is turned)
      (λ k below far opened.
      absurd (nothing k below (subst IsOpen (others k far (no_journal 0 k below)) opened)))

  nothing_still : (d c : Image) → HoldsNothing d → IsSameOrNotOpen (d 0) (c 0)
      → ((k : ℕ) → k ≢ 0 → k ≢ 2 → c k ≡ d k) → HoldsNothing c
  nothing_still d c nothing here others = by_number (λ k. k < 2 → IsOpen (c k) → ⊥) 0
      (λ below opened. elim here [
        | inl same ↦ nothing 0 below (subst IsOpen same opened)
        | inr shut ↦ shut opened
      ])
      (λ k far below opened. nothing k below (subst IsOpen (others k far (no_journal 0 k below)) opened))

  made : (d c : Image) → HoldsNothing d → IsTurning 0 piece d c → IsMade network image d c
  made d c nothing t = record {
    nothing = nothing;
    made = elim t.here [
      | inl here ↦ inl (nothing_still d c nothing here t.others)
      | inr turned ↦ inr (first_holds d c nothing turned t.others)
    ];
    odd_image = t.others 1 (λ e. absurd (omega (arith, e))) (λ e. absurd (omega (arith, e)));
    odd_journal = t.others 3 (λ e. absurd (omega (arith, e))) (λ e. absurd (omega (arith, e)));
  }

  pub create_runs : (old mid new : Disk) → Runs Same old mid → IsSafe mid → HoldsNothing mid.reads
      → Runs (IsTurning 0 piece) mid new → Runs (IsCreated network image) old new
  create_runs old mid new first safe nothing turns =
      onward {first = Same} {second = IsTurning 0 piece} {both = IsCreated network image} old mid new
      (λ d e f may may_mid same step.
      let was : d ≡ mid.reads = sym same ∙ safe e may_mid in
      inr (made d f (subst HoldsNothing (sym was) nothing) (subst (λ x. IsTurning 0 piece x f) same step)))
      (λ d e same. inl same) first turns

  pub create_settled : (next : StoreState) (old new : Disk) → HoldsNothing old.reads
      → IsTurned 0 piece old.reads new.reads → IsSafe new
      → next ≡ record { epoch = 0; end = 0; network = network; failed = false }
      → IsSettled next new (first_kept network image)
  create_settled next old new nothing turned safe same =
      subst (λ (x : StoreState). IsSettled x new (first_kept network image)) (sym same) (record {
        safe = safe;
        holds = first_holds old.reads new.reads nothing turned.here turned.others;
        epoch = refl;
        end = refl;
        network = refl;
        working = refl;
      })
