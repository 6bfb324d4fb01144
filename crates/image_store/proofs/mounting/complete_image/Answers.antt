use Rattle.image_store.proofs.Prelude.{◌≡◌, subst, refl, Ok, List, ℕ, length, StartImage, image_end, IsImage}
use Rattle.image_store.proofs.Complete.{none_after}
use Rattle.image_store.proofs.mounting.complete_image.Goals as goal

pub returns-then-not-is_complete : goal.returns-then-not-is_complete
returns-then-not-is_complete c = (
  refl,
  refl,
  subst (λ b. (image : StartImage) → IsImage b image → ⊥) c.as_slice.ensures.value c.if-not-is_complete.ensures.entire,
)

pub returns-in-Ok : goal.returns-in-Ok
returns-in-Ok c =
    let bytes : List ℕ = c.args.bytes.items in
    let entire : image_end bytes ≡ Ok (length bytes) =
    subst (λ b. image_end b ≡ Ok (length b)) c.as_slice.ensures.value c.if-not-is_complete.ensures.entire in
    let taken = c.in-Ok.ensures.taken in (
      taken.after,
      taken.reads,
      none_after bytes c.in-Ok.ensures.fits (length bytes) entire c.in-Ok.image taken.after taken.reads refl,
    )
