-- When bytes are an image and nothing after it.
use Rattle.image_store.proofs.Prelude.{◌≡◌, ◌≢◌, sym, ap, subst, ◌∙◌, ℕ, ◌+◌, List, [], ◌++◌, length, drop, Ok, Err}
use Rattle.image_store.proofs.Prelude.{Result, Bool, true, false, nat_eq, length-append, arith, eq-eqb, eqb-true}
use Rattle.image_store.proofs.Prelude.{nil_from_length, take_all, length-drop, XdrFault, Position, Reading, start_of}
use Rattle.image_store.proofs.Prelude.{IsBytes, Encodes, StartImage, start_image, start_image_laws, end_by, image_end}
use Rattle.image_store.proofs.Prelude.{StoreFault, Head, image_offset, image_in, IsImage, IsHeadSized, ReportsComplete}
use Rattle.image_store.proofs.Prelude.{ReportsBytes, ReportsImage}
use Rattle.std.specs.Prelude.{take}
use Rattle.gate_journal.specs.declared.fault.StoreFault.TheVariants as fault

module _ (bytes : List ℕ) (fits : IsBytes bytes) (n : ℕ) (measured : image_end bytes ≡ Ok n) (image : StartImage)
    (end : Position) (reads : start_image.read (start_of bytes) ≡ Ok (image, end)) where
  encodes : Encodes start_image (start_of bytes) end image
  encodes = start_image_laws.lawful.takes (start_of bytes) end image fits reads

  ends_there : end.at ≡ n
  ends_there =
      let both : Ok end.at ≡ Ok n = sym (ap (λ (r : Reading XdrFault StartImage). end_by r) reads) ∙ measured in cc

  all_len : length bytes ≡ n + length end.rest
  all_len =
      let parts : length bytes ≡ length (start_image.encoding image ++ end.rest) = ap length encodes.taken.parts in
      let at : end.at ≡ 0 + length (start_image.encoding image) = encodes.taken.at in
      omega (arith, parts, length-append (start_image.encoding image) end.rest, at, ends_there)

  pub none_after : n ≡ length bytes → end.rest ≡ []
  none_after same = nil_from_length end.rest (omega (arith, same, all_len))

  pub ends_so : end.rest ≡ [] → n ≡ length bytes
  ends_so none = omega (arith, all_len, ap length none)

pub not_complete : (bytes : List ℕ) → IsBytes bytes → (n : ℕ) → image_end bytes ≡ Ok n → n ≢ length bytes
    → (image : StartImage) → IsImage bytes image → ⊥
not_complete bytes fits n measured other image (end, reads, none) =
    other (ends_so bytes fits n measured image end reads none)

pub complete_reported : (bytes : List ℕ) → IsBytes bytes → (n : ℕ) → image_end bytes ≡ Ok n → (t : Bool)
    → nat_eq n (length bytes) ≡ t → ReportsComplete bytes t
complete_reported bytes fits n measured true is = measured ∙ ap Ok (eqb-true n (length bytes) is)
complete_reported bytes fits n measured false is =
    not_complete bytes fits n measured (λ same. absurd (let same = eq-eqb n (length bytes) same in cc))

pub no_image : (bytes : List ℕ) (wrong : XdrFault) → image_end bytes ≡ Err wrong → (image : StartImage)
    → IsImage bytes image → ⊥
no_image bytes wrong measured image (end, reads, none) =
    let both : Ok end.at ≡ Err wrong = sym (ap (λ (r : Reading XdrFault StartImage). end_by r) reads) ∙ measured in
    absurd (cc)

-- what was read of a file from where its image begins is all that is there
pub all_after : (file bytes : List ℕ) (head : Head) → IsHeadSized file head
    → bytes ≡ take head.len (drop (image_offset head.format) file) → bytes ≡ image_in file
all_after file bytes head sized is = is
    ∙ take_all head.len (drop (image_offset head.format) file)
    (omega (arith, length-drop (image_offset head.format) file, sized.size))
    ∙ ap (λ format. drop (image_offset format) file) sized.format

pub reported_image : (number offset : ℕ) (file bytes : List ℕ) (answer : Result StartImage StoreFault)
    → bytes ≡ image_in file → ReportsBytes number offset bytes answer → ReportsImage number offset file answer
reported_image number offset file bytes (Ok image) is reported = subst (λ b. IsImage b image) is reported
reported_image number offset file bytes (Err (fault.BadStore bad at)) is reported =
    (reported.0, reported.1, subst (λ b. (image : StartImage) → IsImage b image → ⊥) is reported.2)
reported_image number offset file bytes (Err other) is reported = tt
