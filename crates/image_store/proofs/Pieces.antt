-- What is written after the gate of an image file, and what is read of it.
use Rattle.image_store.proofs.Prelude as prelude
use prelude.{◌≡◌, refl, sym, ap, subst, ◌∙◌, ℕ, zero, suc, ◌+◌, ◌-◌, ◌<◌, ◌≤◌, ◌^◌, List, [], ◌∷◌, ◌++◌, length, take}
use prelude.{drop, length-append, arith, slice_index, pos, drop-append_seam, take-append_seam, append_assoc, append-nil}
use prelude.{drop-drop, length-drop, big_number, big_bytes, length-bytes_high_first, big_number-reads_back, IsBytes}
use prelude.{StartImage, file, files, start_image, sha256, length-sha256, top_bit, format_of, epoch_of, image_offset}
use prelude.{word_in, format_in, epoch_in, room, network_in, length_in, digest_in, image_in, IsOpen, IsSized, IsHashed}
use prelude.{after_gate, drop_at, take_at}
use Rattle.image_store.proofs.Words.{two_format, two_epoch, two_fits, offset_two}
use Rattle.xdr_core.specs.Combinators.{constant}
use Rattle.xdr_core.specs.Leaves.{u64, mark, mark_word}
use Rattle.xdr_core.specs.Xdr.{tag}
use Rattle.xdr_core.proofs.Steps.{IsBytes-drop, IsBytes-take}

-- ---- two texts, one after the other

pub first_bytes : (xs ys : List ℕ) → IsBytes (xs ++ ys) → IsBytes xs
first_bytes xs ys fits = subst IsBytes (take-append_seam xs ys) (IsBytes-take (length xs) (xs ++ ys) fits)

pub last_bytes : (xs ys : List ℕ) → IsBytes (xs ++ ys) → IsBytes ys
last_bytes xs ys fits = subst IsBytes (drop-append_seam xs ys) (IsBytes-drop (length xs) (xs ++ ys) fits)

reads_back : (n : ℕ) → n < 256 ^ 8 → big_number 8 (big_bytes 8 n) ≡ n
reads_back n fits = ap (big_number 8) (sym (append-nil (big_bytes 8 n))) ∙ big_number-reads_back 8 n [] fits

-- ---- the length and the hash of an image are put where there was room for them

pub room_forty : length room ≡ 40
unfolding room
room_forty = refl

module _ (piece front rest measures image written first digest : List ℕ) (long : 80 ≤ length piece)
    (front_is : front ≡ take 40 piece) (rest_is : rest ≡ drop 40 piece) (measures_is : measures ≡ take 40 rest)
    (image_is : image ≡ drop 40 rest) (written_is : written ≡ big_bytes 8 (length image) ++ drop 8 measures)
    (first_is : first ≡ take 8 written) (digest_is : digest ≡ sha256 image) where
  image_all : image ≡ drop 80 piece
  image_all = image_is ∙ ap (drop 40) rest_is ∙ drop-drop 40 40 piece

  image_len : length image ≡ length piece - 80
  image_len = ap length image_all ∙ length-drop 80 piece

  first_all : first ≡ big_bytes 8 (length piece - 80)
  first_all = first_is ∙ ap (take 8) written_is
      ∙ take_at (big_bytes 8 (length image)) (drop 8 measures) 8 (length-bytes_high_first 8 (length image))
      ∙ ap (big_bytes 8) image_len

  pub measured : front ++ (first ++ digest ++ image)
      ≡ take 40 piece ++ big_bytes 8 (length piece - 80) ++ sha256 (drop 80 piece) ++ drop 80 piece
  measured = sym (append_assoc front (first ++ digest) image)
      ∙ ap (λ l. l ++ image) (sym (append_assoc front first digest))
      ∙ (λ i. front_is i ++ first_all i ++ (digest_is ∙ ap sha256 image_all) i ++ image_all i)

-- ---- the piece

module _ (epoch : ℕ) (network bytes : List ℕ) (long : length network ≡ 32) where
  abbrev E : List ℕ
  E = big_bytes 8 (top_bit + epoch)

  abbrev L : List ℕ
  L = big_bytes 8 (length bytes)

  abbrev D : List ℕ
  D = sha256 bytes

  abbrev piece : List ℕ
  piece = after_gate epoch network bytes

  eight : (n : ℕ) → length (big_bytes 8 n) ≡ 8
  eight n = length-bytes_high_first 8 n

  two_len : length (E ++ network) ≡ 40
  two_len = omega (arith, length-append E network, eight (top_bit + epoch), long)

  -- what has room for a length and a hash after that
  room_len : length ((E ++ network) ++ room) ≡ 80
  room_len = omega (arith, length-append (E ++ network) room, two_len, room_forty)

  three_len : length ((E ++ network) ++ L) ≡ 48
  three_len = omega (arith, length-append (E ++ network) L, two_len, eight (length bytes))

  four_len : length (((E ++ network) ++ L) ++ D) ≡ 80
  four_len = omega (arith, length-append ((E ++ network) ++ L) D, three_len, length-sha256 bytes)

  all_len : length piece ≡ 80 + length bytes
  all_len = omega (arith, length-append (((E ++ network) ++ L) ++ D) bytes, four_len)

  module _ (old : List ℕ) (is : old ≡ (E ++ network) ++ room ++ bytes) where
    old_len : length old ≡ 80 + length bytes
    old_len = omega (
      arith,
      ap length is,
      length-append ((E ++ network) ++ room) bytes,
      room_len,
    )

    pub long_enough : 80 ≤ length old
    long_enough = omega (arith, old_len)

    -- the length and the hash were put where there was room for them
    pub patched : (new : List ℕ)
        → new ≡ take 40 old ++ big_bytes 8 (length old - 80) ++ sha256 (drop 80 old) ++ drop 80 old → new ≡ piece
    patched new put =
        let len : length old - 80 ≡ length bytes = omega (arith, old_len) in
        let head : take 40 old ≡ E ++ network = ap (take 40) (is ∙ append_assoc (E ++ network) room bytes)
        ∙ take_at (E ++ network) (room ++ bytes) 40 two_len in
        let rest : drop 80 old ≡ bytes =
        ap (drop 80) is ∙ drop_at ((E ++ network) ++ room) bytes 80 (room_len) in
        put ∙ (λ i. head i ++ big_bytes 8 (len i) ++ sha256 (rest i) ++ rest i)

  -- what an image file says that has the piece after an open gate
  pub record Says (text : List ℕ) : Type 0 where
    pub opened : IsOpen text
    pub format_is : format_in text ≡ 2
    pub epoch_is : epoch_in text ≡ epoch
    pub network_is : network_in text ≡ record { 0 = network }
    pub sized : IsSized text
    pub hashed : IsHashed text
    pub image_is : image_in text ≡ bytes

  by_three : piece ≡ ((E ++ network) ++ L) ++ (D ++ bytes)
  by_three = append_assoc ((E ++ network) ++ L) D bytes

  by_two : piece ≡ (E ++ network) ++ (L ++ (D ++ bytes))
  by_two = by_three ∙ append_assoc (E ++ network) L (D ++ bytes)

  by_one : piece ≡ E ++ (network ++ (L ++ (D ++ bytes)))
  by_one = by_two ∙ append_assoc E network (L ++ (D ++ bytes))

  module _ (text : List ℕ) (is : text ≡ 1 ∷ piece) where
    said_word : epoch < top_bit → word_in text ≡ top_bit + epoch
    said_word low = ap (λ t. big_number 8 (take 8 (drop 1 t))) is
        ∙ ap (λ t. big_number 8 (take 8 t)) by_one
        ∙ ap (big_number 8) (take_at E (network ++ (L ++ (D ++ bytes))) 8 (eight (top_bit + epoch)))
        ∙ reads_back (top_bit + epoch) (two_fits epoch low)

    said_network : network_in text ≡ record { 0 = network }
    said_network = ap (λ t. record { 0 = t }) (ap (λ t. take 32 (drop 9 t)) is
        ∙ ap (λ t. take 32 (drop 8 t)) by_one
        ∙ ap (take 32) (drop_at E (network ++ (L ++ (D ++ bytes))) 8 (eight (top_bit + epoch)))
        ∙ take_at network (L ++ (D ++ bytes)) 32 long)

    said_len : length bytes < 256 ^ 8 → length_in text ≡ length bytes
    said_len fits = ap (λ t. big_number 8 (take 8 (drop 41 t))) is
        ∙ ap (λ t. big_number 8 (take 8 t))
        (ap (drop 40) by_two ∙ drop_at (E ++ network) (L ++ (D ++ bytes)) 40 two_len)
        ∙ ap (big_number 8) (take_at L (D ++ bytes) 8 (eight (length bytes))) ∙ reads_back (length bytes) fits

    said_digest : digest_in text ≡ D
    said_digest = ap (λ t. take 32 (drop 49 t)) is
        ∙ ap (take 32) (ap (drop 48) by_three ∙ drop_at ((E ++ network) ++ L) (D ++ bytes) 48 three_len)
        ∙ take_at D bytes 32 (length-sha256 bytes)

    said_image : image_offset (format_in text) ≡ 81 → image_in text ≡ bytes
    said_image at = ap (λ n. drop n text) at ∙ ap (drop 81) is
        ∙ drop_at (((E ++ network) ++ L) ++ D) bytes 80 four_len

    pub says : epoch < top_bit → length bytes < 256 ^ 8 → Says text
    says low fits =
        let word = said_word low in
        let format : format_in text ≡ 2 = ap format_of word ∙ two_format epoch in
        let at : image_offset (format_in text) ≡ 81 = offset_two (format_in text) format in
        let image = said_image at in
        record {
          opened = record { long = omega (arith, ap length is, all_len); gate = ap (λ t. slice_index t 0) is };
          format_is = format;
          epoch_is = ap epoch_of word ∙ two_epoch epoch low;
          network_is = said_network;
          sized = omega (arith, ap length is, all_len, said_len fits, at);
          hashed = λ _. said_digest ∙ ap sha256 (sym image);
          image_is = image;
        }

-- ---- an image whose encoding is of bytes is of bytes

file_sized : (max : ℕ) (v : List ℕ) → IsBytes ((file max).encoding v) → (file max).sized v
unfolding file
file_sized max v fits = last_bytes (u64.encoding (length v)) v fits

files_sized : (n left : ℕ) (vs : List (List ℕ)) → (files n left).within vs → IsBytes ((files n left).encoding vs)
    → (files n left).sized vs
unfolding files
files_sized zero left vs within fits = tt
files_sized (suc n) left [] within fits = absurd within.0
files_sized (suc n) left (v ∷ vs) within fits = (
  file_sized left v (first_bytes ((file left).encoding v) ((files n (left - length v)).encoding vs) fits),
  files_sized n (left - length v) vs within.1.1
      (last_bytes ((file left).encoding v) ((files n (left - length v)).encoding vs) fits),
)

pub image_sized : (image : StartImage) → start_image.within image → IsBytes (start_image.encoding image)
    → start_image.sized image
unfolding start_image mark constant
image_sized image within fits =
    let after = last_bytes ((tag (pos 0x534C4931)).encoding tt)
    ((mark 16777216).encoding image.header ++ (files 22 536870912).encoding image.files) fits in (
      tt,
      (
        last_bytes (big_bytes 4 (mark_word (length image.header))) image.header
            (first_bytes ((mark 16777216).encoding image.header) ((files 22 536870912).encoding image.files) after),
        files_sized 22 536870912 image.files within.1.1
            (last_bytes ((mark 16777216).encoding image.header) ((files 22 536870912).encoding image.files) after),
      ),
    )
