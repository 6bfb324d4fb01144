-- The word of an epoch: its format, and its epoch. And where an image begins.
use Rattle.image_store.proofs.Prelude.{◌≡◌, ◌≢◌, refl, ap, ◌∙◌, ℕ, ◌+◌, ◌-◌, ◌<◌, ◌≤◌, ◌^◌, inl, inr, arith, cases_eq}
use Rattle.image_store.proofs.Prelude.{eq-eqb, le-ltb, lt-ltb, ne_eqb, if◌then◌else◌, head_len, top_bit, format_of}
use Rattle.image_store.proofs.Prelude.{epoch_of, image_offset}

-- ---- the top bit

pub top_is : top_bit ≡ 2 ^ 63
unfolding top_bit
top_is = refl

pub format_low : (word : ℕ) → word < 2 ^ 63 → format_of word ≡ 1
unfolding format_of
format_low word low = ap (λ t. if t then 1 else 2) (lt-ltb word top_bit (omega (arith, low, top_is)))

pub format_high : (word : ℕ) → 2 ^ 63 ≤ word → format_of word ≡ 2
unfolding format_of
format_high word high = ap (λ t. if t then 1 else 2) (le-ltb word top_bit (omega (arith, high, top_is)))

pub epoch_low : (word : ℕ) → word < 2 ^ 63 → epoch_of word ≡ word
unfolding epoch_of top_bit
epoch_low word low = omega (arith, low)

pub epoch_high : (word : ℕ) → 2 ^ 63 ≤ word → word < 2 ^ 64 → epoch_of word ≡ word - 2 ^ 63
unfolding epoch_of top_bit
epoch_high word high below = omega (arith, high, below)

pub epoch_below : (word : ℕ) → epoch_of word < top_bit
unfolding epoch_of top_bit
epoch_below word = omega arith

-- ---- a word with its top bit

pub two_format : (epoch : ℕ) → format_of (top_bit + epoch) ≡ 2
two_format epoch = format_high (top_bit + epoch) (omega (arith, top_is))

pub two_epoch : (epoch : ℕ) → epoch < top_bit → epoch_of (top_bit + epoch) ≡ epoch
two_epoch epoch low =
    epoch_high (top_bit + epoch) (omega (arith, top_is)) (omega (arith, low, top_is)) ∙ omega (arith, top_is)

pub two_fits : (epoch : ℕ) → epoch < top_bit → top_bit + epoch < 256 ^ 8
two_fits epoch low = omega (arith, low, top_is)

-- ---- where an image begins

pub offset_two : (format : ℕ) → format ≡ 2 → image_offset format ≡ head_len + 32
unfolding image_offset
offset_two format is = ap (λ t. if t then head_len + 32 else head_len) (eq-eqb format 2 is)

pub offset_other : (format : ℕ) → format ≢ 2 → image_offset format ≡ head_len
unfolding image_offset
offset_other format other = ap (λ t. if t then head_len + 32 else head_len) (ne_eqb format 2 other)

pub offset_after_head : (format : ℕ) → head_len ≤ image_offset format
offset_after_head format = elim (cases_eq format 2) [
  | inl is ↦ omega (arith, offset_two format is)
  | inr other ↦ omega (arith, offset_other format other)
]
