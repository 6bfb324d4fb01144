-- A filter with one key more.
use Rattle.std.proofs.Common.{◌≡◌, ◌<◌, ℕ, true, List, length, bit_and, bit_or, slice_index, slice_set}
use Rattle.std.proofs.Common.{sym, ap, ◌∙◌, arith, min, max, rules, get_or, set, eq-eqb, eqb-true, ◌/◌, ◌%◌, ◌^◌}
use Rattle.std.proofs.Math.Nat.{mod-lt}
use Rattle.std.proofs.lemmas.List.{get_or-set_other, length-set}
use Rattle.std.proofs.lemmas.Grind.{get_or-set_at}
use Rattle.std.proofs.lemmas.Nat.Bits.{bit_at_and, bit_at_or, same_from_bits}
use Rattle.std.specs.Int.{bit_at}
use Rattle.bucket_core.specs.Filter.{may_contain, slot, mask}

lesser : (a b c : ℕ) → min a c ≡ c → min (max a b) c ≡ c
lesser a b c h = omega (arith, h)

pub or_keeps : (w m n : ℕ) → bit_and w n ≡ n → bit_and (bit_or w m) n ≡ n
or_keeps w m n h = same_from_bits (bit_and (bit_or w m) n) n (λ i.
    bit_at_and (bit_or w m) n i ∙ ap (λ x. min x (bit_at n i)) (bit_at_or w m i)
    ∙ lesser (bit_at w i) (bit_at m i) (bit_at n i) (sym (bit_at_and w n i) ∙ ap (λ x. bit_at x i) h))

-- a word at one position has bits more
kept_at : (words : List ℕ) (i j m n : ℕ) → i < length words → bit_and (get_or words j 0) n ≡ n
    → bit_and (get_or (set words i (bit_or (get_or words i 0) m)) j 0) n ≡ n
kept_at words i j m n w h =
    let same : j ≡ i → bit_and (get_or (set words i (bit_or (get_or words i 0) m)) j 0) n ≡ n = λ e.
    ap (λ x. bit_and x n) (get_or-set_at words i j (bit_or (get_or words i 0) m) 0 e w)
    ∙ or_keeps (get_or words i 0) m n (ap (λ k. bit_and (get_or words k 0) n) (sym e) ∙ h) in
    let other : (j ≡ i → ⊥) → bit_and (get_or (set words i (bit_or (get_or words i 0) m)) j 0) n ≡ n = λ e.
    ap (λ x. bit_and x n) (get_or-set_other words i j (bit_or (get_or words i 0) m) 0 e) ∙ h in
    search (rules, same, other)

pub passes_still : (words : List ℕ) (h m other : ℕ) → 0 < length words → may_contain words other ≡ true
    → may_contain (slice_set words (slot words h) (bit_or (slice_index words (slot words h)) m)) other ≡ true
passes_still words h m other some p =
    let i = slot words h in
    let v = bit_or (get_or words i 0) m in
    eq-eqb _ _ (ap (λ n. bit_and (get_or (set words i v) (other / 2 ^ 32 % n) 0) (mask other)) (length-set words i v)
    ∙ kept_at words i (slot words other) m (mask other) (mod-lt (h / 2 ^ 32) some) (eqb-true _ _ p))
