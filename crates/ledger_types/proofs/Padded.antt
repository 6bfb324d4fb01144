-- Bytes before zeros.
use Rattle.std.proofs.Common.{◌≡◌, ℕ, zero, suc, ◌+◌, ◌-◌, ◌≤◌, List, [], ◌∷◌, ◌++◌, length, take, drop, replicate}
use Rattle.std.proofs.Common.{ap, ◌∙◌, arith}
use Rattle.std.proofs.lemmas.List.{length-append, length-replicate, drop-replicate}
use Rattle.std.proofs.Math.Seq.{drop-append_seam}
use Rattle.item_list.specs.Bytes.{IsBytes}
use Rattle.ledger_types.specs.Bytes.{IsPadded}

zeros_are_bytes : (n : ℕ) → IsBytes (replicate n 0)
zeros_are_bytes zero i = omega arith
zeros_are_bytes (suc n) zero = omega arith
zeros_are_bytes (suc n) (suc i) = zeros_are_bytes n i

both_are_bytes : (text rest : List ℕ) → IsBytes text → IsBytes rest → IsBytes (text ++ rest)
both_are_bytes [] rest f g i = g i
both_are_bytes (x ∷ xs) rest f g zero = f 0
both_are_bytes (x ∷ xs) rest f g (suc i) = both_are_bytes xs rest (λ j. f (suc j)) g i

pub prefix_is_bytes : (n : ℕ) (bytes : List ℕ) → IsBytes bytes → IsBytes (take n bytes)
prefix_is_bytes zero bytes f i = omega arith
prefix_is_bytes (suc n) [] f i = omega arith
prefix_is_bytes (suc n) (x ∷ xs) f zero = f 0
prefix_is_bytes (suc n) (x ∷ xs) f (suc i) = prefix_is_bytes n xs (λ j. f (suc j)) i

-- a text written over the first of 64 zeros
pub written_over_zeros : (text : List ℕ) → length text ≤ 64 → IsBytes text
    → IsPadded (text ++ drop {A = ℕ} (length text) (replicate {A = ℕ} 64 0)) (length text)
written_over_zeros text le bytes =
    let zeros : List ℕ = replicate (64 - length text) 0 in
    let left : drop {A = ℕ} (length text) (replicate {A = ℕ} 64 0) ≡ zeros = drop-replicate (length text) 64 0 in
    rw left (record {
      fits = le;
      full = length-append text (replicate (64 - length text) 0)
          ∙ ap (λ k. length text + k) (length-replicate (64 - length text) 0) ∙ omega arith;
      zeros = drop-append_seam text (replicate (64 - length text) 0);
      bytes = both_are_bytes text (replicate (64 - length text) 0) bytes (zeros_are_bytes (64 - length text));
    })
