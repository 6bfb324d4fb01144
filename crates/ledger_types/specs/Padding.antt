-- An array of 64 bytes is given back by those of its bytes that count.
use Rattle.std.specs.Prelude.{◌≡◌, ℕ, ◌-◌, List, ◌++◌, length, take, replicate}
use Rattle.std.proofs.Common.{ap, sym, ◌∙◌, arith, take-append-drop, length-take-le}
use Rattle.ledger_types.specs.Bytes.{padded, IsPadded}

pub length_again : {array : List ℕ} {len : ℕ} → IsPadded array len → length (take len array) ≡ len
length_again {array} {len} h = length-take-le len array (omega (arith, h.fits, h.full))

pub padded_again : {array : List ℕ} {len : ℕ} → IsPadded array len → padded (take len array) ≡ array
padded_again {array} {len} h =
    ap (λ k. take len array ++ replicate (64 - k) 0) (length_again h)
    ∙ ap (λ rest. take len array ++ rest) (sym h.zeros)
    ∙ take-append-drop len array
