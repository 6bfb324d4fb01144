-- How far from 0 reserves may be.
use Rattle.reserve_rules.proofs.Prelude.{ℕ, suc, ◌^◌, ◌<◌, ℤ, pos, negsuc, neg_ℤ, ◌-ℤ◌, ◌*ℤ◌, ◌≤ℤ◌, arith, ints}
use Rattle.std.proofs.lemmas.Nat.{mul-le}

-- at most 2^35 reserves either way, of less than 2^32 stroops each
product_within : (count : ℤ) (reserve : ℕ) → neg_ℤ (pos (2 ^ 35)) ≤ℤ count → count ≤ℤ pos (2 ^ 35) → reserve < 2 ^ 32 →
    (neg_ℤ (pos (2 ^ 67)) ≤ℤ (count *ℤ pos reserve)) × ((count *ℤ pos reserve) ≤ℤ pos (2 ^ 67))
product_within (pos n) reserve low high small =
    let most = mul-le n reserve (2 ^ 35) (2 ^ 32) (omega (arith, ints)) (omega arith) in
    (omega (arith, ints, most), omega (arith, ints, most))
product_within (negsuc n) reserve low high small =
    let most = mul-le (suc n) reserve (2 ^ 35) (2 ^ 32) (omega (arith, ints)) (omega arith) in
    (omega (arith, ints, most), omega (arith, ints, most))

-- the same of less than 2^35 reserves less less than 2^32
pub within : (counted spared reserve : ℕ) → counted < 2 ^ 35 → spared < 2 ^ 32 → reserve < 2 ^ 32 →
    (neg_ℤ (pos (2 ^ 67)) ≤ℤ ((pos counted -ℤ pos spared) *ℤ pos reserve))
    × (((pos counted -ℤ pos spared) *ℤ pos reserve) ≤ℤ pos (2 ^ 67))
within counted spared reserve c s r = product_within (pos counted -ℤ pos spared) reserve (omega (arith, ints))
    (omega (arith, ints)) r
