-- When levels spill: where one does, so does each above it.
use Rattle.bucket_levels.proofs.Prelude.{◌≡◌, ℕ, zero, suc, ◌+◌, ◌-◌, ◌*◌, ◌%◌, ◌^◌, ◌<◌, ◌≤◌, Bool, true, false, eqb}
use Rattle.bucket_levels.proofs.Prelude.{ltb, refl, sym, ap, ◌∙◌, add-one, arith, ◌&&◌, eqb-true, ltb-true, lt-ltb}
use Rattle.bucket_levels.proofs.Prelude.{eq-eqb, pow-suc, one-le-pow, pow-le-pow_right, half, size, upper, spills}
use Rattle.bucket_levels.proofs.Prelude.{and_parts}
use Rattle.std.proofs.Math.Arith.{mod-mul}

pub upper_is : (i : ℕ) → 1 ≤ i → upper i ≡ i - 1
upper_is zero low = absurd (omega (arith, low))
upper_is (suc i) low = omega arith

-- a half is twice a power of 4
half_is : (i : ℕ) → half i ≡ 2 * 4 ^ i
half_is i =
    let power : 4 ^ (i + 1) ≡ 4 ^ i * 4 = ap (λ n. 4 ^ n) (add-one i) ∙ pow-suc 4 i in
    omega (arith, power)

pub half_is_positive : (i : ℕ) → 0 < half i
half_is_positive i = omega (arith, half_is i, one-le-pow i 4 (omega arith))

-- the powers of 4 up to the greatest half fit into 32 bits
pub size_fits : (i : ℕ) → i < 10 → size i < 2 ^ 32
size_fits i lt =
    let most : 4 ^ (i + 1) ≤ 4 ^ 10 = pow-le-pow_right {n = 4} (omega arith) {i = i + 1} {j = 10} (omega arith) in
    omega (arith, most)

-- a ledger that a half divides is divided by the half above it
divided_above : (seq i : ℕ) → seq % half (suc i) ≡ 0 → seq % half i ≡ 0
divided_above seq i e =
    let four : half (suc i) ≡ 4 * half i = omega (arith, half_is i, half_is (suc i), pow-suc 4 i) in
    let parts = mod-mul seq {m = 4} {c = half i} (omega arith) (half_is_positive i) in
    let entire : seq % (4 * half i) ≡ 0 = ap (λ n. seq % n) (sym four) ∙ e in
    omega (arith, parts, entire)

-- the deepest level never spills
pub spills_above : (i seq : ℕ) → spills i seq ≡ true → i < 10
spills_above i seq e = ltb-true i 10 (and_parts (ltb i 10) (eqb (seq % half i) 0) e).0

spills_higher : (i seq : ℕ) → spills (suc i) seq ≡ true → spills i seq ≡ true
spills_higher i seq e =
    let both = and_parts (ltb (suc i) 10) (eqb (seq % half (suc i)) 0) e in
    let low : i < 10 = omega (arith, ltb-true (suc i) 10 both.0) in
    let even = divided_above seq i (eqb-true (seq % half (suc i)) 0 both.1) in
    ap (λ b. b && eqb (seq % half i) 0) (lt-ltb i 10 low) ∙ eq-eqb (seq % half i) 0 even

still_below : (i seq : ℕ) (b : Bool) → spills (suc i) seq ≡ b → spills i seq ≡ false → spills (suc i) seq ≡ false
still_below i seq true e s = absurd (cc (spills_higher i seq e, s))
still_below i seq false e s = e

-- below a level that doesn't spill none does
pub none_spills_below : (i seq : ℕ) → spills i seq ≡ false → spills (suc i) seq ≡ false
none_spills_below i seq s = still_below i seq (spills (suc i) seq) refl s

-- the half of a level that spills divides the ledger
pub is_divided : (i seq : ℕ) → spills i seq ≡ true → seq % half i ≡ 0
is_divided i seq e = eqb-true (seq % half i) 0 (and_parts (ltb i 10) (eqb (seq % half i) 0) e).1

-- and that of another one, which isn't the deepest, doesn't
pub is_not_divided : (i seq : ℕ) → i < 10 → spills i seq ≡ false → seq % half i ≡ 0 → ⊥
is_not_divided i seq low e divided =
    let spilled : spills i seq ≡ true = ap (λ b. b && eqb (seq % half i) 0) (lt-ltb i 10 low)
    ∙ eq-eqb (seq % half i) 0 divided in
    absurd (cc (e, spilled))
