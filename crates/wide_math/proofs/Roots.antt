-- That a number has one root, and that the function gives it.
use Rattle.std.proofs.Common.{◌≡◌, refl, ℕ, zero, suc, ◌+◌, ◌*◌, ◌<◌, ◌≤◌, true, false, arith}
use Rattle.std.proofs.Math.Nat.{mul-le-mul, lt_of_not-le}
use Rattle.std.proofs.lemmas.Bool.{leb-true, leb-false}
use Rattle.std.specs.Prelude.{nat_le, if◌then◌else◌}
use Rattle.wide_math.specs.Root.{IsRoot, square_root}

-- no root of a number is above another one
not_above : (v root other : ℕ) → IsRoot v root → IsRoot v other → root < other + 1
not_above v root other is also = lt_of_not-le (λ (above : other + 1 ≤ root). past (mul-le-mul above above))
  where
    past : (other + 1) * (other + 1) ≤ root * root → ⊥
    past most = omega (arith, is.0, also.1)

pub root_once : (v root other : ℕ) → IsRoot v root → IsRoot v other → root ≡ other
root_once v root other is also = omega (arith, not_above v root other is also, not_above v other root also is)

-- the root of the next number, by that of a number
next_root : (v below : ℕ) → IsRoot v below
    → IsRoot (suc v) (if nat_le ((below + 1) * (below + 1)) (suc v) then below + 1 else below)
next_root v below is =
    elim (nat_le ((below + 1) * (below + 1)) (suc v)) as (λ b. nat_le ((below + 1) * (below + 1)) (suc v) ≡ b
    → IsRoot (suc v) (if b then below + 1 else below)) [
      | true ↦ λ fits. grows (leb-true ((below + 1) * (below + 1)) (suc v) fits)
      | false ↦ λ past. stays (leb-false ((below + 1) * (below + 1)) (suc v) past)
    ] refl
  where
    grows : (below + 1) * (below + 1) ≤ suc v → IsRoot (suc v) (below + 1)
    grows fits = (fits, omega (arith, is.1))

    stays : suc v < (below + 1) * (below + 1) → IsRoot (suc v) below
    stays past = (omega (arith, is.0), past)

pub root_is : (v : ℕ) → IsRoot v (square_root v)
unfolding square_root
root_is zero = (omega arith, omega arith)
root_is (suc v) = next_root v (square_root v) (root_is v)

pub root_function : (v root : ℕ) → IsRoot v root → root ≡ square_root v
root_function v root is = root_once v root (square_root v) is (root_is v)
