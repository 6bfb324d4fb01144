-- Square roots of whole numbers.
use Rattle.std.specs.Prelude.{ℕ, ◌+◌, ◌*◌, ◌<◌, ◌≤◌, zero, suc, nat_le, if◌then◌else◌}

-- the greatest number whose square is at most v
abbrev pub IsRoot : ℕ → ℕ → Type 0
IsRoot v root = (root * root ≤ v) × (v < (root + 1) * (root + 1))

-- the same as a function: the root of the number below, or one more where its square is at most v
unfoldable pub square_root : ℕ → ℕ
square_root zero = 0
square_root (suc v) =
    let below = square_root v in
    if nat_le ((below + 1) * (below + 1)) (suc v) then below + 1 else below
