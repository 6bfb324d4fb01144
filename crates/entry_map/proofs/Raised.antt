-- Bytes of which one is raised come later.
use Rattle.entry_map.proofs.Prelude.{◌≡◌, ap, sym, ◌∙◌, arith, length, List, [], ◌∷◌, ◌<◌, Less, Equal, ordering_then}
use Rattle.std.proofs.Common.{ℕ, suc, zero, get_or}
use Rattle.std.proofs.Math.ListN.{set}
use Rattle.std.specs.Ordering.{nat_cmp}
use Rattle.std.specs.Cmp.{nat_cmp_is}
use Rattle.std.specs.Cmp.Lexicographic.{slice_cmp}

nat_itself : (x : ℕ) → nat_cmp x x ≡ Equal
nat_itself x = sym (nat_cmp_is x x Equal (omega arith))

pub raised : (xs : List ℕ) (i v : ℕ) → i < length xs → get_or xs i 0 < v → slice_cmp nat_cmp xs (set xs i v) ≡ Less
raised [] i v within more = absurd (omega (arith, within))
raised (x ∷ xs) zero v within more =
    ap (λ r. ordering_then r (slice_cmp nat_cmp xs xs)) (sym (nat_cmp_is x v Less (omega (arith, more))))
raised (x ∷ xs) (suc i) v within more =
    ap (λ r. ordering_then r (slice_cmp nat_cmp xs (set xs i v))) (nat_itself x)
    ∙ raised xs i v (omega (arith, within)) more
