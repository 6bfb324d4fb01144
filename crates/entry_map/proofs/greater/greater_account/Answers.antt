use Rattle.entry_map.proofs.Prelude.{◌≡◌, subst, arith, List, Less}
use Rattle.std.proofs.Common.{ℕ, ◌-◌}
use Rattle.std.proofs.Math.ListN.{set}
use Rattle.std.specs.Ordering.{nat_cmp}
use Rattle.std.specs.Cmp.Lexicographic.{slice_cmp}
use Rattle.entry_map.proofs.Raised.{raised}
use Rattle.entry_map.proofs.greater.greater_account.Goals as goal

pub returns-in-Some : goal.returns-in-Some
returns-in-Some c =
    let it = c.loop-index.invariant in
    let index = c.loop-index.index - 1 in
    subst (λ (xs : List ℕ). slice_cmp nat_cmp xs (set c.loop-index.bytes index c.in-Some.byte) ≡ Less) it.0
    (raised c.loop-index.bytes index c.in-Some.byte
    (omega (arith, it.1, c.loop-index-test.true, c.loop-index.auto.index))
    (omega (arith, c.in-Some.ensures)))
