use Rattle.std.proofs.Common.{unsigned_abs, arith, w64}
use Rattle.std.proofs.lemmas.Int.{ints, to_z-of_z}
use Rattle.pool_math.proofs.SwapLaws.{taken_as, taken_swapped}
use Rattle.pool_math.proofs.swaps.taken_for.Goals as goal

pub returns-clause-value : goal.returns-clause-value
returns-clause-value c =
    let same_x = to_z-of_z w64 c.args.x c.ranges.x in
    let same_want = to_z-of_z w64 c.args.want c.ranges.want in
    let quotient = rw (same_x, same_want) at c.scaled_div.ensures in
    rw (taken_as (unsigned_abs c.args.x) (unsigned_abs c.args.y) (unsigned_abs c.args.want) c.in_parts.result
    (omega (arith, ints, c.in_parts.ensures))) at quotient

pub returns-clause-swapped : goal.returns-clause-swapped
returns-clause-swapped c = taken_swapped (unsigned_abs c.args.x) (unsigned_abs c.args.y) (unsigned_abs c.args.want)
    (omega (arith, ints))
