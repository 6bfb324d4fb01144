use Rattle.std.proofs.Common.{◌≡◌, ap, ◌∙◌, pos, unsigned_abs, ◌+◌, ◌<◌, ◌^◌, arith, w64}
use Rattle.std.proofs.lemmas.Int.{ints, to_z_pos, to_z-of_z}
use Rattle.pool_math.specs.Pools.{given_for}
use Rattle.pool_math.proofs.SwapLaws.{given_as, given_left, given_swapped}
use Rattle.pool_math.proofs.swaps.given_for.Goals as goal

pub returns-in-Some-clause-value : goal.returns-in-Some-clause-value
returns-in-Some-clause-value c =
    let x = unsigned_abs c.args.x in
    let y = unsigned_abs c.args.y in
    let put = unsigned_abs c.args.put in
    let same_x = to_z-of_z w64 c.args.x c.ranges.x in
    let same_y = to_z-of_z w64 c.args.y c.ranges.y in
    let same_put = to_z-of_z w64 c.args.put c.ranges.put in
    let quotient = rw (same_y, same_put) at c.in-Some.ensures in
    let is : c.in-Some.given ≡ pos (given_for x y put) = quotient.1 ∙ ap pos (given_as x y put
    (c.in_parts.result + c.in_parts-2.result)
    (omega (arith, ap unsigned_abs same_x, ap unsigned_abs same_put, c.in_parts.ensures, c.in_parts-2.ensures))) in
    let small : given_for x y put < 2 ^ 63 = omega
    (arith, ints, given_left x y put (omega (arith, ints)) (omega (arith, ints))) in
    rw is (to_z_pos w64 (given_for x y put) small)

pub returns-in-Some-clause-swapped : goal.returns-in-Some-clause-swapped
returns-in-Some-clause-swapped c = given_swapped (unsigned_abs c.args.x) (unsigned_abs c.args.y)
    (unsigned_abs c.args.put) (omega (arith, ints)) (omega (arith, ints))

pub returns-in-None-clause-value : goal.returns-in-None-clause-value
returns-in-None-clause-value c =
    let x = unsigned_abs c.args.x in
    let y = unsigned_abs c.args.y in
    let put = unsigned_abs c.args.put in
    let same_x = to_z-of_z w64 c.args.x c.ranges.x in
    let same_y = to_z-of_z w64 c.args.y c.ranges.y in
    let same_put = to_z-of_z w64 c.args.put c.ranges.put in
    let small : given_for x y put < 2 ^ 63 = omega
    (arith, ints, given_left x y put (omega (arith, ints)) (omega (arith, ints))) in
    let too_large = rw (same_y, same_put) at c.in-None.ensures in
    absurd (too_large (rw (given_as x y put (c.in_parts.result + c.in_parts-2.result)
    (omega (arith, ap unsigned_abs same_x, ap unsigned_abs same_put, c.in_parts.ensures, c.in_parts-2.ensures))) small))

pub returns-in-None-clause-swapped : goal.returns-in-None-clause-swapped
returns-in-None-clause-swapped c = given_swapped (unsigned_abs c.args.x) (unsigned_abs c.args.y)
    (unsigned_abs c.args.put) (omega (arith, ints)) (omega (arith, ints))
