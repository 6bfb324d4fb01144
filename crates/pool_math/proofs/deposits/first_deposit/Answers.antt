use Rattle.std.proofs.Common.{◌<◌, ◌^◌, arith, rules, w64}
use Rattle.std.proofs.lemmas.Int.{ints, to_z_pos, to_z-of_z}
use Rattle.pool_math.proofs.DepositLaws.{root_small}
use Rattle.pool_math.proofs.deposits.first_deposit.Goals as goal

pub overflow_cast-result : goal.overflow_cast-result
overflow_cast-result c =
    let small : c.isqrt.result < 2 ^ 63 = root_small c.isqrt.result c.unsigned_abs.result c.unsigned_abs-2.result
    (omega (arith, ints)) (omega (arith, ints)) c.isqrt.ensures.root.0 in
    search rules

pub returns-clause-shares : goal.returns-clause-shares
returns-clause-shares c =
    let small : c.isqrt.result < 2 ^ 63 = root_small c.isqrt.result c.unsigned_abs.result c.unsigned_abs-2.result
    (omega (arith, ints)) (omega (arith, ints)) c.isqrt.ensures.root.0 in
    let root = rw (
      c.unsigned_abs.ensures.value,
      c.unsigned_abs-2.ensures.value,
      to_z-of_z w64 c.args.max_a c.ranges.max_a,
      to_z-of_z w64 c.args.max_b c.ranges.max_b,
    )
    at c.isqrt.ensures.root in
    rw (to_z_pos w64 c.isqrt.result small) root

pub returns-clause-function : goal.returns-clause-function
returns-clause-function c =
    let small : c.isqrt.result < 2 ^ 63 = root_small c.isqrt.result c.unsigned_abs.result c.unsigned_abs-2.result
    (omega (arith, ints)) (omega (arith, ints)) c.isqrt.ensures.root.0 in
    let function = rw (
      c.unsigned_abs.ensures.value,
      c.unsigned_abs-2.ensures.value,
      to_z-of_z w64 c.args.max_a c.ranges.max_a,
      to_z-of_z w64 c.args.max_b c.ranges.max_b,
    )
    at c.isqrt.ensures.function in
    rw (to_z_pos w64 c.isqrt.result small) function

pub returns-clause-unsigned : goal.returns-clause-unsigned
returns-clause-unsigned c =
    let small : c.isqrt.result < 2 ^ 63 = root_small c.isqrt.result c.unsigned_abs.result c.unsigned_abs-2.result
    (omega (arith, ints)) (omega (arith, ints)) c.isqrt.ensures.root.0 in
    search rules
