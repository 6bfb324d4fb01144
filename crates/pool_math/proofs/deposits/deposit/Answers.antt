use Rattle.std.proofs.Common.{sym, ap, ◌∙◌, arith, w64, to_z}
use Rattle.std.proofs.lemmas.Int.{ints, to_z-of_z}
use Rattle.pool_math.proofs.DepositLaws.{first_answers, later_answers}
use Rattle.pool_math.proofs.deposits.deposit.Goals as goal

pub returns-then-total-eq0 : goal.returns-then-total-eq0
returns-then-total-eq0 c =
    let first = c.first_deposit.ensures in
    let same_max_a = to_z-of_z w64 c.args.max_a c.ranges.max_a in
    let same_max_b = to_z-of_z w64 c.args.max_b c.ranges.max_b in
    first_answers c.args.a c.args.b c.args.total c.args.max_a c.args.max_b c.first_deposit.result
    (sym (to_z-of_z w64 c.args.total c.ranges.total) ∙ ap (to_z w64) c.if-total-eq0.true)
    c.requires.max_a c.requires.max_b c.requires.filled (rw (same_max_a, same_max_b) at first.shares)
    (rw (same_max_a, same_max_b) at first.function) first.unsigned
    (first.a ∙ same_max_a) (first.b ∙ same_max_b)

pub returns : goal.returns
returns c =
    let same_a = to_z-of_z w64 c.args.a c.ranges.a in
    let same_b = to_z-of_z w64 c.args.b c.ranges.b in
    let same_total = to_z-of_z w64 c.args.total c.ranges.total in
    let same_max_a = to_z-of_z w64 c.args.max_a c.ranges.max_a in
    let same_max_b = to_z-of_z w64 c.args.max_b c.ranges.max_b in
    later_answers c.args.a c.args.b c.args.total c.args.max_a c.args.max_b c.later_deposit.result (omega (arith, ints))
    (rw (
      c.unsigned_abs.ensures.value,
      c.unsigned_abs-2.ensures.value,
      c.unsigned_abs-3.ensures.value,
      c.unsigned_abs-4.ensures.value,
      c.unsigned_abs-5.ensures.value,
      same_a,
      same_b,
      same_total,
      same_max_a,
      same_max_b,
    )
    at c.later_deposit.ensures.value)
    (rw (
      c.unsigned_abs.ensures.value,
      c.unsigned_abs-2.ensures.value,
      c.unsigned_abs-3.ensures.value,
      c.unsigned_abs-4.ensures.value,
      c.unsigned_abs-5.ensures.value,
      same_a,
      same_b,
      same_total,
      same_max_a,
      same_max_b,
    )
    at c.later_deposit.ensures.fair)
