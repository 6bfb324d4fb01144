use Rattle.tally.proofs.Prelude.{◌≡◌, sym, ap, subst, ◌∙◌, rules, to_z, of_z, to_z-of_z, FitsSigned, pos, ◌+ℤ◌, w128}
use Rattle.tally.proofs.Prelude.{key_of, IsNextAfter, part, held, sum_after}
use Rattle.tally.proofs.Walking.{sum_next, none_after, first_part, at_the_end}
use Rattle.tally.proofs.Walking.{sum_fits, still_low, still_high}
use Rattle.tally.proofs.walk.supply.Goals as goal
use Rattle.tally.proofs.Walking.{moved_sum_goes_on}

pub returns-in_default : goal.returns-in_default
returns-in_default g c entire =
    let m = c.args.entries.now.current in
    let f = held c.args.asset.now in
    let none : sum_after f m c.loop.last ≡ pos 0 =
    none_after f m c.loop.last (subst (IsNextAfter m c.loop.last) c.in_default.is c.in_ok-entry.ensures) in
    let fits : FitsSigned w128 c.held_if-sum.result = search rules in
    let start : to_z w128 (of_z w128 c.held_if-sum.result) ≡ part f c.in_ok-get.field-0 =
    to_z-of_z w128 c.held_if-sum.result fits ∙ c.held_if-sum.ensures.value in
    at_the_end _ _ _ _ _ _ c.loop.invariant.0 none start
    (first_part f m entire c.first_key-last.result c.in_ok-get.field-0 c.first_key-last.ensures
    c.in_ok-get.ensures.found)

pub loop-preserved : goal.loop-preserved
loop-preserved g c =
    let m = c.args.entries.now.current in
    let f = held c.args.asset.now in
    let next = sum_next f m c.loop.last c.in-Some.entry
    (subst (IsNextAfter m c.loop.last) c.in-Some.is c.in_ok-entry.ensures) in
    let moved : sum_after f m c.in_ok-last.last ≡ sum_after f m (key_of c.in-Some.entry) =
    ap (sum_after f m) c.in_ok-last.ensures in
    let s = to_z w128 c.loop.sum-bits in
    let more = c.held_in.result in
    let holds = c.held_in.ensures in
    let goes = c.loop.invariant in
    let fits : FitsSigned w128 more = search rules in
    let sum_is : to_z w128 (of_z w128 (s +ℤ to_z w128 (of_z w128 more))) ≡ (s +ℤ more) =
    ap (λ x. to_z w128 (of_z w128 (s +ℤ x))) (to_z-of_z w128 more fits)
    ∙ to_z-of_z w128 (s +ℤ more)
    (sum_fits s more c.loop.counter c.loop-test.true goes.1 goes.2 holds.low holds.high) in (
      moved_sum_goes_on s more _ _ _ _ _ sum_is goes.0
          (next ∙ ap (λ x. f c.in-Some.entry +ℤ x) (sym moved)) holds.value,
      still_low s more _ c.loop.counter sum_is goes.1 holds.low,
      still_high s more _ c.loop.counter sum_is goes.2 holds.high,
    )
