use Rattle.tx_apply.proofs.Prelude.{◌<◌, ◌≤ℤ◌, length, get_or, ◌∙◌, rules, FitsSigned, w64, to_z-of_z, greatest_i64}
use Rattle.tx_apply.proofs.TakenFees.{step_to, fits_pool, finished_by, summed}
use Rattle.tx_apply.proofs.fees.take_fees.Goals as goal

pub loop-i-preserved : goal.loop-i-preserved
loop-i-preserved g c =
    let there : get_or c.args.order.now c.loop-i.i 0 < length c.args.envelopes.now = search rules in
    let fits : FitsSigned w64 c.in_ok-fee.fee = search rules in
    let sum_fits : FitsSigned w64 c.more-fee_pool.result = search rules in (
      step_to c.transaction_laws.ensures _ c.args.header.now c.args.envelopes.now c.args.order.now c.args.fees.now
          c.loop-i.fees c.args.entries.now c.loop-i.entries _ c.loop-i.i c.index-envelopes-order.result
          c.take_next_fee.new.entries c.take_next_fee.new.fees _ c.loop-i.invariant.0 c.loop-i-test.true there
          c.index-envelopes-order.is c.in_ok-fee.ensures.entries c.in_ok-fee.ensures.fees
          (summed _ _ _ _ _ _ (to_z-of_z w64 c.more-fee_pool.result sum_fits) c.more-fee_pool.ensures
          (to_z-of_z w64 c.in_ok-fee.fee fits) c.in_ok-fee.ensures.fee),
      search rules,
    )

pub more-fee_pool-requires-clause-fits : goal.more-fee_pool-requires-clause-fits
more-fee_pool-requires-clause-fits g c =
    let there : get_or c.args.order.now c.loop-i.i 0 < length c.args.envelopes.now = search rules in
    let fits : FitsSigned w64 c.in_ok-fee.fee = search rules in
    let top : c.args.header.now.total_coins ≤ℤ greatest_i64 = search rules in
    fits_pool c.transaction_laws.ensures _ c.args.header.now c.args.envelopes.now c.args.order.now c.args.fees.now
    c.loop-i.fees c.args.entries.now c.loop-i.entries _ c.loop-i.i c.index-envelopes-order.result _
    c.loop-i.invariant.0 c.loop-i-test.true there c.index-envelopes-order.is
    (to_z-of_z w64 c.in_ok-fee.fee fits ∙ c.in_ok-fee.ensures.fee) top

pub returns-clause-fees : goal.returns-clause-fees
returns-clause-fees g c =
    let fits : FitsSigned w64 c.args.base_fee = search rules in
    (finished_by c.args.base_fee _ c.args.header.now c.args.envelopes.now c.args.order.now c.args.fees.now
    c.loop-i.fees c.args.entries.now c.loop-i.entries _ c.loop-i.i (to_z-of_z w64 c.args.base_fee fits)
    c.loop-i.invariant.0 (search rules)).fees

pub returns-clause-entries : goal.returns-clause-entries
returns-clause-entries g c =
    let fits : FitsSigned w64 c.args.base_fee = search rules in
    (finished_by c.args.base_fee _ c.args.header.now c.args.envelopes.now c.args.order.now c.args.fees.now
    c.loop-i.fees c.args.entries.now c.loop-i.entries _ c.loop-i.i (to_z-of_z w64 c.args.base_fee fits)
    c.loop-i.invariant.0 (search rules)).entries

pub returns-clause-fee_pool : goal.returns-clause-fee_pool
returns-clause-fee_pool g c =
    let fits : FitsSigned w64 c.args.base_fee = search rules in
    (finished_by c.args.base_fee _ c.args.header.now c.args.envelopes.now c.args.order.now c.args.fees.now
    c.loop-i.fees c.args.entries.now c.loop-i.entries _ c.loop-i.i (to_z-of_z w64 c.args.base_fee fits)
    c.loop-i.invariant.0 (search rules)).fee_pool
