use Rattle.tx_apply.proofs.Prelude.{ℕ, ◌+◌, ◌-◌, ◌*◌, ◌<◌, pos, length, get_or, sym, subst, rules, FitsSigned, w64}
use Rattle.tx_apply.proofs.Prelude.{to_z-of_z, TransactionEnvelope, operations_of, transaction_envelope, AreFit}
use Rattle.tx_apply.proofs.Prelude.{CanDraw, setting_of}
use Rattle.tx_apply.proofs.Applying.{step_to, finished}
use Rattle.tx_apply.proofs.Drawing.{ids_of_next, ids_of_others}
use Rattle.tx_apply.proofs.Placed.{same_inside}
use Rattle.tx_apply.proofs.Sound.{envelope_sound}
use Rattle.tx_apply.proofs.Encoded.{few_of}
use Rattle.tx_apply.proofs.set.apply_all.Goals as goal

pub apply_one-requires-clause-ids : goal.apply_one-requires-clause-ids
apply_one-requires-clause-ids g c =
    ids_of_next (length c.args.order.now) c.loop-i.i c.loop-i.id_pool c.loop-i-test.true c.loop-i.invariant.2

pub loop-i-preserved : goal.loop-i-preserved
loop-i-preserved g c =
    let there : get_or c.args.order.now c.loop-i.i 0 < length c.args.envelopes.now = search rules in
    let inside : c.loop-i.i < length c.args.fees.now = search rules in
    let fee = get_or c.args.fees.now c.loop-i.i (pos 0) in
    let fits : FitsSigned w64 fee = search rules in
    let fit : AreFit (operations_of c.index-envelopes-order.result) =
    subst (λ (entire : TransactionEnvelope). AreFit (operations_of entire)) (sym c.index-envelopes-order.is)
    (c.requires.fit (get_or c.args.order.now c.loop-i.i 0) c.index-envelopes-order.result there) in
    let setting = setting_of c.args.setting.now in
    let within : transaction_envelope.within c.index-envelopes-order.result =
    subst (λ (entire : TransactionEnvelope). transaction_envelope.within entire) (sym c.index-envelopes-order.is)
    (c.requires.within (get_or c.args.order.now c.loop-i.i 0) c.index-envelopes-order.result there) in
    let sound = envelope_sound c.transaction_laws.ensures setting c.loop-i.id_pool c.index-envelopes-order.result
    c.loop-i.entries.current c.loop-i.invariant.0.settled c.requires.seq fit in
    let described = c.in_ok-id_pool.ensures.results in (
      step_to setting c.args.setting.now.header.now.id_pool c.args.envelopes.now c.args.order.now c.args.fees.now
          c.args.results.now c.loop-i.results c.args.entries.now c.loop-i.entries c.loop-i.id_pool c.loop-i.i
          c.index-envelopes-order.result fee c.apply_one.new.entries c.apply_one.new.results c.in_ok-id_pool.id_pool
          c.loop-i.invariant.0 c.loop-i-test.true inside there c.index-envelopes-order.is
          (same_inside c.args.fees.now c.loop-i.i (pos 0) fee inside) c.in_ok-id_pool.ensures.entries
          (rw (sym (to_z-of_z w64 fee fits)) described) c.in_ok-id_pool.ensures.id_pool
          sound.left.settled,
      search rules,
      subst (λ (n : ℕ). CanDraw (100 * (length c.args.order.now - (c.loop-i.i + 1))) n)
          (sym c.in_ok-id_pool.ensures.id_pool)
          (ids_of_others (length c.args.order.now) c.loop-i.i (length (operations_of c.index-envelopes-order.result))
          c.loop-i.id_pool _ c.loop-i-test.true (few_of c.index-envelopes-order.result within) sound.ids
          c.loop-i.invariant.2),
    )

pub returns-clause-results : goal.returns-clause-results
returns-clause-results g c =
    (finished (setting_of c.args.setting.now) c.args.setting.now.header.now.id_pool
    c.args.envelopes.now c.args.order.now c.args.fees.now c.args.results.now c.loop-i.results c.args.entries.now
    c.loop-i.entries c.loop-i.id_pool c.loop-i.i c.loop-i.invariant.0 (search rules)).results

pub returns-clause-entries : goal.returns-clause-entries
returns-clause-entries g c =
    (finished (setting_of c.args.setting.now) c.args.setting.now.header.now.id_pool
    c.args.envelopes.now c.args.order.now c.args.fees.now c.args.results.now c.loop-i.results c.args.entries.now
    c.loop-i.entries c.loop-i.id_pool c.loop-i.i c.loop-i.invariant.0 (search rules)).entries

pub returns-clause-id_pool : goal.returns-clause-id_pool
returns-clause-id_pool g c =
    (finished (setting_of c.args.setting.now) c.args.setting.now.header.now.id_pool
    c.args.envelopes.now c.args.order.now c.args.fees.now c.args.results.now c.loop-i.results c.args.entries.now
    c.loop-i.entries c.loop-i.id_pool c.loop-i.i c.loop-i.invariant.0 (search rules)).ids
