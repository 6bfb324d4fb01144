use Rattle.tx_apply.proofs.Prelude.{◌≡◌, List, length, sym, ap, subst, rules, TransactionEnvelope, Undo}
use Rattle.tx_apply.proofs.Prelude.{envelopes_within, IsSettled, envelopes_at}
use Rattle.tx_apply.proofs.TakenFees.{all_taken, counted}
use Rattle.tx_apply.proofs.Placed.{as_many}
use Rattle.tx_apply.proofs.set.apply_in_order.Goals as goal

pub apply_all-requires-clause-settled : goal.apply_all-requires-clause-settled
apply_all-requires-clause-settled g c =
    subst (IsSettled c.args.setting.now.header.now.id_pool)
    (ap (λ (u : Undo). u.current) (sym c.in_ok-fee_pool.ensures.entries))
    (all_taken c.transaction_laws.ensures c.args.setting.now.header.now.id_pool _ _ c.args.entries.now.current
    c.requires.settled).settled

pub apply_all-requires-clause-within : goal.apply_all-requires-clause-within
apply_all-requires-clause-within g c =
    let within = envelopes_within c.args.set.now c.requires.within in
    search (rules, within)

pub apply_all-requires-clause-fees : goal.apply_all-requires-clause-fees
apply_all-requires-clause-fees g c =
    let many = counted _ _ _ _ _ _ c.in_ok-fee_pool.ensures.fees c.new-fees.ensures
    (subst (λ (es : List TransactionEnvelope). length (envelopes_at es c.args.order.now) ≡ length c.args.order.now)
    (sym c.as_slice-envelopes.ensures) (as_many c.args.set.now.txs c.args.order.now c.requires.indices)) in
    search (rules, many)
