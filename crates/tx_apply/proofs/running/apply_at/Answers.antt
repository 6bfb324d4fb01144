use Rattle.tx_apply.proofs.Prelude.{rules, HasAccount, inserted}
use Rattle.tx_apply.proofs.Lawful.{underway_at_index}
use Rattle.tx_apply.proofs.running.apply_at.Goals as goal

pub apply_operation-requires-clause-ready : goal.apply_operation-requires-clause-ready
apply_operation-requires-clause-ready g c = c.transaction_laws.ensures.ready _ _ c.requires.underway.settled

pub apply_operation-requires-clause-in_range : goal.apply_operation-requires-clause-in_range
apply_operation-requires-clause-in_range g c = c.transaction_laws.ensures.in_range _ _ c.requires.underway.settled

pub apply_operation-requires-clause-legal : goal.apply_operation-requires-clause-legal
apply_operation-requires-clause-legal g c = c.requires.underway.settled.legal

pub apply_operation-requires-clause-sound : goal.apply_operation-requires-clause-sound
apply_operation-requires-clause-sound g c = c.transaction_laws.ensures.sound _ _ c.requires.underway.settled

pub apply_operation-requires-clause-amounts : goal.apply_operation-requires-clause-amounts
apply_operation-requires-clause-amounts g c = c.transaction_laws.ensures.amounts _ _ c.requires.underway.settled

pub apply_operation-requires-clause-manageable : goal.apply_operation-requires-clause-manageable
apply_operation-requires-clause-manageable g c =
    let own = c.source_of-own.result in
    let exists : HasAccount c.args.entries.now.current own = search rules in
    c.transaction_laws.ensures.manageable (inserted c.args.ctx.now c.args.index own) c.args.entries.now.current
    (underway_at_index c.args.ctx.now c.args.index own c.args.entries.now.current c.requires.underway) exists
    (search (rules, c.requires.ids))
