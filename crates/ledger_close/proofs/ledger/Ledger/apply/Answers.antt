use Rattle.ledger_close.proofs.Prelude.{◌≡◌, subst, sym, ◌∙◌, None, set_fault, applied_in, set_encoded, state_of}
use Rattle.ledger_close.proofs.Prelude.{FaultIs, Worked, Leaves, LedgerAt, List, Ok, ClosingState, CloseRecord}
use Rattle.ledger_close.proofs.Prelude.{setting_in, IsAnswer}
use Rattle.op_types.specs.declared.vouch.Vouch.{Vouch}
use Rattle.close_laws.specs.tx_apply.Laws.{IsConserved}
use Rattle.close_laws.specs.tx_apply.Set.{Setting}
use Rattle.ledger_close.proofs.Works.{refused_set, applied_set, applied_done, applied_keyed}
use Rattle.ledger_close.proofs.Works.{applied_batch, applied_index, keyed_by}
use Rattle.ledger_close.proofs.ledger.Ledger.apply.Goals as goal

pub apply_set_in_order-requires-clause-within : goal.apply_set_in_order-requires-clause-within
apply_set_in_order-requires-clause-within c = (set_encoded c.args.closing.now c.requires.encoded).within

pub returns-in-Err : goal.returns-in-Err
returns-in-Err c =
    let l = c.self.inside in
    let s = state_of l.network l.header l.levels.pairs l.entries in
    let here = refused_set s c.args.closing.now c.in_ok-entries.entries c.apply_set_in_order.new.entries c.in-Err.fault
    c.in_ok-entries.ensures c.in-Err.ensures.answer in
    let recorded = subst (λ f. FaultIs f (λ g. set_fault s c.args.closing.now ≡ Rattle.std.proofs.Common.Some g))
    (sym c.fault_of.ensures) here in
    subst (λ (x : LedgerAt). FaultIs c.fault_of.result
    (λ g. set_fault x.state c.args.closing.now ≡ Rattle.std.proofs.Common.Some g)) c.self.view_is recorded

-- the vouches of the record, however they are found
abbrev with_vouches : ClosingState → CloseRecord → List Vouch → Setting
with_vouches s closing vouches = record (setting_in s closing) { vouches = vouches }

pub returns : goal.returns
returns c =
    let l = c.self.inside in
    let s = state_of l.network l.header l.levels.pairs l.entries in
    let closing = c.args.closing.now in
    let begun = c.in_ok-entries.ensures in
    let old = c.in_ok-entries.entries in
    let new = c.apply_set_in_order.new.entries in
    let same = c.in_ok-vouches.ensures ∙ c.vouched.ensures in
    let answer = subst (λ v. IsAnswer (with_vouches s closing v) closing.tx_set old new (Ok c.in-Ok.done)) same
    c.in-Ok.ensures.answer in
    let conserved = subst (λ v. IsConserved (with_vouches s closing v) closing.tx_set old.current) same
    c.in-Ok.ensures.conserved in
    let keyed = applied_keyed s closing old begun conserved in
    let batch = applied_batch s closing old new c.in-Ok.done c.in_ok-batch.batch begun answer c.in_ok-batch.ensures in
    let next = c.stamp_batch.ensures.next s.entries (applied_in s closing).entries keyed batch in
    let index = applied_index s closing old new c.in-Ok.done c.in_ok-offers.offers begun answer
    c.in_ok-offers.ensures in
    let before = keyed_by s.entries c.self.invariant.state.legal.keyed in
    let worked : Worked = record {
      done = c.in-Ok.done;
      offers = c.in_ok-offers.offers;
      batch = c.stamp_batch.new.batch;
    } in
    subst (λ (x : LedgerAt). (set_fault x.state closing ≡ None) × Leaves x.state closing worked) c.self.view_is (
      applied_set s closing old new c.in-Ok.done begun answer,
      record {
        done = applied_done s closing old new c.in-Ok.done begun answer;
        entries = next.0;
        batch = next.1;
        index = c.stamp_batch.ensures.index s.entries (applied_in s closing).entries c.in_ok-offers.offers before index
            batch;
      },
    )
