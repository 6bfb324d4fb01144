use Rattle.change_stream.proofs.Prelude.{Fits, IsMade, subst}
use Rattle.change_stream.proofs.Applied.{all_made, made_next, stopped}
use Rattle.change_stream.proofs.applying.make_all.Goals as goal

pub loop-change-preserved : goal.loop-change-preserved
loop-change-preserved g c =
    let k = c.loop-change.change-index in
    let d = c.change-item.result in
    made_next c.args.entries.now c.loop-change.entries c.make.new.entries c.args.list.now k c.loop-change.index d
    c.loop-change-test.true c.loop-change.invariant
    (subst (λ x. Fits c.loop-change.entries.current x) c.change-item.is (c.in_ok-fits.ensures.0 c.if-not-branch.false))
    (subst (λ x. IsMade c.loop-change.entries x c.make.new.entries) c.change-item.is c.in_ok-make.ensures)

pub returns-then-not-branch : goal.returns-then-not-branch
returns-then-not-branch g c =
    let k = c.loop-change.change-index in
    let d = c.change-item.result in
    stopped c.args.entries.now c.loop-change.entries c.args.list.now k c.loop-change.index d
    c.loop-change-test.true c.loop-change.invariant
    (subst (λ x. Fits c.loop-change.entries.current x → ⊥) c.change-item.is
    (λ fits. let t = c.in_ok-fits.ensures.1 fits in cc (t, c.if-not-branch.true)))

pub returns : goal.returns
returns g c = all_made c.args.entries.now c.loop-change.entries c.args.list.now c.loop-change.change-index
    c.loop-change.index c.loop-change-test.false c.loop-change.invariant
