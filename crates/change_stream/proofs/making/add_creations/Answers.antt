use Rattle.change_stream.proofs.Prelude.{[], creation, subst, ◌++◌, ◌∷◌, ◌≡◌}
use Rattle.change_stream.proofs.Gathering.{mapped_all, mapped_more}
use Rattle.change_stream.proofs.making.add_creations.Goals as goal

pub loop-after-preserved : goal.loop-after-preserved
loop-after-preserved c =
    let now = c.loop-after.keyed.items in
    let next = c.add_creation.new.keyed.items in
    mapped_more c.args.init.now c.loop-after.after-index c.after-item.result c.args.keyed.now.items now next
    c.loop-after-test.true creation c.loop-after.invariant
    (subst (λ x. next ≡ now ++ creation x ∷ []) c.after-item.is c.in_ok-add_creation.ensures)

pub returns : goal.returns
returns c =
    mapped_all c.args.init.now c.loop-after.after-index c.loop-after-test.false creation c.args.keyed.now.items
    c.loop-after.keyed.items c.loop-after.invariant
