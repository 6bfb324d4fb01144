use Rattle.change_stream.proofs.Prelude.{inr, option_to_list, removal_in, subst, ◌++◌, ◌≡◌}
use Rattle.change_stream.proofs.Gathering.{filtered_all, filtered_more, keyed_all}
use Rattle.change_stream.proofs.making.add_removals.Goals as goal

pub loop-key-preserved : goal.loop-key-preserved
loop-key-preserved g c =
    let base = g.B.Base.entries c.args.base.now in
    let now = c.loop-key.keyed.items in
    let next = c.add_removal.new.keyed.items in
    record {
      items = filtered_more c.args.dead.now c.loop-key.key-index c.key-item.result c.args.keyed.now.items now next
          c.loop-key-test.true (removal_in base) c.loop-key.invariant.items
          (subst (λ x. next ≡ now ++ option_to_list (removal_in base x)) c.key-item.is
          c.in_ok-add_removal.ensures.items);
      keyed = inr c.in_ok-add_removal.ensures.keyed;
    }

pub returns : goal.returns
returns g c =
    let base = g.B.Base.entries c.args.base.now in
    record {
      items = filtered_all c.args.dead.now c.loop-key.key-index c.loop-key-test.false (removal_in base)
          c.args.keyed.now.items c.loop-key.keyed.items c.loop-key.invariant.items;
      keyed = keyed_all c.args.dead.now c.loop-key.key-index c.loop-key-test.false base
          c.loop-key.invariant.keyed;
    }
