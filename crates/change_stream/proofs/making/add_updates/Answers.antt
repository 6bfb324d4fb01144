use Rattle.change_stream.proofs.Prelude.{inr, option_to_list, subst, update_in, ◌++◌, ◌≡◌}
use Rattle.change_stream.proofs.Gathering.{filtered_all, filtered_more, keyed_all}
use Rattle.change_stream.proofs.making.add_updates.Goals as goal

pub loop-after-preserved : goal.loop-after-preserved
loop-after-preserved g c =
    let base = g.B.Base.entries c.args.base.now in
    let now = c.loop-after.keyed.items in
    let next = c.add_update.new.keyed.items in
    record {
      items = filtered_more c.args.live.now c.loop-after.after-index c.after-item.result c.args.keyed.now.items now next
          c.loop-after-test.true (update_in base) c.loop-after.invariant.items
          (subst (λ x. next ≡ now ++ option_to_list (update_in base x)) c.after-item.is
          c.in_ok-add_update.ensures.items);
      keyed = inr c.in_ok-add_update.ensures.keyed;
    }

pub returns : goal.returns
returns g c =
    let base = g.B.Base.entries c.args.base.now in
    record {
      items = filtered_all c.args.live.now c.loop-after.after-index c.loop-after-test.false (update_in base)
          c.args.keyed.now.items c.loop-after.keyed.items c.loop-after.invariant.items;
      keyed = keyed_all c.args.live.now c.loop-after.after-index c.loop-after-test.false base
          c.loop-after.invariant.keyed;
    }
