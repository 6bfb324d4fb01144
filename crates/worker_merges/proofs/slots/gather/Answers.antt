use Rattle.worker_merges.proofs.Prelude.{arith}
use Rattle.worker_merges.proofs.Gathering.{one_popped, one_gathered}
use Rattle.worker_merges.proofs.slots.gather.Goals as goal

pub end_of-requires : goal.end_of-requires
end_of-requires c =
    let ended = c.loop-slot.invariant.ended in (
      ended.0,
      (one_popped ended.0 c.loop-slot.slots.items c.pop.new.self.items c.in-Some.slot c.in-Some.ensures.items
          ended.1).1,
    )

pub loop-slot-preserved : goal.loop-slot-preserved
loop-slot-preserved c =
    let it = c.loop-slot.invariant in
    let popped = c.in-Some.ensures in
    let pushed = c.push_reserved.ensures in
    let count = it.count in
    let one_popped_len = popped.len in
    let one_pushed_len = pushed.len in
    record {
      count = omega (arith, count, one_popped_len, one_pushed_len);
      memory = (let fits = it.memory in let same = pushed.capacity in
          omega (arith, fits, same, one_popped_len, one_pushed_len));
      ended = (
        it.ended.0,
        (one_popped it.ended.0 c.loop-slot.slots.items c.pop.new.self.items c.in-Some.slot
            popped.items it.ended.1).0,
      );
      each = λ room all.
          one_gathered room c.loop-slot.slots.items c.pop.new.self.items c.in-Some.slot c.end_of.result
          c.loop-slot.ends.items c.push_reserved.new.self.items popped.items (c.end_of.ensures room) pushed.items
          (it.each room all);
    }
