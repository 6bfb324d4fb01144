use Rattle.merge_board.proofs.Prelude.{◌+◌, sym, subst, view, AllByRecursion, IsWorkerEndOf, AreTakenIn, Hand, Log}
use Rattle.merge_board.proofs.Lists.{every_prefix}
use Rattle.merge_board.proofs.Settling.{one_taken_in}
use Rattle.merge_board.proofs.parts.Room.take_in_all.Goals as goal

pub loop-end-preserved : goal.loop-end-preserved
loop-end-preserved c =
    let room = c.args.self.now in
    let it = c.loop-end in
    let end = c.in-Some.end in
    let rest = c.pop.new.self.items in
    let is = c.in-Some.ensures.items in record {
      jobs = c.take_in.ensures.jobs;
      outs = c.take_in.ensures.outs;
      ends = (every_prefix (IsWorkerEndOf room) rest end
          (subst (AllByRecursion (IsWorkerEndOf room)) is it.invariant.ends)).0;
      all = subst (λ (x : Hand × Log).
          AreTakenIn c.args.ends.items rest (view c.args.hand.now) x.0 (view c.args.log.now) x.1
          (it.taken + end.taken) (it.pushed + end.pushed))
          (λ i. (sym c.take_in.ensures.hand i, sym c.take_in.ensures.log i))
          (one_taken_in c.args.ends.items rest it.ends.items end (view c.args.hand.now) (view it.hand)
          (view c.args.log.now) (view it.log) it.taken it.pushed it.invariant.all is);
    }
