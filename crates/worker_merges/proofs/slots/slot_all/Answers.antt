use Rattle.worker_merges.proofs.Prelude.{sym, subst, refl, rules, All-push, All, AllByRecursion, IsWorkerOf}
use Rattle.worker_merges.proofs.Prelude.{every_prefix, IsManned}
use Rattle.worker_merges.proofs.slots.slot_all.Goals as goal

pub loop-worker-preserved : goal.loop-worker-preserved
loop-worker-preserved c =
    let rest = c.pop.new.self.items in
    let worker = c.in-Some.worker in
    let popped = c.in-Some.ensures.items in
    record {
      count = search rules;
      manned = λ room each.
          let so_far = c.loop-worker.invariant.manned room each in
          let parted = every_prefix (IsWorkerOf room) rest worker
          (subst (AllByRecursion (IsWorkerOf room)) popped so_far.0) in (
            parted.0,
            subst (All (IsManned room)) (sym c.in_ok-push.ensures.items)
                (All-push (IsManned room) c.loop-worker.slots.items _ so_far.1
                (record { worker = worker; exists = refl; of = parted.1 })),
          );
    }

pub returns-clause-manned : goal.returns-clause-manned
returns-clause-manned c = λ room each. (c.loop-worker.invariant.manned room each).1
