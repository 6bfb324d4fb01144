use Rattle.worker_merges.proofs.Prelude.{◌<◌, length, subst, sym, rules, IsManned, HasEnded}
use Rattle.worker_merges.proofs.working.work_all.Goals as goal

pub for_each_mut-requires-clause-accepts : goal.for_each_mut-requires-clause-accepts
for_each_mut-requires-clause-accepts g c κs within = λ i slot lt is.
    let manned = subst (IsManned c.args.room.now) (sym is) (c.requires i slot.now lt) in
    ((search rules, search rules, manned), (search rules, search rules))

pub returns-clause-ended : goal.returns-clause-ended
returns-clause-ended g c = λ i slot lt.
    let inside : i < length c.args.slots.now = search (rules, lt) in
    let e = c.for_each_mut.ensures i slot inside in
    subst (HasEnded c.args.room.now) e.1.left e.1.call
